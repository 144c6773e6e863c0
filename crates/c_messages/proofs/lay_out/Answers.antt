-- At the loop's head the first k words of the body stand after the head's three.
use Prim.Native.Nat.{ℕ, ◌+◌}
use mathlib.Core.Path.{◌≡◌, ap, ◌∙◌}
use mathlib.Core.List.{List}
use native.Mathlib.Omega.{arith}
use lib.Dec.{lit≤}
use lib.ListN.{set, get_or}
use Rattle.c_messages.specs.Layout.{laid_out, headed, laid_start, laid_more, laid_end}
use Rattle.c_messages.proofs.lay_out.Goals as goal

pub loop-k-init : goal.loop-k-init
loop-k-init c = laid_start (headed c.args.c.now) c.args.c.now.body (lit≤ tt)

pub bounds-words-k : goal.bounds-words-k
bounds-words-k c = omega arith

pub loop-k-preserved : goal.loop-k-preserved
loop-k-preserved c =
    let x = c.args.c.now in
    let l = c.loop-k in ap (λ (w : List ℕ). set w (l.k + 3) (get_or x.body l.k 0)) l.invariant
    ∙ laid_more (headed x) x.body l.k (omega arith)

pub returns : goal.returns
returns c =
    let x = c.args.c.now in
    let l = c.loop-k in
    let all : l.k ≡ 381 = omega arith in
    l.invariant ∙ ap (laid_out (headed x) x.body) all ∙ laid_end x
