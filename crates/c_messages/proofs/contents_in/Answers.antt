-- At the loop's head the first k words of the body are stored.
use Prim.Native.Nat.{ℕ, ◌+◌}
use mathlib.Core.Path.{◌≡◌, refl, sym, ap, ◌∙◌}
use mathlib.Core.List.{List}
use native.Mathlib.Omega.{arith}
use lib.ListN.{get_or, set, replicate}
use Rattle.base_laws.specs.Tables.{filled, filled_none, filled_more, filled_all}
use Rattle.c_messages.specs.WriteCalls.{contents_from}
use Rattle.c_messages.proofs.contents_in.Goals as goal

pub loop-k-init : goal.loop-k-init
loop-k-init c = sym (filled_none _ _)

pub loop-k-preserved : goal.loop-k-preserved
loop-k-preserved c =
    let w = c.args.table.now in
    let l = c.loop-k in ap (λ (b : List ℕ). set b l.k (get_or w (l.k + 3) 0)) l.invariant
    ∙ filled_more l.k (λ i. get_or w (i + 3) 0) (replicate 381 0) (omega arith)

pub returns : goal.returns
returns c =
    let w = c.args.table.now in
    let l = c.loop-k in
    let all : l.k ≡ 381 = omega arith in
    contents_from w _ _ _ c.record_count.ensures
    (l.invariant ∙ ap (λ (k : ℕ). filled k (λ i. get_or w (i + 3) 0) (replicate 381 0)) all ∙ filled_all 381 (λ i. get_or w (i + 3) 0) (replicate 381 0) refl)
