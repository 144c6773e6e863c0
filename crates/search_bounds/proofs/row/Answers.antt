-- The loop's invariant: the sum so far is that of the sets below f. Assumes nothing.
use Prim.Native.Nat.{◌+◌, ◌*◌, min}
use mathlib.Core.Path.{sym, ◌∙◌}
use native.Mathlib.Omega.{arith}
use lib.ListN.{get_or}
use Rattle.base_sum_laws.specs.Sums.{sum_zero, sum_done}
use Rattle.base_sum_laws.proofs.Sums.{sum_none, sum_turn}
use Rattle.search_bounds.proofs.row.Goals as goal

pub returns-then-want-eq0 : goal.returns-then-want-eq0
returns-then-want-eq0 c = let s = c in
    (sym (sum_none 16 (λ f. min s.args.want (get_or s.args.pairs.now (s.args.i * 16 + f) 0)) (λ f l. omega (arith, c.if-want-eq0.true))), omega arith)

pub loop-f-init : goal.loop-f-init
loop-f-init c = (omega arith, sym (sum_zero _))

pub loop-f-preserved : goal.loop-f-preserved
loop-f-preserved c = (omega arith, sum_turn _ _ _ _ c.loop-f.invariant.1 (c.word-sum.ensures.0 ∙ c.smaller.ensures))

pub returns : goal.returns
returns c = (sum_done c.loop-f.auto.f-end c.loop-f-test.false _ _ c.loop-f.invariant.1, omega arith)
