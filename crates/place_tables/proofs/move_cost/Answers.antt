-- `place_tables::move_cost` meets its contract. The invariant: the cost is one more than what the shards below s may have over their needs,
-- at most 15 each. Assumes nothing.
use Prim.Native.Nat.{ℕ, ◌+◌, ◌-◌}
use mathlib.Core.Path.{◌≡◌, ap, ◌∙◌}
use mathlib.Core.List.{List}
use native.Mathlib.Omega.{arith}
use Rattle.base_sum_laws.specs.Definitions.{sum_below}
use Rattle.base_sum_laws.specs.Sums.{sum_zero}
use Rattle.base_sum_laws.proofs.Sums.{sum_next}
use Rattle.place_laws.specs.Cases.{need_in, cap_in, move_cost}
use Rattle.place_tables.proofs.move_cost.Goals as goal

abbrev spares : List ℕ → ℕ → ℕ → ℕ
spares σ g s = cap_in σ g s - need_in σ g s

pub loop-s-init : goal.loop-s-init
loop-s-init c = let a = c.args in (omega (arith, sum_zero (spares a.settings.now a.g)), omega arith)

pub overflow_add-cost : goal.overflow_add-cost
overflow_add-cost c = omega (arith, c.spare_at-cost.ensures.upper_bound)

pub loop-s-preserved : goal.loop-s-preserved
loop-s-preserved c =
    let a = c.args in
    let l = c.loop-s in (omega (arith, l.invariant.0, c.spare_at-cost.ensures.value, sum_next l.s (spares a.settings.now a.g)), omega (arith, c.spare_at-cost.ensures.upper_bound))

pub returns : goal.returns
unfolding move_cost
returns c =
    let a = c.args in
    let l = c.loop-s in
    let e : l.s ≡ 16 = omega arith in l.invariant.0 ∙ ap (λ (n : ℕ). 1 + sum_below n (spares a.settings.now a.g)) e
