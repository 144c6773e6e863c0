-- `plan_losses::group_needs` meets its contract. The invariant: the total is the sum over the shards below s, of at most 16 each.
-- Assumes nothing.
use Prim.Native.Nat.{ℕ}
use mathlib.Core.Path.{◌≡◌, sym, ap, ◌∙◌}
use native.Mathlib.Omega.{arith}
use Rattle.base_sum_laws.specs.Definitions.{sum_below}
use Rattle.base_sum_laws.specs.Sums.{sum_zero}
use Rattle.base_sum_laws.proofs.Sums.{sum_next}
use Rattle.settings_values.specs.Definitions.{shards}
use Rattle.plan_losses.specs.Needs.{need_of, group_needs}
use borrow.Author.Rules.{rules}
use Rattle.plan_losses.proofs.group_needs.Goals as goal

pub loop-s-init : goal.loop-s-init
loop-s-init c = let a = c.args in (sym (sum_zero (need_of a.settings.now a.g a.k)), search rules)

pub overflow_add-total : goal.overflow_add-total
overflow_add-total c = omega (arith, c.shards-count.ensures, c.requires.sizes.shards_to, c.need_of-total.ensures.upper_bound)

pub loop-s-preserved : goal.loop-s-preserved
loop-s-preserved c = let a = c.args in
    let l = c.loop-s in (omega (arith, l.invariant.0, c.need_of-total.ensures.value, sum_next l.s (need_of a.settings.now a.g a.k)), omega (arith, c.need_of-total.ensures.upper_bound))

pub returns : goal.returns
unfolding group_needs
returns c = let a = c.args in
    let l = c.loop-s in
    let e : l.s ≡ shards a.settings.now = omega (arith, c.shards-count.ensures) in
    l.invariant.0 ∙ ap (λ (n : ℕ). sum_below n (need_of a.settings.now a.g a.k)) e
