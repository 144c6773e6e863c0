-- `place_groups::check::group_moves` meets its contract. The invariant: the total is the sum over the shards below s, of at most 32 each.
-- Assumes nothing.
use Prim.Native.Nat.{ℕ}
use mathlib.Core.List.{List}
use mathlib.Core.Path.{◌≡◌, sym, ap, ◌∙◌}
use native.Mathlib.Omega.{arith}
use lib.ListN.{get_or}
use Rattle.base_sum_laws.specs.Definitions.{sum_below}
use Rattle.base_sum_laws.specs.Sums.{sum_zero}
use Rattle.base_sum_laws.proofs.Sums.{sum_next}
use Rattle.settings_values.specs.Definitions.{shards}
use Rattle.place_groups.specs.Definitions.{group_moves, group_moves_at}
use borrow.Author.Rules.{rules}
use Rattle.place_groups.proofs.check.group_moves.Goals as goal

abbrev at : List ℕ → List ℕ → List ℕ → ℕ → ℕ → ℕ
at σ old masks g = group_moves_at σ (λ i. get_or old i 0) (λ i. get_or masks i 0) g

pub loop-s-init : goal.loop-s-init
loop-s-init c = let a = c.args in (sym (sum_zero (at a.settings.now a.old.now a.masks.now a.g)), search rules)

pub overflow_add-total : goal.overflow_add-total
overflow_add-total c = omega (arith, c.shards-count.ensures, c.requires.sizes.shards_to, c.moves_at-total.ensures.upper_bound)

pub loop-s-preserved : goal.loop-s-preserved
loop-s-preserved c = let a = c.args in
    let l = c.loop-s in
    let f : ℕ → ℕ = at a.settings.now a.old.now a.masks.now a.g in (omega (arith, l.invariant.0, c.moves_at-total.ensures.value, sum_next l.s f), omega (arith, c.moves_at-total.ensures.upper_bound))

pub returns : goal.returns
unfolding group_moves
returns c = let a = c.args in
    let l = c.loop-s in
    let f : ℕ → ℕ = at a.settings.now a.old.now a.masks.now a.g in
    let e : l.s ≡ shards a.settings.now = omega (arith, c.shards-count.ensures) in
    l.invariant.0 ∙ ap (λ (n : ℕ). sum_below n f) e
