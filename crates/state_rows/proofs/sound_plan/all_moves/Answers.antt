-- `state_rows::sound_plan::all_moves` meets its contract: The invariant: the total is the sum over the subgroups below g, each below 2 ^ 32. Assumes nothing.
use Prim.Native.Nat.{ℕ}
use mathlib.Core.List.{List}
use mathlib.Core.Path.{◌≡◌, sym, ap, ◌∙◌}
use native.Mathlib.Omega.{arith}
use Rattle.place_groups.specs.Definitions.{group_moves}
use Rattle.base_sum_laws.specs.Definitions.{sum_below}
use Rattle.base_sum_laws.specs.Sums.{sum_zero}
use Rattle.base_sum_laws.proofs.Sums.{sum_next}
use Rattle.report_views.specs.declared.Layout.{Layout}
use Rattle.report_views.specs.Definitions.{mask_at, all_moves}
use borrow.Author.Rules.{rules}
use Rattle.state_rows.proofs.sound_plan.all_moves.Goals as goal

abbrev at : List ℕ → Layout → Layout → ℕ → ℕ
at σ old new = group_moves σ (mask_at old) (mask_at new)

pub loop-g-init : goal.loop-g-init
loop-g-init c = let a = c.args in (sym (sum_zero (at a.settings.now a.old a.new)), search rules)

pub loop-g-preserved : goal.loop-g-preserved
loop-g-preserved c = let a = c.args in
    let l = c.loop-g in
    let f : ℕ → ℕ = at a.settings.now a.old a.new in
    let e : c.group_moves.result ≡ f l.g = c.group_moves.ensures in (omega (arith, l.invariant.0, e, sum_next l.g f), omega arith)

pub returns : goal.returns
unfolding all_moves
returns c = let a = c.args in
    let l = c.loop-g in
    let f : ℕ → ℕ = at a.settings.now a.old a.new in
    let e : l.g ≡ 4 = omega arith in
    l.invariant.0 ∙ ap (λ (n : ℕ). sum_below n f) e
