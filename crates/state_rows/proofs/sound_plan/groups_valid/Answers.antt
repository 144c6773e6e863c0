-- `state_rows::sound_plan::groups_valid` meets its contract: The invariant: every subgroup below g is valid. Assumes nothing.
use Prim.Native.Nat.{ℕ}
use mathlib.Core.Bool.{Bool}
use mathlib.Core.List.{List}
use mathlib.Core.Path.{sym, ◌∙◌}
use native.Mathlib.Omega.{arith}
use Rattle.base_laws.specs.Below.{all_none}
use Rattle.base_laws.proofs.Below.{all_more, all_fails, all_fewer}
use Rattle.place_groups.specs.Definitions.{group_valid}
use Rattle.report_views.specs.declared.Layout.{Layout}
use Rattle.report_views.specs.Definitions.{mask_at}
use Rattle.state_rows.specs.Matches.{groups_valid}
use Rattle.state_rows.proofs.sound_plan.groups_valid.Goals as goal

abbrev ok : List ℕ → ℕ → Layout → ℕ → Bool
ok σ held w = group_valid σ held (mask_at w)

pub loop-g-init : goal.loop-g-init
loop-g-init c = let a = c.args in all_none (ok a.settings.now a.held a.w)

pub returns-then-not-group_valid : goal.returns-then-not-group_valid
unfolding groups_valid
returns-then-not-group_valid c = let a = c.args in
    let k = c.group_valid in
    sym (all_fails 4 (ok a.settings.now a.held a.w) c.loop-g.g (omega arith) (sym k.ensures ∙ c.if-not-group_valid.true))

pub loop-g-preserved : goal.loop-g-preserved
loop-g-preserved c = let a = c.args in
    let k = c.group_valid in
    let l = c.loop-g in all_more l.g (ok a.settings.now a.held a.w) l.invariant (sym k.ensures ∙ c.if-not-group_valid.false)

pub returns : goal.returns
unfolding groups_valid
returns c = let a = c.args in
    let l = c.loop-g in
    sym (all_fewer 4 l.g (ok a.settings.now a.held a.w) (omega arith) l.invariant)
