use Prim.Native.Nat.{ℕ}
use mathlib.Core.Bool.{Bool, true}
use mathlib.Core.List.{List}
use mathlib.Core.Path.{◌≡◌}
use Rattle.base_laws.specs.Definitions.{all_below}
use Rattle.place_groups.specs.Definitions.{group_valid}
use Rattle.report_views.specs.declared.Layout.{Layout}
use Rattle.report_views.specs.Definitions.{mask_at}
use Rattle.state_rows.proofs.sound_plan.groups_valid.Given as goal

abbrev ok : List ℕ → ℕ → Layout → ℕ → Bool
ok σ held w = group_valid σ held (mask_at w)

abbrev pub invariant-loop-g : goal.invariant-loop-g
invariant-loop-g l = all_below l.g (ok l.settings l.held l.w) ≡ true
