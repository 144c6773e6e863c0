use Prim.Native.Nat.{ℕ, ◌≤◌, ◌*◌}
use mathlib.Core.List.{List}
use mathlib.Core.Path.{◌≡◌}
use Rattle.place_groups.specs.Definitions.{group_moves}
use Rattle.base_sum_laws.specs.Definitions.{sum_below}
use Rattle.report_views.specs.declared.Layout.{Layout}
use Rattle.report_views.specs.Definitions.{mask_at}
use Rattle.state_rows.proofs.sound_plan.all_moves.Given as goal

abbrev at : List ℕ → Layout → Layout → ℕ → ℕ
at σ old new = group_moves σ (mask_at old) (mask_at new)

abbrev pub invariant-loop-g : goal.invariant-loop-g
invariant-loop-g l = (l.total ≡ sum_below l.g (at l.settings l.old l.new)) × (l.total ≤ 4294967296 * l.g)
