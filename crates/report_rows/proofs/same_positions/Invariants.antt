use Prim.Native.Nat.{ℕ, ◌+◌}
use mathlib.Core.Bool.{Bool, true}
use mathlib.Core.List.{List}
use mathlib.Core.Path.{◌≡◌}
use lib.ListN.{get_or}
use Rattle.base_laws.specs.Definitions.{all_below}
use Rattle.base_ids.specs.declared.Position.{Position}
use Rattle.report_views.specs.Definitions.{start}
use Rattle.report_rows.specs.Comparisons.{record_same}
use Rattle.report_rows.proofs.same_positions.Given as goal

abbrev same : List Position → List ℕ → ℕ → ℕ → Bool
same positions b count s = record_same (get_or positions s start) b (count + s)

abbrev pub invariant-loop-s : goal.invariant-loop-s
invariant-loop-s l = all_below l.s (same l.positions l.body l.count) ≡ true
