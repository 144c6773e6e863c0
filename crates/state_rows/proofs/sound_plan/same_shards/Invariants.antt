use Prim.Native.Nat.{ℕ}
use mathlib.Core.Bool.{Bool, true, ◌&&◌}
use mathlib.Core.List.{List}
use mathlib.Core.Path.{◌≡◌}
use lib.Dec.{eqb}
use lib.ListN.{get_or}
use Rattle.base_laws.specs.Definitions.{all_below}
use Rattle.base_ids.specs.declared.Node.{Node}
use Rattle.base_ids.specs.declared.Position.{Position}
use Rattle.report_views.specs.Definitions.{start, node_at, same_position}
use Rattle.state_rows.proofs.sound_plan.same_shards.Given as goal

abbrev same : List Node → List Position → List Node → List Position → ℕ → Bool
same holders targets others goals s = eqb (node_at holders s) (node_at others s) && same_position (get_or targets s start) (get_or goals s start)

abbrev pub invariant-loop-s : goal.invariant-loop-s
invariant-loop-s l = all_below l.s (same l.holders l.targets l.others l.goals) ≡ true
