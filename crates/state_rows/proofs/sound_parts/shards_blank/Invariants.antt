use Prim.Native.Nat.{ℕ}
use mathlib.Core.Bool.{Bool, true, ◌&&◌}
use mathlib.Core.List.{List}
use mathlib.Core.Path.{◌≡◌}
use lib.Dec.{eqb}
use lib.ListN.{get_or}
use Rattle.base_laws.specs.Definitions.{all_below}
use Rattle.base_ids.specs.declared.Node.{Node}
use Rattle.base_ids.specs.declared.Position.{Position}
use Rattle.report_views.specs.Definitions.{is_start, start, node_at}
use Rattle.state_rows.proofs.sound_parts.shards_blank.Given as goal

abbrev ok : List Node → List Position → ℕ → Bool
ok holders targets s = eqb (node_at holders s) 0 && is_start (get_or targets s start)

abbrev pub invariant-loop-s : goal.invariant-loop-s
invariant-loop-s l = all_below l.s (ok l.holders l.targets) ≡ true
