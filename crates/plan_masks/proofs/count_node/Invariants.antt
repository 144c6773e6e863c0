use mathlib.Core.Path.{◌≡◌}
use lib.ListN.{length}
use Rattle.base_laws.specs.Tables.{filled}
use Rattle.plan_masks.specs.Counting.{counted_at}
use Rattle.plan_masks.proofs.count_node.Given as goal

abbrev pub invariant-loop-s : goal.invariant-loop-s
invariant-loop-s l = (length l.masks ≡ 16) × (l.masks ≡ filled l.s (counted_at l.holders l.node.0 l.initial.masks) l.initial.masks)
