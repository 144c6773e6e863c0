use mathlib.Core.Path.{◌≡◌}
use mathlib.Core.Bool.{false}
use Rattle.base_laws.specs.Definitions.{any_below}
use Rattle.place_groups.specs.Definitions.{of_group}
use Rattle.place_layout.proofs.has_shards.Given as goal

abbrev pub invariant-loop-s : goal.invariant-loop-s
invariant-loop-s l = any_below l.s (of_group l.settings l.g) ≡ false
