use mathlib.Core.Path.{◌≡◌}
use Rattle.base_sum_laws.specs.Definitions.{mask_below}
use Rattle.place_groups.specs.Definitions.{of_group}
use Rattle.plan_page.proofs.shards_of.Given as goal

abbrev pub invariant-loop-s : goal.invariant-loop-s
invariant-loop-s l = l.mask ≡ mask_below l.s (of_group l.settings l.g)
