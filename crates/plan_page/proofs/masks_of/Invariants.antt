use mathlib.Core.Path.{◌≡◌}
use lib.ListN.{replicate, get_or}
use Rattle.base_laws.specs.Tables.{filled}
use Rattle.plan_page.specs.Definitions.{mask_shown}
use Rattle.plan_page.proofs.masks_of.Given as goal

abbrev pub invariant-loop-s : goal.invariant-loop-s
invariant-loop-s l = l.list ≡ filled l.s (mask_shown l.settings l.g (λ k. get_or l.masks k 0)) (replicate 16 0)
