use mathlib.Core.Path.{◌≡◌}
use lib.ListN.{replicate}
use Rattle.base_laws.specs.Tables.{filled}
use Rattle.message_format.specs.Definitions.{members_of}
use Rattle.message_contents.proofs.records.masks_of.Given as goal

abbrev pub invariant-loop-s : goal.invariant-loop-s
invariant-loop-s l = l.masks ≡ filled l.s (members_of l.c.body) (replicate 16 0)
