use mathlib.Core.Path.{◌≡◌}
use Rattle.message_format.specs.Definitions.{carried_by}
use Rattle.message_contents.proofs.records.carried_by.Given as goal

abbrev pub invariant-loop-j : goal.invariant-loop-j
invariant-loop-j l = l.mask ≡ carried_by l.c.node.0 l.c.body l.j
