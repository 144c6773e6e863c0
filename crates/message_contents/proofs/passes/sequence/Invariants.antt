use mathlib.Core.Path.{◌≡◌}
use mathlib.Core.Bool.{true}
use Rattle.base_laws.specs.Definitions.{all_below}
use Rattle.message_format.specs.Definitions.{carried_by, sequence_at}
use Rattle.message_contents.proofs.passes.sequence.Given as goal

abbrev pub invariant-loop-j : goal.invariant-loop-j
invariant-loop-j l = (l.carried ≡ carried_by l.c.node.0 l.c.body l.j) × (all_below l.j (sequence_at l.c.node.0 l.c.body) ≡ true)
