use Prim.Native.Nat.{◌-◌}
use Rattle.message_format.specs.Definitions.{following}
use Rattle.message_reader.specs.Bodies.{Gathering}
use Rattle.message_reader.proofs.contents_of.Given as goal

abbrev pub invariant-loop-at : goal.invariant-loop-at
invariant-loop-at l = Gathering l.words l.body l.len l.at

abbrev pub decreases-loop-at : goal.decreases-loop-at
decreases-loop-at l = following l.words - l.len
