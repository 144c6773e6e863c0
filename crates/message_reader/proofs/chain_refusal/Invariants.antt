use Prim.Native.Nat.{◌-◌}
use Rattle.message_format.specs.Shorthands.{records}
use Rattle.message_reader.specs.Walks.{CameTo}
use Rattle.message_reader.proofs.chain_refusal.Given as goal

abbrev pub invariant-loop-at : goal.invariant-loop-at
invariant-loop-at l = CameTo l.words l.at

abbrev pub decreases-loop-at : goal.decreases-loop-at
decreases-loop-at l = records l.words - l.at
