use Rattle.program_text.specs.Definitions.{Puts}
use Rattle.program_lines.specs.Definitions.{shard_lines}
use Rattle.program_lines.proofs.put_shards.Given as goal

abbrev pub invariant-loop-s : goal.invariant-loop-s
invariant-loop-s l = Puts l.initial.out l.at (shard_lines l.plan l.s) l.out l.next
