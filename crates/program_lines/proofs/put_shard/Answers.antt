-- `program_lines::put_shard` meets its contract. Assumes nothing.
use Rattle.program_text.specs.Puts.{puts_as}
use Rattle.program_lines.specs.Lines.{shard-text}
use Rattle.program_lines.proofs.put_shard.Goals as goal

pub returns : goal.returns
returns c = puts_as (shard-text _ _) c.put_entry.ensures
