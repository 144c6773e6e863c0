-- `program_lines::put_entry` meets its contract: the parts of the line one after another. Assumes nothing.
use Rattle.program_text.specs.Puts.{then-puts}
use Rattle.program_lines.specs.Lines.{shard_text}
use Rattle.program_lines.proofs.put_entry.Goals as goal

pub returns : goal.returns
unfolding shard_text
returns c = then-puts c.requires c.put_fields-first.ensures (then-puts c.put_fields-first.ensures.within c.put_fields-second.ensures c.put_carriers.ensures)
