-- `program_text::put_line` meets its contract: the field, and after it a newline. Assumes nothing.
use Rattle.program_text.specs.Puts.{then-puts}
use Rattle.program_text.specs.Definitions.{line}
use Rattle.program_text.proofs.put_line.Goals as goal

pub returns : goal.returns
unfolding line
returns c = then-puts c.requires c.put_field-next.ensures c.put_byte.ensures
