-- `program_lines::put_fields` meets its contract: one field after the other. Assumes nothing.
use Rattle.program_text.specs.Puts.{then-puts}
use Rattle.program_lines.proofs.put_fields.Goals as goal

pub returns : goal.returns
returns c = then-puts c.requires c.put_field-next.ensures c.put_field.ensures
