-- `program_text::put_field` meets its contract: the label, and after it the number. Assumes nothing.
use Rattle.program_text.specs.Puts.{then-puts}
use Rattle.program_text.specs.Definitions.{field}
use Rattle.program_text.proofs.put_field.Goals as goal

pub returns : goal.returns
unfolding field
returns c = then-puts c.requires c.put_text-next.ensures c.put_decimal.ensures
