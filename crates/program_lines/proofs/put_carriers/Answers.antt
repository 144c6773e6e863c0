-- `program_lines::put_carriers` meets its contract: the label, the members and a newline. Assumes nothing.
use Rattle.program_text.specs.Puts.{then-puts}
use Rattle.program_lines.specs.Lines.{carriers}
use Rattle.program_lines.proofs.put_carriers.Goals as goal

pub returns : goal.returns
unfolding carriers
returns c = then-puts c.requires c.put_text-label.ensures (then-puts c.put_text-label.ensures.within c.put_members-members.ensures c.put_byte.ensures)
