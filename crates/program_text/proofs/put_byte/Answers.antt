-- `program_text::put_byte` meets its contract: a byte is put where there is room, and nothing past the end. Assumes nothing.
use Rattle.program_text.specs.Puts.{puts_byte, puts_past}
use Rattle.program_text.proofs.put_byte.Goals as goal

pub returns-then-at-out : goal.returns-then-at-out
returns-then-at-out c = puts_byte c.args.out.now c.args.at c.requires c.args.byte c.if-at-out.true

pub returns : goal.returns
returns c = puts_past c.args.out.now c.args.at c.requires _ c.if-at-out.false
