-- `program_text::put_text` meets its contract. The loop's invariant: the first i bytes of the text are put. Assumes nothing.
use Rattle.program_text.specs.Puts.{puts_none, puts_more, puts_all}
use Rattle.program_text.proofs.put_text.Goals as goal

pub loop-i-init : goal.loop-i-init
loop-i-init c = puts_none c.args.out.now c.args.at c.requires

pub loop-i-preserved : goal.loop-i-preserved
loop-i-preserved c = puts_more _ _ c.requires c.loop-i-test.true c.loop-i.invariant c.put_byte-next.ensures

pub returns : goal.returns
returns c = puts_all _ _ c.loop-i-test.false c.loop-i.invariant
