-- `program_arguments::Output::write_all` meets its contract: one write more. Assumes nothing.
use borrow.Author.Rules.{rules}
use Rattle.program_arguments.proofs.Written.{appends_more}
use Rattle.program_arguments.proofs.Output.write_all.Goals as goal

pub loop-done-preserved : goal.loop-done-preserved
loop-done-preserved g c = (search rules, appends_more _ _ _ c.args.bytes.now c.loop-done.done c.in-Ok.n c.loop-done.invariant.1 c.in-Ok.ensures.bytes)
