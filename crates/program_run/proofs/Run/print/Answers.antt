-- `program_run::Run::print` meets its contract, stage by stage. Assumes nothing.
use Rattle.program_run.specs.Steps.{writes_opening, writes_closed}
use borrow.Author.Rules.{rules}
use Rattle.program_run.proofs.Run.print.Goals as goal

pub enum_told-1 : goal.enum_told-1
enum_told-1 c = search rules

pub returns-in-Opening : goal.returns-in-Opening
returns-in-Opening c = writes_opening c.args.self _ _ _ _ c.in-Opening.is c.number_line.ensures

pub returns-in-Closed : goal.returns-in-Closed
returns-in-Closed c = writes_closed c.args.self _ _ _ _ _ c.in-Closed.is c.number_line-in-Closed.ensures
