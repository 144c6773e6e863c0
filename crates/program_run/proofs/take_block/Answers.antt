-- `program_run::take_block` meets its contract, stage by stage. Assumes nothing.
use Rattle.program_run.specs.Steps.{takes_first, takes_none}
use borrow.Author.Rules.{rules}
use Rattle.program_run.proofs.take_block.Goals as goal

pub enum_told-1 : goal.enum_told-1
enum_told-1 c = search rules

pub returns-in-Opening : goal.returns-in-Opening
returns-in-Opening c = takes_first c.args.run _ _ _ c.in-Opening.is c.begin.ensures

pub returns-in-Closed : goal.returns-in-Closed
returns-in-Closed c = takes_none c.args.run _ _ _ c.in-Closed.is c.requires.right_settings
