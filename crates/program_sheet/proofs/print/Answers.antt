-- `program_sheet::print` meets its contract, stage by stage. Assumes nothing.
use Rattle.program_sheet.specs.Steps.{sheet_opening, sheet_closed}
use borrow.Author.Rules.{rules}
use Rattle.program_sheet.proofs.print.Goals as goal

pub enum_told-1 : goal.enum_told-1
enum_told-1 c = search rules

pub returns-in-Opening : goal.returns-in-Opening
returns-in-Opening c = sheet_opening c.args.run _ _ _ _ c.in-Opening.is c.number_line.ensures

pub returns-in-Closed : goal.returns-in-Closed
returns-in-Closed c = sheet_closed c.args.run _ _ _ _ _ c.in-Closed.is c.number_line-in-Closed.ensures
