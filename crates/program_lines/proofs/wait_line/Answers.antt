-- `program_lines::wait_line` meets its contract, reason by reason. Assumes nothing.
use mathlib.Core.Path.{ap}
use Rattle.program_text.specs.Puts.{puts_as}
use Rattle.report_views.specs.Definitions.{number_of, value_of}
use Rattle.program_lines.specs.Definitions.{wait_line}
use borrow.Author.Rules.{rules}
use Rattle.program_lines.proofs.wait_line.Goals as goal

pub enum_told-1 : goal.enum_told-1
enum_told-1 c = search rules

pub returns-in-NoView : goal.returns-in-NoView
unfolding wait_line number_of
returns-in-NoView c = puts_as (ap wait_line c.in-NoView.is) c.wait_of.ensures

pub returns-in-NoMajority : goal.returns-in-NoMajority
unfolding wait_line number_of
returns-in-NoMajority c = puts_as (ap wait_line c.in-NoMajority.is) c.wait_of-in-NoMajority.ensures

pub returns-in-TooFew : goal.returns-in-TooFew
unfolding wait_line number_of
returns-in-TooFew c = puts_as (ap wait_line c.in-TooFew.is) c.wait_of-in-TooFew.ensures

pub returns-in-NoHolder : goal.returns-in-NoHolder
unfolding wait_line number_of value_of
returns-in-NoHolder c = puts_as (ap wait_line c.in-NoHolder.is) c.wait_for.ensures

pub returns-in-NoPlacement : goal.returns-in-NoPlacement
unfolding wait_line number_of value_of
returns-in-NoPlacement c = puts_as (ap wait_line c.in-NoPlacement.is) c.wait_for-in-NoPlacement.ensures
