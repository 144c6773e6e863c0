-- `message_rows::view_fits` meets its contract: the arm tells the form.
use Rattle.message_format.specs.Definitions.{view_fits}
use borrow.Author.Rules.{rules}
use Rattle.message_rows.proofs.view_fits.Goals as goal

pub enum_told-1 : goal.enum_told-1
enum_told-1 c = search rules

pub returns-in-Report : goal.returns-in-Report
unfolding view_fits
returns-in-Report c = simp c.in-Report.is

pub returns-in-Order : goal.returns-in-Order
unfolding view_fits
returns-in-Order c = simp c.in-Order.is
