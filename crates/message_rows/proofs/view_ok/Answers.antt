-- `message_rows::view_ok` meets its contract: the arm tells the form, and `from_to` the range.
use mathlib.Core.Path.{sym}
use Rattle.message_format.specs.Definitions.{view_ok}
use borrow.Author.Rules.{rules}
use Rattle.message_rows.proofs.view_ok.Goals as goal

pub enum_told-1 : goal.enum_told-1
enum_told-1 c = search rules

pub returns-in-Report : goal.returns-in-Report
unfolding view_ok
returns-in-Report c = simp (c.in-Report.is, sym c.from_to.ensures)

pub returns-in-Order : goal.returns-in-Order
unfolding view_ok
returns-in-Order c = simp (c.in-Order.is, sym c.from_to-in-Order.ensures)
