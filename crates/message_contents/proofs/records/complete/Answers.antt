-- `message_contents::records::complete` meets its contract: the arm tells the form.
use mathlib.Core.Path.{sym}
use Rattle.message_format.specs.Definitions.{complete}
use borrow.Author.Rules.{rules}
use Rattle.message_contents.proofs.records.complete.Goals as goal

pub enum_told-1 : goal.enum_told-1
enum_told-1 c = search rules

pub returns-in-Report : goal.returns-in-Report
unfolding complete
returns-in-Report c = simp (c.in-Report.is, sym c.complete_report.ensures)

pub returns-in-Order : goal.returns-in-Order
unfolding complete
returns-in-Order c = simp (c.in-Order.is, sym c.complete_order.ensures)
