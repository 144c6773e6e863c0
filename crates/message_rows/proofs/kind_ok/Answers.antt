-- `message_rows::kind_ok` meets its contract: the arm tells the form, and `from_to` the range.
use mathlib.Core.Path.{sym}
use Rattle.message_format.specs.Definitions.{kind_ok}
use borrow.Author.Rules.{rules}
use Rattle.message_rows.proofs.kind_ok.Goals as goal

pub enum_told-1 : goal.enum_told-1
enum_told-1 c = search rules

pub returns-then-from_to : goal.returns-then-from_to
unfolding kind_ok
returns-then-from_to c = simp (c.in-Order.is, sym c.from_to-in-Order.ensures, c.if-from_to.true)

pub returns-in-Report : goal.returns-in-Report
unfolding kind_ok
returns-in-Report c = simp (c.in-Report.is, sym c.from_to.ensures)

pub returns-else-from_to : goal.returns-else-from_to
unfolding kind_ok
returns-else-from_to c = simp (c.in-Order.is, sym c.from_to-in-Order.ensures, c.if-from_to.false, sym c.from_to-in-Order-2.ensures)
