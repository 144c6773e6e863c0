-- `report_quick::head_told` meets its contract.
use mathlib.Core.Bool.{false≢true}
use native.Mathlib.Omega.{arith}
use mathlib.Core.Path.{sym, ◌∙◌}
use borrow.Author.Tests.{lt-ltb}
use lib.ListN.{get_or}
use Rattle.settings_values.specs.Definitions.{nodes}
use Rattle.message_format.specs.Definitions.{row6}
use Rattle.report_quick.proofs.head_told.Goals as goal

pub returns-then-w-node : goal.returns-then-w-node
returns-then-w-node c =
    λ e. absurd (false≢true e)

pub returns-then-nodes-w : goal.returns-then-nodes-w
returns-then-nodes-w c =
    λ e. absurd (false≢true e)

pub returns-then-number-w : goal.returns-then-number-w
returns-then-number-w c =
    λ e. absurd (false≢true e)

pub returns : goal.returns
unfolding row6
returns c =
    λ e. record { own = c.if-w-node.false; known = lt-ltb (get_or c.args.w.now 0 0) (nodes c.args.settings.now) (omega (arith, c.nodes.ensures)); seen = sym c.row7.ensures ∙ e; earlier = omega arith }
