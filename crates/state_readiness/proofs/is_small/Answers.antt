-- `state_readiness::is_small` meets its contract. Assumes nothing.
use mathlib.Core.Bool.{Bool, ◌&&◌}
use mathlib.Core.Path.{sym, ap}
use native.Mathlib.Omega.{arith}
use borrow.Author.Tests.{le-leb, lt-leb}
use Rattle.settings_values.specs.Definitions.{nodes}
use Rattle.state_readiness.proofs.is_small.Goals as goal

pub returns-then-nodes-gt10 : goal.returns-then-nodes-gt10
returns-then-nodes-gt10 c =
    sym (ap (λ (b : Bool). b && c.args.in_limits) (lt-leb (nodes c.args.settings.now) 10 (omega (arith, c.nodes.ensures, c.if-nodes-gt10.true))))

pub returns : goal.returns
returns c =
    sym (ap (λ (b : Bool). b && c.args.in_limits) (le-leb (nodes c.args.settings.now) 10 (omega (arith, c.nodes.ensures, c.if-nodes-gt10.false))))
