-- `report_walk::before_at` meets its contract.
use Rattle.std.proofs.Common.{le-ltb, lt-ltb}
use Rattle.report_walk.specs.Seen.{before_at}
use Rattle.report_walk.proofs.before_at.Goals as goal

pub returns-then-first-i : goal.returns-then-first-i
unfolding before_at
returns-then-first-i c = rw (lt-ltb c.args.first c.args.i c.if-first-i.true) c.key_of.ensures

pub returns-else-first-i : goal.returns-else-first-i
unfolding before_at
returns-else-first-i c = rw (le-ltb c.args.first c.args.i c.if-first-i.false)
