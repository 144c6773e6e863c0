-- `base_roles::role_of` meets its contract, word by word. Assumes nothing.
use Rattle.base_roles.specs.Roles.{role_planner, role_watcher, role_none}
use Rattle.base_roles.proofs.role_of.Goals as goal

pub returns-then-word-eq256 : goal.returns-then-word-eq256
returns-then-word-eq256 c = role_planner c.args.word c.if-word-eq256.true

pub returns-then-word-eq2 : goal.returns-then-word-eq2
returns-then-word-eq2 c = role_watcher c.args.word c.if-word-eq256.false c.if-word-eq2.true

pub returns : goal.returns
returns c = role_none c.args.word c.if-word-eq256.false c.if-word-eq2.false
