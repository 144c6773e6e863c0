-- `base_roles::may_read` meets its contract: above 3 there is no page. Assumes nothing.
use native.Mathlib.Omega.{arith}
use Rattle.base_roles.specs.Roles.{read_none, read_own}
use Rattle.base_roles.proofs.may_read.Goals as goal

pub returns-then-group-gt3 : goal.returns-then-group-gt3
returns-then-group-gt3 c = let a = c.args in read_none a.role a.group (omega arith)

pub returns : goal.returns
returns c = let a = c.args in read_own a.role a.group _ (omega arith) c.owns.ensures
