-- Each branch by its test. Assumes nothing.
use Rattle.search_hinted.specs.Stage.{allowed_none, allowed_all}
use Rattle.search_hinted.proofs.allowed_row.Goals as goal

pub returns-then-caps-i-eq0 : goal.returns-then-caps-i-eq0
returns-then-caps-i-eq0 c = allowed_none c.if-caps-i-eq0.true

pub returns : goal.returns
returns c = allowed_all c.allowed.ensures
