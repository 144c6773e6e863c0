-- `plan_page::blank_page` meets its contract: field by field. Assumes nothing.
use Rattle.plan_page.specs.Definitions.{blank_page}
use Rattle.plan_page.proofs.blank_page.Goals as goal

pub returns : goal.returns
unfolding blank_page
returns c = simp c.no_positions.ensures
