-- The count of the mask's bits is that of the sets. Assumes nothing.
use mathlib.Core.Path.{◌∙◌}
use Rattle.search_judge.specs.Met.{met_count}
use Rattle.search_judge.proofs.spread.Goals as goal

pub returns : goal.returns
returns c = c.count.ensures ∙ met_count _ _ _ _ c.met.ensures
