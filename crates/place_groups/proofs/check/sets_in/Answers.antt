-- `place_groups::check::sets_in` meets its contract: the mask of sets has a bit for each. Assumes nothing.
use mathlib.Core.Path.{ap, ◌∙◌}
use Rattle.base_laws.specs.Definitions.{count}
use Rattle.place_groups.specs.Sets.{sets_counted}
use Rattle.place_groups.proofs.check.sets_in.Goals as goal

pub returns : goal.returns
returns c = let b = c in
    c.count.ensures ∙ (ap count c.sets_of-sets.ensures ∙ sets_counted b.args.settings.now b.args.mask b.requires)
