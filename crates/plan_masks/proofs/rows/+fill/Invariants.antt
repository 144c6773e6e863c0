use Rattle.plan_masks.proofs.rows.+fill.Given as goal

abbrev pub decreases-fill : goal.decreases-fill
decreases-fill l = l.undecided
