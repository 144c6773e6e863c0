-- `plan_restart::verdict_by` meets its contract: by whether every subgroup is placed. Assumes nothing.
use mathlib.Core.Path.{sym, ap, ◌∙◌}
use Rattle.base_laws.specs.Bools.{of_not_true, of_not_false}
use Rattle.report_views.specs.declared.Plan.{Plan}
use Rattle.report_views.specs.declared.Quorum.TheVariants.{Met}
use Rattle.plan_restart.specs.Planning.{verdict_plan, verdict_none}
use Rattle.plan_restart.proofs.verdict_by.Goals as goal

pub returns-then-not-placed : goal.returns-then-not-placed
returns-then-not-placed c = let a = c.args in
    sym (verdict_none a.kept a.held a.seen a.placed (of_not_true a.placed.found c.if-not-placed.true))

pub returns : goal.returns
returns c = let a = c.args in
    ap (λ (p : Plan). record { quorum = Met; plan = p }) c.plan_by.ensures
    ∙ sym (verdict_plan a.kept a.held a.seen a.placed (of_not_false a.placed.found c.if-not-placed.false))
