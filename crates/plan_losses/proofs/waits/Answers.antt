-- `plan_losses::waits` meets its contract: by the first condition that fails, by a placement that still serves, or by the search.
use mathlib.Core.Path.{sym, ap, ◌∙◌}
use lib.ListN.{get_or}
use Rattle.plan_quorum.specs.Answer.{quorum_from}
use Rattle.plan_masks.specs.Masks.{quorum_in}
use Rattle.plan_losses.specs.Losses.{foretold_short, foretold_placed, foretold_search}
use Rattle.plan_losses.proofs.waits.Goals as goal

pub returns-then-stays_placed : goal.returns-then-stays_placed
returns-then-stays_placed c = let a = c.args in
    foretold_placed a.settings.now a.held (quorum_in a.settings.now a.v a.held a.masks.now)
    (sym c.quorum-found.ensures ∙ ap quorum_from c.in-Ok.is) (c.stays_placed.ensures c.if-stays_placed.true)

pub returns-in-Err : goal.returns-in-Err
returns-in-Err c = let a = c.args in
    foretold_short a.settings.now a.held (quorum_in a.settings.now a.v a.held a.masks.now) _ (sym c.quorum-found.ensures ∙ ap quorum_from c.in-Err.is)

pub returns-else-stays_placed : goal.returns-else-stays_placed
returns-else-stays_placed c = let a = c.args in
    let p = c.place-placed in
    foretold_search a.settings.now a.held (quorum_in a.settings.now a.v a.held a.masks.now) p.result.found
    (sym c.quorum-found.ensures ∙ ap quorum_from c.in-Ok.is)
    (λ e g l. (λ i. get_or p.result.masks i 0, ((p.ensures.laid e).chosen g l).least.valid))
    (λ e. (p.result.group, (p.ensures.unplaced e).lowest))
