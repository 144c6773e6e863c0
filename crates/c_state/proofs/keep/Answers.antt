-- The event was refused, or the next state is stored.
use mathlib.Core.Path.{sym, ◌∙◌}
use borrow.Author.Tests.{eq-eqb, ne_eqb}
use Rattle.base_lent.specs.Answers.{told_refused, told_accepted}
use Rattle.c_state.proofs.keep.Goals as goal

pub returns-then-refusal-ne0 : goal.returns-then-refusal-ne0
returns-then-refusal-ne0 c = told_refused c.refusal_of-refusal.result _ (sym c.refusal_of-refusal.ensures) _ _ _ (ne_eqb _ _ c.if-refusal-ne0.true)

pub returns : goal.returns
returns c =
    let t =
    told_accepted c.refusal_of-refusal.result _ (sym c.refusal_of-refusal.ensures) 0 _ c.args.state.now (eq-eqb _ _ c.if-refusal-ne0.false) in
    record { answers = t.answers; leaves = c.store.ensures ∙ t.leaves }
