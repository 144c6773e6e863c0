-- The walk: at the loop's head the chain so far is linked and has not ended. The index rises and stays inside the message.
-- A next index that is wrong is the first on the chain that is.
use mathlib.Core.Path.{refl, sym, ap}
use mathlib.Core.Logic.{inl, inr}
use native.Mathlib.Omega.{arith}
use Rattle.base_ids.specs.Results.{ok_is}
use Rattle.message_chain.specs.declared.Step.{Step}
use Rattle.message_contents.specs.Ways.{told_is}
use Rattle.message_reader.specs.Walks.{walk_start, walk_on, walk_few, walk_end, walk_broken}
use Rattle.message_reader.proofs.chain_refusal.Goals as goal

pub loop-at-init : goal.loop-at-init
loop-at-init c = walk_start _ c.requires

pub step_from-step-requires : goal.step_from-step-requires
step_from-step-requires c = tt

pub returns-then-next-eq0 : goal.returns-then-next-eq0
returns-then-next-eq0 c =
    let l = c.loop-at in let e = ap (λ (s : Step). s.next) c.step_from-step.ensures in
    ok_is _ _ (sym (walk_end _ _ _ c.requires l.invariant e c.if-next-eq0.true))

pub told_at-requires : goal.told_at-requires
told_at-requires c = record { row_bound = omega arith; i_bound = walk_few _ _ _ c.requires c.loop-at.invariant refl }

pub returns-then-next-at : goal.returns-then-next-at
returns-then-next-at c =
    let l = c.loop-at in let e = ap (λ (s : Step). s.next) c.step_from-step.ensures in
    told_is _ _ _ _ _ c.told_at.ensures (walk_broken _ _ _ c.requires l.invariant e c.if-next-eq0.false (inl c.if-next-at.true))

pub told_at-requires-then-words-next : goal.told_at-requires-then-words-next
told_at-requires-then-words-next c = record { row_bound = omega arith; i_bound = walk_few _ _ _ c.requires c.loop-at.invariant refl }

pub returns-then-words-next : goal.returns-then-words-next
returns-then-words-next c =
    let l = c.loop-at in let e = ap (λ (s : Step). s.next) c.step_from-step.ensures in
    told_is _ _ _ _ _ c.told_at-then-words-next.ensures
    (walk_broken _ _ _ c.requires l.invariant e c.if-next-eq0.false (inr c.if-words-next.true))

pub loop-at-smaller : goal.loop-at-smaller
loop-at-smaller c = omega arith

pub loop-at-preserved : goal.loop-at-preserved
loop-at-preserved c =
    let l = c.loop-at in let e = ap (λ (s : Step). s.next) c.step_from-step.ensures in
    walk_on _ _ _ c.requires l.invariant e c.if-next-at.false c.if-words-next.false
