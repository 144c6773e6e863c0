-- At the loop's head j steps have been made, and `at` is where they lead.
use mathlib.Core.Path.{sym, ap, ◌∙◌}
use native.Mathlib.Nat.{le_antisymm}
use Rattle.message_format.specs.Definitions.{place, next}
use Rattle.message_chain.specs.declared.Step.{Step}
use Rattle.message_reader.specs.Walks.{place_none, place_next}
use Rattle.message_reader.proofs.place_of.Goals as goal

pub loop-j-init : goal.loop-j-init
loop-j-init c = sym (place_none _)

pub step_from-step-requires : goal.step_from-step-requires
step_from-step-requires c = tt

pub loop-j-preserved : goal.loop-j-preserved
loop-j-preserved c =
    let w = c.args.words.now in
    let l = c.loop-j in ap (λ (s : Step). s.next) c.step_from-step.ensures ∙ ap (next w) l.invariant ∙ sym (place_next w l.j)

pub returns : goal.returns
returns c =
    let l = c.loop-j in
    l.invariant ∙ ap (place _) (le_antisymm l.auto.j-end c.loop-j-test.false)
