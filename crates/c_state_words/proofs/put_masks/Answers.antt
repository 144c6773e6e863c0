-- At the loop's head the first s masks are stored.
use mathlib.Core.Path.{refl, sym}
use Rattle.base_laws.specs.Loops.{turns_none, turned, turned_all}
use Rattle.c_state_words.proofs.put_masks.Goals as goal

pub loop-s-init : goal.loop-s-init
loop-s-init c = sym (turns_none _ _)

pub loop-s-preserved : goal.loop-s-preserved
loop-s-preserved c =
    let l = c.loop-s in turned l.s _ _ l.words _ l.invariant refl

pub returns : goal.returns
returns c =
    let l = c.loop-s in
    turned_all l.s 16 _ _ l.words l.auto.s-end c.loop-s-test.false l.invariant
