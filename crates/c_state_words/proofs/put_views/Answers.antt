-- At the loop's head the first n views are stored.
use mathlib.Core.Path.{refl, sym}
use Rattle.base_laws.specs.Loops.{turns_none, turned, turned_all}
use Rattle.c_state_words.proofs.put_views.Goals as goal

pub loop-n-init : goal.loop-n-init
loop-n-init c = sym (turns_none _ _)

pub loop-n-preserved : goal.loop-n-preserved
loop-n-preserved c =
    let l = c.loop-n in turned l.n _ _ l.words _ l.invariant refl

pub returns : goal.returns
returns c =
    let l = c.loop-n in
    turned_all l.n 32 _ _ l.words l.auto.n-end c.loop-n-test.false l.invariant
