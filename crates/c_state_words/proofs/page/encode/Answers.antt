-- At the loop's head the first k words are stored.
use native.Mathlib.Omega.{arith}
use mathlib.Core.Path.{sym, ap, ◌∙◌}
use lib.ListN.{length, replicate}
use Rattle.base_laws.specs.Tables.{filled_none, length_filled}
use Rattle.base_laws.proofs.Tables.{filled_turn}
use Rattle.c_state_words.specs.PageStored.{words-stored}
use Rattle.c_state_words.proofs.page.encode.Goals as goal

pub loop-k-init : goal.loop-k-init
loop-k-init c = sym (filled_none _ _)

pub bounds-words-k : goal.bounds-words-k
bounds-words-k c =
    let l = c.loop-k in
    let long = ap length l.invariant ∙ length_filled l.k _ (replicate 512 0) (omega arith) in
    omega (arith, long)

pub loop-k-preserved : goal.loop-k-preserved
loop-k-preserved c =
    let l = c.loop-k in filled_turn l.k _ _ l.words _ (omega arith) l.invariant c.page_word.ensures

pub returns : goal.returns
returns c =
    let l = c.loop-k in
    words-stored _ l.words l.k l.auto.k-end (omega arith) l.invariant
