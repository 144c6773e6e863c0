-- Each answer follows from the tests on the way to it.
use Rattle.c_state_words.specs.Definitions.{is_state}
use mathlib.Core.Path.{sym}
use borrow.Author.Tests.{eq-eqb, ne_eqb, le-leb, lt-leb}
use Rattle.c_state_words.proofs.is_state.Goals as goal

pub returns-then-words-ne160 : goal.returns-then-words-ne160
unfolding is_state
returns-then-words-ne160 c = simp (ne_eqb _ _ c.if-words-ne160.true)

pub returns-then-words-gt3 : goal.returns-then-words-gt3
unfolding is_state
returns-then-words-gt3 c = simp (eq-eqb _ _ c.if-words-ne160.false, lt-leb _ _ c.if-words-gt3.true)

pub returns-then-words-gt1 : goal.returns-then-words-gt1
unfolding is_state
returns-then-words-gt1 c = simp (eq-eqb _ _ c.if-words-ne160.false, le-leb _ _ c.if-words-gt3.false, lt-leb _ _ c.if-words-gt1.true)

pub returns : goal.returns
unfolding is_state
returns c = simp (eq-eqb _ _ c.if-words-ne160.false, le-leb _ _ c.if-words-gt3.false, le-leb _ _ c.if-words-gt1.false, sym c.rest_is_zero.ensures)
