-- Each return is the case of the definition that the tests pick.
use borrow.Author.Tests.{lt-ltb, le-ltb}
use Rattle.c_state_words.specs.Definitions.{page_word}
use Rattle.c_state_words.proofs.page.page_word.Goals as goal

pub returns-then-k-lt8 : goal.returns-then-k-lt8
unfolding page_word
returns-then-k-lt8 c = simp (lt-ltb _ _ c.if-k-lt8.true, c.head_word.ensures)

pub returns-then-k-lt24 : goal.returns-then-k-lt24
unfolding page_word
returns-then-k-lt24 c = simp (le-ltb _ _ c.if-k-lt8.false, lt-ltb _ _ c.if-k-lt24.true)

pub returns-then-k-lt56 : goal.returns-then-k-lt56
unfolding page_word
returns-then-k-lt56 c = simp (le-ltb _ _ c.if-k-lt8.false, le-ltb _ _ c.if-k-lt24.false, lt-ltb _ _ c.if-k-lt56.true, c.target_word.ensures)

pub returns-then-k-lt72 : goal.returns-then-k-lt72
unfolding page_word
returns-then-k-lt72 c = simp (le-ltb _ _ c.if-k-lt8.false, le-ltb _ _ c.if-k-lt24.false, le-ltb _ _ c.if-k-lt56.false, lt-ltb _ _ c.if-k-lt72.true)

pub returns : goal.returns
unfolding page_word
returns c = simp (le-ltb _ _ c.if-k-lt8.false, le-ltb _ _ c.if-k-lt24.false, le-ltb _ _ c.if-k-lt56.false, le-ltb _ _ c.if-k-lt72.false)
