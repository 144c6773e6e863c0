-- Each return is the case of the definition that the tests pick.
use borrow.Author.Tests.{lt-ltb, le-ltb}
use Rattle.c_state_words.specs.Definitions.{page_head}
use Rattle.c_state_words.proofs.page.head_word.Goals as goal

pub returns-then-k-lt1 : goal.returns-then-k-lt1
unfolding page_head
returns-then-k-lt1 c = simp (lt-ltb _ _ c.if-k-lt1.true, c.phase_number.ensures)

pub returns-then-k-lt2 : goal.returns-then-k-lt2
unfolding page_head
returns-then-k-lt2 c = simp (le-ltb _ _ c.if-k-lt1.false, lt-ltb _ _ c.if-k-lt2.true)

pub returns-then-k-lt3 : goal.returns-then-k-lt3
unfolding page_head
returns-then-k-lt3 c = simp (le-ltb _ _ c.if-k-lt1.false, le-ltb _ _ c.if-k-lt2.false, lt-ltb _ _ c.if-k-lt3.true)

pub returns-then-k-lt4 : goal.returns-then-k-lt4
unfolding page_head
returns-then-k-lt4 c = simp (le-ltb _ _ c.if-k-lt1.false, le-ltb _ _ c.if-k-lt2.false, le-ltb _ _ c.if-k-lt3.false, lt-ltb _ _ c.if-k-lt4.true)

pub returns-then-k-lt5 : goal.returns-then-k-lt5
unfolding page_head
returns-then-k-lt5 c = simp (le-ltb _ _ c.if-k-lt1.false, le-ltb _ _ c.if-k-lt2.false, le-ltb _ _ c.if-k-lt3.false, le-ltb _ _ c.if-k-lt4.false, lt-ltb _ _ c.if-k-lt5.true, c.flag.ensures)

pub returns-then-k-lt6 : goal.returns-then-k-lt6
unfolding page_head
returns-then-k-lt6 c = simp (le-ltb _ _ c.if-k-lt1.false, le-ltb _ _ c.if-k-lt2.false, le-ltb _ _ c.if-k-lt3.false, le-ltb _ _ c.if-k-lt4.false, le-ltb _ _ c.if-k-lt5.false, lt-ltb _ _ c.if-k-lt6.true)

pub returns : goal.returns
unfolding page_head
returns c = simp (le-ltb _ _ c.if-k-lt1.false, le-ltb _ _ c.if-k-lt2.false, le-ltb _ _ c.if-k-lt3.false, le-ltb _ _ c.if-k-lt4.false, le-ltb _ _ c.if-k-lt5.false, le-ltb _ _ c.if-k-lt6.false)
