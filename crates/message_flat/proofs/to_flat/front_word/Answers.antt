-- Each return is the case of the definition that the tests pick.
use borrow.Author.Tests.{lt-ltb, le-ltb}
use Rattle.message_flat.specs.Parted.{front_word}
use Rattle.message_flat.proofs.to_flat.front_word.Goals as goal

pub returns-then-k-lt3 : goal.returns-then-k-lt3
unfolding front_word
returns-then-k-lt3 c = simp (lt-ltb _ _ c.if-k-lt3.true, c.head_word.ensures)

pub returns-then-k-lt4 : goal.returns-then-k-lt4
unfolding front_word
returns-then-k-lt4 c = simp (le-ltb _ _ c.if-k-lt3.false, lt-ltb _ _ c.if-k-lt4.true)

pub returns-then-k-parts : goal.returns-then-k-parts
unfolding front_word
returns-then-k-parts c = simp (le-ltb _ _ c.if-k-lt3.false, le-ltb _ _ c.if-k-lt4.false, lt-ltb _ _ c.if-k-parts.true, c.word1.ensures)

pub returns : goal.returns
unfolding front_word
returns c = simp (le-ltb _ _ c.if-k-lt3.false, le-ltb _ _ c.if-k-lt4.false, le-ltb _ _ c.if-k-parts.false, c.flag_of.ensures)
