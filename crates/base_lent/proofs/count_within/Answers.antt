-- Each answer follows from the tests on the way to it.
use lib.Dec.{leb-zero}
use borrow.Author.Tests.{eq-eqb, ne_eqb, le-leb, lt-leb}
use Rattle.base_lent.specs.Definitions.{word_count}
use Rattle.base_lent.specs.Lent.{count_within}
use Rattle.base_lent.proofs.count_within.Goals as goal

pub returns-then-bytes-ne0 : goal.returns-then-bytes-ne0
unfolding count_within word_count
returns-then-bytes-ne0 c = simp (ne_eqb _ _ c.if-bytes-ne0.true, leb-zero)

pub returns-then-most-bytes : goal.returns-then-most-bytes
unfolding count_within word_count
returns-then-most-bytes c = simp (eq-eqb _ _ c.if-bytes-ne0.false, lt-leb _ _ c.if-most-bytes.true)

pub returns : goal.returns
unfolding count_within word_count
returns c = simp (eq-eqb _ _ c.if-bytes-ne0.false, le-leb _ _ c.if-most-bytes.false)
