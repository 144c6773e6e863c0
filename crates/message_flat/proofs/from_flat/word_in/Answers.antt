-- A word lies within the bytes or past their end.
use native.Mathlib.Omega.{arith}
use mathlib.Core.Path.{◌∙◌}
use Rattle.message_flat.specs.Reads.{word_past, word_here, word_room}
use Rattle.message_flat.proofs.from_flat.word_in.Goals as goal

pub returns-then-words_in-k : goal.returns-then-words_in-k
returns-then-words_in-k c =
    let a = c.args in word_past a.flat.now a.k (omega (arith, c.words_in.ensures))

pub word_at-requires : goal.word_at-requires
word_at-requires c =
    let a = c.args in word_room a.flat.now a.k (omega (arith, c.words_in.ensures))

pub returns : goal.returns
returns c =
    let a = c.args in
    c.word_at.ensures ∙ word_here a.flat.now a.k (omega (arith, c.words_in.ensures))
