-- `base_bytes::decode` meets its contract. The loop's invariant: the slice is filled with words below i. Assumes nothing.
use mathlib.Core.Path.{sym, ◌∙◌}
use native.Mathlib.Omega.{arith}
use Rattle.base_laws.specs.Tables.{filled_none}
use Rattle.base_laws.proofs.Tables.{filled_turn}
use Rattle.base_bytes.specs.Definitions.{word_at}
use Rattle.base_bytes.specs.Words.{words_filled}
use Rattle.base_bytes.proofs.decode.Goals as goal

pub loop-i-init : goal.loop-i-init
loop-i-init c = sym (filled_none (word_at c.args.bytes.now) c.args.words.now)

pub word_at-requires : goal.word_at-requires
word_at-requires c = omega arith

pub loop-i-preserved : goal.loop-i-preserved
loop-i-preserved c =
    let i = c.loop-i.i in
    let bytes = c.args.bytes.now in
    let words₀ = c.args.words.now in
    let words = c.loop-i.words in filled_turn i (word_at bytes) words₀ words c.word_at.result (omega arith) c.loop-i.invariant c.word_at.ensures

pub shape_of-words : goal.shape_of-words
shape_of-words c = c.loop-i.auto.words

pub returns : goal.returns
returns c =
    let bytes = c.args.bytes.now in
    let words₀ = c.args.words.now in
    c.loop-i.invariant ∙ words_filled bytes words₀ c.loop-i.i (omega arith)
