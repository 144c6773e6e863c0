-- At the loop's head the first k words are stored.
use native.Mathlib.Omega.{arith}
use mathlib.Core.Path.{sym, ap, ◌∙◌}
use lib.ListN.{length}
use Rattle.base_laws.specs.Definitions.{tabulate}
use Rattle.base_laws.specs.Tables.{filled_none, length_filled}
use Rattle.base_laws.proofs.Tables.{filled_turn, filled_end}
use Rattle.message_flat.specs.declared.to_flat.Parts.{Parts}
use Rattle.message_flat.specs.Parted.{length_of, word_of, few_own, length_own, words_own}
use Rattle.message_flat.proofs.to_flat.write.Goals as goal

pub loop-k-init : goal.loop-k-init
loop-k-init c = sym (filled_none _ _)

pub word_of-requires : goal.word_of-requires
word_of-requires c =
    let s = c in
    let p = s.requires in
    few_own _ _ _ _ s.parts_of-parts.ensures p.settings p.len_bound

pub bounds-words-k : goal.bounds-words-k
bounds-words-k c =
    let l = c.loop-k in
    let long = ap length l.invariant ∙ length_filled l.k _ _ (omega arith) in
    omega (arith, long)

pub loop-k-preserved : goal.loop-k-preserved
loop-k-preserved c =
    let l = c.loop-k in filled_turn l.k _ _ l.words _ (omega arith) l.invariant c.word_of.ensures

pub length_of-requires : goal.length_of-requires
length_of-requires c =
    let s = c in
    let p = s.requires in
    few_own _ _ _ _ s.parts_of-parts.ensures p.settings p.len_bound

pub shape_of-words : goal.shape_of-words
shape_of-words c =
    let l = c.loop-k in
    ap length l.invariant ∙ length_filled l.k _ _ (omega arith)

pub returns : goal.returns
returns c =
    let l = c.loop-k in
    let s = c in
    let σ = s.args.settings.now in
    let x = s.args.c.now in
    let all = filled_end 512 _ _ l.words l.k (omega arith) l.auto.k-end (omega arith) l.invariant in record { answer = c.length_of.ensures ∙ ap length_of s.parts_of-parts.ensures ∙ length_own σ x; words = all ∙ ap (λ (p : Parts). tabulate 512 (word_of x.node x.view x.members x.body p)) s.parts_of-parts.ensures ∙ words_own σ x }
