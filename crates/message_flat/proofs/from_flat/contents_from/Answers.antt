-- At the loop's head the first k words of the body are stored.
use native.Mathlib.Omega.{arith}
use mathlib.Core.Path.{refl, sym, ap, ◌∙◌}
use lib.ListN.{replicate}
use Rattle.base_laws.specs.Definitions.{tabulate}
use Rattle.base_laws.specs.Tables.{filled_none}
use Rattle.base_laws.proofs.Tables.{filled_turn, filled_end}
use Rattle.base_lent.specs.Definitions.{words_in}
use Rattle.message_flat.specs.declared.from_flat.Counts.{Counts}
use Rattle.message_flat.specs.Counted.{body_in, records_of, body_by, contents-by}
use Rattle.message_flat.proofs.from_flat.contents_from.Goals as goal

pub loop-k-init : goal.loop-k-init
loop-k-init c = sym (filled_none _ _)

pub loop-k-preserved : goal.loop-k-preserved
loop-k-preserved c =
    let l = c.loop-k in filled_turn l.k _ _ l.body _ (omega arith) l.invariant c.body_word.ensures

pub returns : goal.returns
returns c =
    let l = c.loop-k in
    let counts = c.counts_of-n in
    let f = words_in c.args.flat.now in
    let all = filled_end 381 (body_in f counts.result) (replicate 381 0) l.body l.k refl l.auto.k-end (omega arith) l.invariant in
    contents-by f _ _ _ _ _ c.word_in.ensures c.word_in-2.ensures c.word_in-3.ensures
    (c.records_of.ensures ∙ ap records_of counts.ensures) (all ∙ ap (λ (n : Counts). tabulate 381 (body_in f n)) counts.ensures ∙ body_by f)
