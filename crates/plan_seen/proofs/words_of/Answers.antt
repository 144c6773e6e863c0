-- `plan_seen::words_of` meets its contract. The invariant: the words below k are stored.
use Rattle.base_laws.proofs.Tables.{fill_start, fill_turn, fill_end}
use Rattle.plan_seen.specs.Nodes.{word_of_pairs, words_of_pairs}
use Rattle.plan_seen.proofs.words_of.Goals as goal

pub loop-k-init : goal.loop-k-init
loop-k-init c = fill_start 512 0 (word_of_pairs c.args.b.now)

pub loop-k-preserved : goal.loop-k-preserved
loop-k-preserved c = let a = c.args in
    let l = c.loop-k in fill_turn 512 0 (word_of_pairs a.b.now) l.k l.words c.word_at.result c.loop-k-test.true l.invariant c.word_at.ensures

pub returns : goal.returns
unfolding words_of_pairs
returns c = let a = c.args in
    let l = c.loop-k in
    fill_end 512 0 (word_of_pairs a.b.now) l.k l.words l.auto.k-end c.loop-k-test.false l.invariant
