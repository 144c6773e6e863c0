-- `plan_seen::note_best` meets its contract: kept, or stored.
use native.Mathlib.Omega.{arith}
use mathlib.Core.Path.{sym, ◌∙◌}
use mathlib.Core.Bool.{true}
use lib.ListN.{length-set}
use Rattle.plan_seen.specs.Nodes.{renewed_not, renewed_set}
use Rattle.plan_seen.proofs.note_best.Goals as goal

pub returns-then-not-takes : goal.returns-then-not-takes
returns-then-not-takes c = let s = c in
    let a = s.args in
    let k = c.takes in
    (record { holders_len_2 = s.requires.holders_len; renewed_at = renewed_not a.node.0 a.end a.s a.holders.now a.tops.now true (sym k.ensures ∙ c.if-not-takes.true) })

pub returns : goal.returns
returns c = let s = c in
    let a = s.args in
    let k = c.takes in (record {
      holders_len_2 = (length-set a.holders.now a.s a.node.0 ∙ s.requires.holders_len.0, length-set a.tops.now a.s a.end ∙ s.requires.holders_len.1);
      renewed_at = renewed_set a.node.0 a.end a.s a.holders.now a.tops.now true (sym k.ensures ∙ c.if-not-takes.false) (omega (arith, s.requires)) (omega (arith, s.requires));
    })
