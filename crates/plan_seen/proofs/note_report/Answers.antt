-- `plan_seen::note_report` meets its contract: a report of another view counts for no shard.
use mathlib.Core.Path.{refl, ap, ◌∙◌}
use native.Mathlib.Omega.{arith}
use Rattle.message_format.specs.declared.Contents.{Contents}
use Rattle.settings_values.specs.Definitions.{shards}
use Rattle.plan_seen.specs.Nodes.{renewed_other}
use Rattle.plan_seen.specs.Steps.{ends_told}
use Rattle.plan_seen.proofs.note_report.Goals as goal

pub returns-then-view-number : goal.returns-then-view-number
returns-then-view-number c = let s = c in
    let a = s.args in (record {
      holders_len_2 = s.requires.holders_len;
      by_index = λ d b is below ok e.
          renewed_other a.v a.t d a.node.0 (λ q. c.if-view-number.true (ap (λ (x : Contents). x.view.0) e ∙ q)) (shards a.settings.now) a.holders.now a.tops.now;
    })

pub ends_of-ends-requires : goal.ends_of-ends-requires
ends_of-ends-requires c = c.requires.len_bound

pub record_pairs-b-requires : goal.record_pairs-b-requires
record_pairs-b-requires c = c.requires.len_bound

pub note-requires : goal.note-requires
note-requires c = let s = c in
    record { holders_len = s.requires.holders_len; last_bound = (s.requires.len_bound, omega (arith, c.wide-count.ensures, c.shards.ensures, s.requires.settings.sizes.shards_to)) }

pub returns : goal.returns
returns c = let s = c in
    let a = s.args in
    let k = c.ends_of-ends in
    let p = c.record_pairs-b in (record {
      holders_len_2 = c.note.ensures.holders_len_2;
      by_index = λ d b is below ok e.
          c.note.ensures.by_index a.settings.now a.v a.t d
          (ends_told a.settings.now a.v a.t d a.node.0 b a.c p.result k.result s.requires.settings is below ok e c.if-view-number.false p.ensures k.ensures)
          refl refl s.requires.position_records (c.wide-count.ensures ∙ c.shards.ensures);
    })
