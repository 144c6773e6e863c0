-- `plan_seen::note_shard` meets its contract: a node that is no member, or whose log lacks the position, is passed over.
use mathlib.Core.Path.{◌≡◌, sym, ap, ◌∙◌}
use Prim.Native.Nat.{ℕ}
use mathlib.Core.Bool.{true}
use mathlib.Core.List.{List}
use lib.ListN.{get_or}
use Rattle.base_laws.specs.Bools.{and_fails_left}
use Rattle.base_laws.specs.Definitions.{has}
use Rattle.report_views.specs.Numbers.{as_number}
use Rattle.report_views.specs.Definitions.{end_at, mask_at}
use Rattle.plan_seen.specs.Nodes.{eligible, renewed_not}
use Rattle.plan_seen.specs.Steps.{shard_miss, shard_told, renewed_same}
use Rattle.plan_seen.proofs.note_shard.Goals as goal

pub returns-then-not-has : goal.returns-then-not-has
returns-then-not-has c = let s = c in
    let a = s.args in
    let h = c.has in (record {
      holders_len_2 = s.requires.holders_len;
      by_index = λ σ v t d told em et eg l.
          shard_miss v t d a.turn.node.0 (as_number (end_at d a.s a.turn.node.0)) a.s a.holders.now a.tops.now
          (ap (λ (x : List ℕ). has (get_or x a.s 0) a.turn.node.0) (sym em) ∙ sym h.ensures ∙ c.if-not-has.true);
    })

pub returns-then-not-reached : goal.returns-then-not-reached
returns-then-not-reached c = let s = c in
    let a = s.args in
    let h = c.has in
    let r = c.reached in (record {
      holders_len_2 = s.requires.holders_len;
      by_index = λ σ v t d told em et eg l.
          let member : has (mask_at v a.s) a.turn.node.0 ≡ true =
          ap (λ (x : List ℕ). has (get_or x a.s 0) a.turn.node.0) (sym em) ∙ sym h.ensures ∙ c.if-not-has.false in
          renewed_not a.turn.node.0 (as_number (end_at d a.s a.turn.node.0)) a.s a.holders.now a.tops.now (eligible v t d a.s a.turn.node.0)
          (and_fails_left _
          (sym (shard_told σ v t d a.turn.node.0 a.b.now a.turn.last a.ends.now a.positions.now a.turn.made r.result a.s s.requires.last_bound.1 r.ensures told et eg l member)
          ∙ c.if-not-reached.true));
    })

pub note_best-requires : goal.note_best-requires
note_best-requires c = let s = c in
    record { holders_len = s.requires.holders_len; s_bound = s.requires.last_bound.1 }

pub returns : goal.returns
returns c = let s = c in
    let a = s.args in
    let h = c.has in
    let r = c.reached in (record {
      holders_len_2 = c.note_best.ensures.holders_len_2;
      by_index = λ σ v t d told em et eg l.
          let member : has (mask_at v a.s) a.turn.node.0 ≡ true =
          ap (λ (x : List ℕ). has (get_or x a.s 0) a.turn.node.0) (sym em) ∙ sym h.ensures ∙ c.if-not-has.false in
          renewed_same (eligible v t d a.s a.turn.node.0) a.turn.node.0 (get_or a.ends.now a.s 0) (as_number (end_at d a.s a.turn.node.0)) a.s a.holders.now a.tops.now _ _
          (sym (c.if-not-reached.false)
          ∙ shard_told σ v t d a.turn.node.0 a.b.now a.turn.last a.ends.now a.positions.now a.turn.made r.result a.s s.requires.last_bound.1 r.ensures told et eg l member)
          (told.ends_are a.s l member) c.note_best.ensures.renewed_at;
    })
