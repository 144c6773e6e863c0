-- The records of a report that passes, by their place: masks, then positions if there are any, then runs.
use Rattle.std.specs.Prelude.{ℕ, ◌+◌, ◌≤◌, ◌<◌, true, false, not, ◌||◌, List, ◌⊎◌, ◌≡◌, leb, ltb}
use native.Mathlib.Omega.{arith}
use Rattle.std.proofs.Common.{inl, inr}
use Rattle.std.proofs.Math.Logic.{⊎_elim}
use Rattle.std.proofs.Math.Path.{subst}
use Rattle.std.proofs.Math.Dec.{eqb}
use borrow.Author.Tests.{eqb-true, eq-eqb, ltb-true, lt-ltb, leb-true}
use Rattle.base_laws.specs.Bools.{either, clash, and_both, and_left, and_right, or_left, or-holds, of_not_true, eq_or_ne}
use Rattle.base_laws.specs.Definitions.{all_below}
use Rattle.base_laws.specs.Below.{all_at}
use Rattle.settings_values.specs.Definitions.{shards, from_to}
use Rattle.message_format.specs.declared.Contents.{Contents}
use Rattle.message_format.specs.declared.Form.TheVariants.{Report}
use Rattle.message_format.specs.Definitions.{tag, word2, kind, record_shard, shards_of, kind_ok, plain, kind_at, shard_at, sequence_at, complete}
use Rattle.message_format.specs.Rising.{rising, precedes_cases}
use Rattle.message_format.specs.Laws.{members_record, members_enough, some_position}
use Rattle.message_format.proofs.Laws.{members_only, position-record, position_below}
use Rattle.message_format.specs.Passed.{RecordsPass, ContentsPass}
use Rattle.message_flat.specs.Definitions.{has_places, places_in, runs_first}

module _ (σ : List ℕ) (c : Contents) (p : ContentsPass Report σ c) where
  abbrev listed_words : List ℕ
  listed_words = c.body

  abbrev how_many : ℕ
  how_many = c.len

  abbrev passed_rows : RecordsPass Report σ c.node.0 c.view.0 c.members listed_words how_many
  passed_rows = p.records_pass

  kinds_right : all_below how_many (kind_at Report listed_words) ≡ true
  kinds_right = passed_rows.kinds_pass

  shards_right : all_below how_many (shard_at σ listed_words) ≡ true
  shards_right = passed_rows.shards_pass

  in-sequence : all_below how_many (sequence_at c.node.0 listed_words) ≡ true
  in-sequence = passed_rows.sequence_passes

  all_there : complete Report σ c.node.0 listed_words how_many ≡ true
  all_there = passed_rows.complete_passes

  pub few : how_many ≤ 127
  few = leb-true how_many 127 p.words_pass

  pub enough : shards σ ≤ how_many
  enough = members_enough Report σ c.node.0 listed_words how_many kinds_right shards_right in-sequence all_there

  pub mask_tag : (s : ℕ) → s < shards σ → tag listed_words s ≡ 256 + s
  mask_tag = members_record Report σ c.node.0 listed_words how_many kinds_right shards_right in-sequence all_there

  -- a shard's number is below S
  pub shard_lt : (j : ℕ) → j < how_many → record_shard listed_words j < shards σ
  unfolding shard_at
  shard_lt j l = ltb-true (record_shard listed_words j) (shards σ) (all_at how_many (shard_at σ listed_words) shards_right j l)

  kinds : (j : ℕ) → j < how_many → (1 ≤ kind listed_words j) × (kind listed_words j ≤ 3)
  unfolding kind_at kind_ok
  kinds j l =
      let h = and_left (from_to 1 3 (kind listed_words j)) (plain (kind listed_words j) (word2 listed_words j)) (all_at how_many (kind_at Report listed_words) kinds_right j l) in (
        leb-true 1 (kind listed_words j) (and_left (leb 1 (kind listed_words j)) (leb (kind listed_words j) 3) h),
        leb-true (kind listed_words j) 3 (and_right (leb 1 (kind listed_words j)) (leb (kind listed_words j) 3) h),
      )

  -- word 2 of a mask is zero
  pub mask_plain : (s : ℕ) → s < shards σ → word2 listed_words s ≡ 0
  unfolding kind_at plain kind_ok
  mask_plain s l =
      let h =
      and_right (from_to 1 3 (kind listed_words s)) (not (eqb (kind listed_words s) 1 || eqb (kind listed_words s) 4) || eqb (word2 listed_words s) 0)
      (all_at how_many (kind_at Report listed_words) kinds_right s (omega (arith, enough))) in
      let below : s < 256 = omega (arith, shard_lt s (omega (arith, enough)), mask_tag s l, few, enough) in
      let one : kind listed_words s ≡ 1 = omega (arith, mask_tag s l) in
      ⊎_elim (λ q. clash (or_left (eqb (kind listed_words s) 4) (eq-eqb (kind listed_words s) 1 one)) (of_not_true (eqb (kind listed_words s) 1 || eqb (kind listed_words s) 4) q))
      (λ q. eqb-true (word2 listed_words s) 0 q) (or-holds (not (eqb (kind listed_words s) 1 || eqb (kind listed_words s) 4)) (eqb (word2 listed_words s) 0) h)

  module _ (e : has_places σ c ≡ true) where
    there : (shards σ < how_many) × (kind listed_words (shards σ) ≡ 2)
    there = (
      ltb-true (shards σ) how_many (and_left (ltb (shards σ) how_many) (eqb (kind listed_words (shards σ)) 2) e),
      eqb-true (kind listed_words (shards σ)) 2 (and_right (ltb (shards σ) how_many) (eqb (kind listed_words (shards σ)) 2) e),
    )

    some_there : shards_of 2 listed_words how_many ≡ 0 → ⊥
    some_there = some_position Report σ c.node.0 listed_words how_many kinds_right shards_right in-sequence all_there (shards σ) there.0 there.1

    pub place_tag : (s : ℕ) → s < shards σ → tag listed_words (shards σ + s) ≡ 512 + s
    place_tag =
        position-record Report σ c.node.0 listed_words how_many kinds_right shards_right in-sequence all_there some_there

    pub place_below : (s : ℕ) → s < shards σ → shards σ + s < how_many
    place_below =
        position_below Report σ c.node.0 listed_words how_many kinds_right shards_right in-sequence all_there some_there

  -- equal tags below kind 3 do not stand twice
  once : (i j : ℕ) → i < j → j < how_many → tag listed_words i ≡ tag listed_words j → kind listed_words j < 3 → ⊥
  once i j l m e k =
      ⊎_elim (λ q. omega arith) (λ q. omega (arith, q.1)) (precedes_cases listed_words i j (rising c.node.0 listed_words how_many in-sequence i j l m))

  -- the records after masks and positions are runs
  pub run_kind : (j : ℕ) → runs_first σ c ≤ j → j < how_many → kind listed_words j ≡ 3
  unfolding places_in
  run_kind j l m = go (either (has_places σ c)) (eq_or_ne (kind listed_words j) 1) (eq_or_ne (kind listed_words j) 2)
    where
      go : (has_places σ c ≡ true) ⊎ (has_places σ c ≡ false) → (kind listed_words j ≡ 1) ⊎ (kind listed_words j ≡ 1 → ⊥)
          → (kind listed_words j ≡ 2) ⊎ (kind listed_words j ≡ 2 → ⊥) → kind listed_words j ≡ 3
      go e (inl one) y =
          absurd (omega (
            arith,
            shard_lt j m,
            members_only Report σ c.node.0 listed_words how_many kinds_right shards_right in-sequence all_there j m one,
          ))
      go (inl e) (inr x) (inl two) =
          let s : record_shard listed_words j < shards σ = shard_lt j m in
          let from : shards σ + shards σ ≤ j = rw e at l in
          absurd (once (shards σ + record_shard listed_words j) j (omega arith) m (omega (arith, place_tag e (record_shard listed_words j) s)) (omega arith))
      go (inr e) (inr x) (inl two) =
          let s : record_shard listed_words j < shards σ = shard_lt j m in
          let some = some_position Report σ c.node.0 listed_words how_many kinds_right shards_right in-sequence all_there j m two in
          let first : tag listed_words (shards σ + 0) ≡ 512 + 0 =
          position-record Report σ c.node.0 listed_words how_many kinds_right shards_right in-sequence all_there some 0 (omega arith) in
          let at : shards σ + 0 < how_many =
          position_below Report σ c.node.0 listed_words how_many kinds_right shards_right in-sequence all_there some 0 (omega arith) in
          let same : shards σ + 0 ≡ shards σ = omega arith in
          let second : tag listed_words (shards σ) ≡ 512 = subst (λ (x : ℕ). tag listed_words x ≡ 512) same (omega (arith, first)) in
          clash (and_both (lt-ltb (shards σ) how_many (omega arith)) (eq-eqb (kind listed_words (shards σ)) 2 (omega (arith, second)))) e
      go e (inr x) (inr y) = let k = kinds j m in omega (arith, k.0, k.1)
