-- There and back. An accepted flat report turned into ours and back has the same words; and the contents of our report turned into a flat
-- report and back are the same.
use Prim.Native.Nat.{ℕ, ◌+◌, ◌*◌, ◌-◌, ◌/◌, ◌%◌, ◌≤◌, ◌<◌, min}
use native.Mathlib.Omega.{arith}
use Rattle.std.specs.Prelude.{cond, List, ◌≡◌}
use Rattle.std.proofs.Math.Path.{refl}
use Rattle.std.proofs.Math.Dec.{eqb}
use Rattle.std.proofs.Math.ListN.{get_or}
use borrow.Author.Tests.{lt-ltb, le-ltb}
use Rattle.settings_values.specs.Definitions.{shards}
use Rattle.message_format.specs.declared.Contents.{Contents}
use Rattle.message_format.specs.Definitions.{word1, head_word}
use Rattle.message_flat.specs.Definitions.{flat_shards, flat_places, flat_count_at, flat_record, has_places, places_in, runs_first, runs_count, count_place, flat_length, triple_word, flat_word}

-- ---- the words of a flat report that is made, by their place

module _ (σ : List ℕ) (c : Contents) where
  pub made_head : (k : ℕ) → k < 3 → flat_word σ c k ≡ head_word c k
  unfolding flat_word
  made_head k l = rw (lt-ltb k 3 l)

  pub made_shards : flat_word σ c 3 ≡ shards σ
  unfolding flat_word
  made_shards = refl

  pub made_mask : (s : ℕ) → s < shards σ → flat_word σ c (4 + s) ≡ word1 c.body s
  unfolding flat_word
  made_mask s l =
      let e : 4 + s - 4 ≡ s = omega arith in
      rw (le-ltb (4 + s) 3 (omega arith), le-ltb (4 + s) 4 (omega arith), lt-ltb (4 + s) (4 + shards σ) (omega arith), e)

  pub made_flag : flat_word σ c (4 + shards σ) ≡ cond (has_places σ c) 1 0
  unfolding flat_word
  made_flag =
      rw (
        le-ltb (4 + shards σ) 3 (omega arith),
        le-ltb (4 + shards σ) 4 (omega arith),
        le-ltb (4 + shards σ) (4 + shards σ) (omega arith),
        lt-ltb (4 + shards σ) (5 + shards σ) (omega arith),
      )

  pub made_place : (i : ℕ) → i < 2 * places_in σ c → flat_word σ c (5 + shards σ + i) ≡ get_or c.body (3 * (shards σ + i / 2) + 1 + i % 2) 0
  unfolding flat_word
  made_place i l =
      let e : 5 + shards σ + i - (5 + shards σ) ≡ i = omega arith in
      rw (
        le-ltb (5 + shards σ + i) 3 (omega arith),
        le-ltb (5 + shards σ + i) 4 (omega arith),
        le-ltb (5 + shards σ + i) (4 + shards σ) (omega arith),
        le-ltb (5 + shards σ + i) (5 + shards σ) (omega arith),
        lt-ltb (5 + shards σ + i) (count_place σ c) (omega arith),
        e,
      )

  pub made_count : flat_word σ c (count_place σ c) ≡ runs_count σ c
  unfolding flat_word
  made_count =
      rw (
        le-ltb (count_place σ c) 3 (omega arith),
        le-ltb (count_place σ c) 4 (omega arith),
        le-ltb (count_place σ c) (4 + shards σ) (omega arith),
        le-ltb (count_place σ c) (5 + shards σ) (omega arith),
        le-ltb (count_place σ c) (count_place σ c) (omega arith),
        lt-ltb (count_place σ c) (count_place σ c + 1) (omega arith),
      )

  pub made_triple : (i : ℕ) → i < 3 * runs_count σ c → flat_word σ c (count_place σ c + 1 + i) ≡ triple_word c.body (runs_first σ c) i
  unfolding flat_word
  made_triple i l =
      let e : count_place σ c + 1 + i - (count_place σ c + 1) ≡ i = omega arith in
      rw (
        le-ltb (count_place σ c + 1 + i) 3 (omega arith),
        le-ltb (count_place σ c + 1 + i) 4 (omega arith),
        le-ltb (count_place σ c + 1 + i) (4 + shards σ) (omega arith),
        le-ltb (count_place σ c + 1 + i) (5 + shards σ) (omega arith),
        le-ltb (count_place σ c + 1 + i) (count_place σ c) (omega arith),
        le-ltb (count_place σ c + 1 + i) (count_place σ c + 1) (omega arith),
        lt-ltb (count_place σ c + 1 + i) (flat_length σ c) (omega arith),
        e,
      )

-- ---- a flat report and its contents

-- the three kinds of record
pub record_mask : (f : List ℕ) (j p : ℕ) → j < flat_shards f → flat_record f j p ≡ cond (eqb p 0) (256 + j) (cond (eqb p 1) (get_or f (4 + j) 0) 0)
unfolding flat_record
record_mask f j p l = rw (lt-ltb j (flat_shards f) l)

pub record_place : (f : List ℕ) (j p : ℕ) → flat_shards f ≤ j → j < flat_shards f + flat_places f
    → flat_record f j p ≡ cond (eqb p 0) (512 + (j - flat_shards f)) (get_or f (4 + flat_shards f + 2 * (j - flat_shards f) + p) 0)
unfolding flat_record
record_place f j p l m = rw (le-ltb j (flat_shards f) l, lt-ltb j (flat_shards f + flat_places f) m)

pub record_run : (f : List ℕ) (j p : ℕ) → flat_shards f + flat_places f ≤ j
    → flat_record f j p ≡ cond (eqb p 0) (768 + min (get_or f (flat_count_at f + 1 + 3 * (j - (flat_shards f + flat_places f))) 0) 255)
    (get_or f (flat_count_at f + 1 + 3 * (j - (flat_shards f + flat_places f)) + p) 0)
unfolding flat_record
record_run f j p l = rw (le-ltb j (flat_shards f) (omega arith), le-ltb j (flat_shards f + flat_places f) l)
