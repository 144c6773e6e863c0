-- Where the records of a message stand that passes rows 9, 16 and 17: record s gives the members of shard s, and in a message with a
-- termination record S + s gives its position. Tags rise strictly up to kind 2, so the records of a kind that every shard has
-- fill a block of S places.
use Rattle.std.specs.Prelude.{true, List, ◌≡◌, ℕ, ◌+◌, ◌<◌, ◌≤◌}
use Rattle.std.proofs.Common.{◌∙◌}
use Rattle.std.proofs.Math.Logic.{⊎_elim}
use native.Mathlib.Omega.{arith}
use borrow.Author.Tests.{ltb-true}
use Rattle.base_laws.specs.Bools.{lt_or_le, eq_or_ne}
use Rattle.base_laws.specs.Definitions.{all_below}
use Rattle.base_laws.specs.Below.{all_at}
use Rattle.settings_values.specs.Definitions.{shards}
use Rattle.message_format.specs.declared.Form.{Form}
use Rattle.message_format.specs.Definitions.{tag, kind, record_shard, shards_of, kind_at, shard_at, sequence_at, complete}
use Rattle.message_format.specs.Laws.{every_has, complete_members, complete_positions, block, tags_strict, kind_one, of-kind, members_record, members-below}

-- ---- the records of a message that passes rows 9, 16 and 17

module _ (form : Form) (σ : List ℕ) (node : ℕ) (b : List ℕ) (len : ℕ)
    (kinds : all_below len (kind_at form b) ≡ true) (within : all_below len (shard_at σ b) ≡ true)
    (rises : all_below len (sequence_at node b) ≡ true) (whole : complete form σ node b len ≡ true)
  where
    -- a shard is a remainder by 256
    shard_small : (s : ℕ) → s < shards σ → s < 256
    shard_small s l = let w = every_has σ b 1 len (complete_members form σ node b len whole) s l in omega (arith, w.3)

    -- and no other is of kind 1
    pub members_only : (j : ℕ) → j < len → kind b j ≡ 1 → record_shard b j ≡ j
    unfolding shard_at
    members_only j l k =
        let s : record_shard b j < shards σ = ltb-true (record_shard b j) (shards σ) (all_at len (shard_at σ b) within j l) in
        let e : tag b (record_shard b j) ≡ tag b j = (members_record form σ node b len kinds within rises whole) (record_shard b j) s ∙ omega arith in
        ⊎_elim (λ m. absurd (let r = (tags_strict form σ node b len kinds within rises whole) (record_shard b j) j m l (omega arith) in omega arith))
        (λ m.
        ⊎_elim (λ q. q) (λ q. absurd (let r = (tags_strict form σ node b len kinds within rises whole) j (record_shard b j) (omega arith) ((members-below form σ node b len kinds within rises whole) (record_shard b j) s) (omega arith) in omega arith))
        (eq_or_ne (record_shard b j) j))
        (lt_or_le (record_shard b j) j)

    positions_block : (shards_of 2 b len ≡ 0 → ⊥) → (s : ℕ) → s < shards σ
        → (shards σ + s < len) × (tag b (shards σ + s) ≡ 512 + s)
    unfolding shard_at
    positions_block z =
        block b len (tags_strict form σ node b len kinds within rises whole) (shards σ) 512 (shards σ) after before
        ((of-kind form σ node b len kinds within rises whole) 2 (omega arith) (complete_positions form σ node b len whole z))
      where
        after : (i : ℕ) → shards σ ≤ i → i < len → 512 ≤ tag b i
        after i l m =
            ⊎_elim
            (λ q.
            let k : kind b i ≡ 1 = omega (arith, (kind_one form σ node b len kinds within rises whole) i m) in
            let s = ltb-true (record_shard b i) (shards σ) (all_at len (shard_at σ b) within i m) in
            absurd (omega (arith, members_only i m k)))
            (λ q. q)
            (lt_or_le (tag b i) 512)

        before : (j : ℕ) → j < len → 512 ≤ tag b j → shards σ ≤ j
        before j m t =
            ⊎_elim (λ q. absurd (omega (arith, (members_record form σ node b len kinds within rises whole) j q, shard_small j q))) (λ q. q) (lt_or_le j (shards σ))

    -- with a termination record S + s is that of kind 2 and shard s
    pub position-record : (shards_of 2 b len ≡ 0 → ⊥) → (s : ℕ) → s < shards σ → tag b (shards σ + s) ≡ 512 + s
    position-record z s l = (positions_block z s l).1

    pub position_below : (shards_of 2 b len ≡ 0 → ⊥) → (s : ℕ) → s < shards σ → shards σ + s < len
    position_below z s l = (positions_block z s l).0
