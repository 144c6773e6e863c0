-- Laws of what passes over the records gather: a turn of the loop that gathers shards, and the shard masks as a table.
use Rattle.std.specs.Prelude.{◌≡◌, refl, Bool, true, cond, List, ℕ, ◌+◌, ◌<◌, ◌≤◌, ltb, get_or, replicate}
use Rattle.std.proofs.Common.{ap, ◌∙◌, ⊎_elim, add-one, arith, lt-ltb, le-ltb, ltb-true}
use Rattle.std.proofs.lemmas.List.{length-replicate, get_or-replicate}
use Rattle.base_laws.specs.Bools.{lt_or_le}
use Rattle.base_laws.specs.Definitions.{all_below}
use Rattle.base_laws.specs.Below.{all_at}
use Rattle.base_laws.specs.Tables.{filled, get_d_tabulate, tabulate_ext, get_or_filled, get_or_filled_rest, length_filled}
use Rattle.settings_values.specs.Definitions.{shards, Settings}
use Rattle.message_format.specs.Definitions.{record_shard, shards_where, members_of, shard_at, row10}
use Rattle.message_format.specs.Alike.{row10_same}
use Rattle.message_contents.specs.Gathered.{SmallShards, with_shard, shard_masks}

-- ---- the shards of the records that a test picks

pub where_none : (f : ℕ → Bool) (b : List ℕ) → shards_where f b 0 ≡ 0
unfolding shards_where
where_none f b = refl

pub where_step : (f : ℕ → Bool) (b : List ℕ) (n : ℕ)
    → shards_where f b (n + 1) ≡ with_shard (f n) (shards_where f b n) b n
unfolding shards_where
where_step f b n = ap (λ (k : ℕ). shards_where f b k) (add-one n)

-- row 16 makes the shards fit a mask
pub shards_small : (σ b : List ℕ) (n : ℕ) → Settings σ → all_below n (shard_at σ b) ≡ true → SmallShards b n
unfolding shard_at
shards_small σ b n g h j l =
    omega (arith, ltb-true (record_shard b j) (shards σ) (all_at n (shard_at σ b) h j l), g.sizes.shards_to)

-- ---- the shard masks

pub masks_filled : (n : ℕ) (b : List ℕ) → n ≤ 16 → filled n (members_of b) (replicate 16 0) ≡ shard_masks n b
unfolding shard_masks
masks_filled n b h =
    tabulate_ext 0 16 (λ s. cond (ltb s n) (members_of b s) 0) (filled n (members_of b) (replicate 16 0))
    (length_filled n (members_of b) (replicate 16 0) (omega (arith, length-replicate {A = ℕ} 16 0)) ∙ length-replicate {A = ℕ} 16 0)
    (λ s l.
    ⊎_elim (λ i. get_or_filled n (members_of b) (replicate 16 0) s 0 i ∙ rw (lt-ltb s n i))
    (λ i. get_or_filled_rest n (members_of b) (replicate 16 0) s 0 i ∙ get_or-replicate 16 s 0 0 l ∙ rw (le-ltb s n i))
    (lt_or_le s n))

pub mask-at : (n : ℕ) (b : List ℕ) (s : ℕ) → s < n → n ≤ 16 → get_or (shard_masks n b) s 0 ≡ members_of b s
unfolding shard_masks
mask-at n b s l h =
    get_d_tabulate 16 (λ i. cond (ltb i n) (members_of b i) 0) s 0 (omega arith) ∙ rw (lt-ltb s n l)

-- row 10 over the table is row 10 over the records
pub masks_row10 : (σ : List ℕ) (members : ℕ) (b : List ℕ) → Settings σ
    → row10 σ members (λ i. get_or (shard_masks (shards σ) b) i 0) ≡ row10 σ members (members_of b)
masks_row10 σ members b g =
    row10_same σ members (λ i. get_or (shard_masks (shards σ) b) i 0) (members_of b)
    (λ s l. mask-at (shards σ) b s l g.sizes.shards_to)
