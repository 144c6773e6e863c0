-- The records of an order in their four parts: the members of each shard, the target of each shard, and for each shard that
-- the recipient carries its holder and its cut. Every record is in one part, and tags rise from each record to the next.
use Rattle.std.specs.Prelude.{ℕ, ◌+◌, ◌*◌, ◌-◌, ◌<◌, ◌≤◌, Bool, true, List, ◌⊎◌, ◌≡◌, refl}
use native.Mathlib.Omega.{arith}
use Rattle.std.proofs.Common.{inl, inr, ⊎_elim}
use Rattle.std.proofs.Math.Path.{subst⁻¹}
use Rattle.base_laws.specs.Bools.{lt_or_le}
use Rattle.base_laws.specs.Definitions.{count_below, has}
use Rattle.base_laws.specs.Below.{count_longer}
use Rattle.base_ids.specs.declared.Position.{Position}
use Rattle.message_format.specs.Definitions.{tag, word1, word2, kind, record_shard}
use Rattle.base_sum_laws.specs.Definitions.{nth}
use Rattle.base_sum_laws.proofs.Ranks.{nth_below, nth-holds, rank_nth}

-- record j of a body has kind k, shard s and words 1 and 2 x and y
pub record RecordSays (b : List ℕ) (j k s x y : ℕ) : Type 0 where
  pub tagged : tag b j ≡ 256 * k + s
  pub first : word1 b j ≡ x
  pub second : word2 b j ≡ y

pub says_kind : {b : List ℕ} {j k s x y : ℕ} → s < 256 → RecordSays b j k s x y → kind b j ≡ k
says_kind l e = omega (arith, e.tagged)

pub says_shard : {b : List ℕ} {j k s x y : ℕ} → s < 256 → RecordSays b j k s x y → record_shard b j ≡ s
says_shard l e = omega (arith, e.tagged)

-- what an order for S shards says: their members, targets, holders and cuts
pub record OrderSays : Type 0 where
  pub members : ℕ → ℕ
  pub target : ℕ → Position
  pub holder : ℕ → ℕ
  pub cut : ℕ → Position

-- shard s gives the recipient its place among the holders and cuts
abbrev pub carries_by : OrderSays → ℕ → ℕ → Bool
carries_by a node s = has (a.members s) node

abbrev pub rank : OrderSays → ℕ → ℕ → ℕ
rank a node s = count_below s (carries_by a node)

-- the body says so
pub record BodySays (S node : ℕ) (a : OrderSays) (b : List ℕ) (len : ℕ) : Type 0 where
  pub few : S ≤ 16
  pub count : len ≡ 2 * S + 2 * rank a node S
  pub members-at : (s : ℕ) → s < S → RecordSays b s 1 s (a.members s) 0
  pub target-at : (s : ℕ) → s < S → RecordSays b (S + s) 2 s (a.target s).view.0 (a.target s).k
  pub holder-at : (s : ℕ) → s < S → carries_by a node s ≡ true → RecordSays b (2 * S + rank a node s) 4 s (a.holder s) 0
  pub cut_at : (s : ℕ) → s < S → carries_by a node s ≡ true
      → RecordSays b (2 * S + rank a node S + rank a node s) 5 s (a.cut s).view.0 (a.cut s).k

-- where a record stands
pub data RecordPlace (S node : ℕ) (a : OrderSays) (j : ℕ) : Type 0 where
  a_members : (s : ℕ) → s < S → j ≡ s → RecordPlace S node a j
  a_target : (s : ℕ) → s < S → j ≡ S + s → RecordPlace S node a j
  a_holder : (s : ℕ) → s < S → carries_by a node s ≡ true → j ≡ 2 * S + rank a node s → RecordPlace S node a j
  a_cut : (s : ℕ) → s < S → carries_by a node s ≡ true → j ≡ 2 * S + rank a node S + rank a node s → RecordPlace S node a j

module _ {S node : ℕ} {a : OrderSays} where
  unfoldable pub kind_of : {j : ℕ} → RecordPlace S node a j → ℕ
  kind_of (a_members s l e) = 1
  kind_of (a_target s l e) = 2
  kind_of (a_holder s l p e) = 4
  kind_of (a_cut s l p e) = 5

  unfoldable pub shard_of : {j : ℕ} → RecordPlace S node a j → ℕ
  shard_of (a_members s l e) = s
  shard_of (a_target s l e) = s
  shard_of (a_holder s l p e) = s
  shard_of (a_cut s l p e) = s

  unfoldable pub first_word : {j : ℕ} → RecordPlace S node a j → ℕ
  first_word (a_members s l e) = a.members s
  first_word (a_target s l e) = (a.target s).view.0
  first_word (a_holder s l p e) = a.holder s
  first_word (a_cut s l p e) = (a.cut s).view.0

  unfoldable pub second_of : {j : ℕ} → RecordPlace S node a j → ℕ
  second_of (a_members s l e) = 0
  second_of (a_target s l e) = (a.target s).k
  second_of (a_holder s l p e) = 0
  second_of (a_cut s l p e) = (a.cut s).k

module _ (S node : ℕ) (a : OrderSays) where
  -- every record is in one part
  pub part_of : (j : ℕ) → j < 2 * S + 2 * rank a node S → RecordPlace S node a j
  part_of j l = go (lt_or_le j S) (lt_or_le j (2 * S)) (lt_or_le j (2 * S + rank a node S))
    where
      go : (j < S) ⊎ (S ≤ j) → (j < 2 * S) ⊎ (2 * S ≤ j) → (j < 2 * S + rank a node S) ⊎ (2 * S + rank a node S ≤ j) → RecordPlace S node a j
      go (inl p) q r = a_members j p refl
      go (inr p) (inl q) r = a_target (j - S) (omega arith) (omega arith)
      go (inr p) (inr q) (inl r) =
          let i : j - 2 * S < rank a node S = omega arith in
          a_holder (nth S (carries_by a node) (j - 2 * S)) (nth_below (carries_by a node) S (j - 2 * S) i) (nth-holds (carries_by a node) S (j - 2 * S) i)
          (omega (arith, rank_nth (carries_by a node) S (j - 2 * S) i))
      go (inr p) (inr q) (inr r) =
          let i : j - (2 * S + rank a node S) < rank a node S = omega arith in
          a_cut (nth S (carries_by a node) (j - (2 * S + rank a node S))) (nth_below (carries_by a node) S _ i) (nth-holds (carries_by a node) S _ i)
          (omega (arith, rank_nth (carries_by a node) S (j - (2 * S + rank a node S)) i))

  -- of two shards the one with the lower rank is lower
  rank_order : (s t : ℕ) → rank a node s < rank a node t → s < t
  rank_order s t l =
      ⊎_elim (λ h. h) (λ h. absurd (omega (arith, count_longer t s (carries_by a node) h))) (lt_or_le s t)

  -- what ranks of carried shards are below
  rank_le : (s : ℕ) → s < S → rank a node s ≤ rank a node S
  rank_le s l = count_longer s S (carries_by a node) (omega arith)

  -- kind × 256 + shard
  unfoldable pub tag_of : {j : ℕ} → RecordPlace S node a j → ℕ
  tag_of q = 256 * kind_of q + shard_of q

  pub shard_below : {j : ℕ} (q : RecordPlace S node a j) → shard_of q < S
  unfolding shard_of
  shard_below (a_members s l e) = l
  shard_below (a_target s l e) = l
  shard_below (a_holder s l p e) = l
  shard_below (a_cut s l p e) = l

  -- tags rise
  pub tags_rise : S ≤ 16 → {i j : ℕ} (p : RecordPlace S node a i) (q : RecordPlace S node a j) → i < j → tag_of p < tag_of q
  unfolding tag_of kind_of shard_of
  tags_rise few (a_members s l e) (a_members t m d) h = omega arith
  tags_rise few (a_members s l e) (a_target t m d) h = omega arith
  tags_rise few (a_members s l e) (a_holder t m q d) h = omega arith
  tags_rise few (a_members s l e) (a_cut t m q d) h = omega arith
  tags_rise few (a_target s l e) (a_members t m d) h = omega arith
  tags_rise few (a_target s l e) (a_target t m d) h = omega arith
  tags_rise few (a_target s l e) (a_holder t m q d) h = omega arith
  tags_rise few (a_target s l e) (a_cut t m q d) h = omega arith
  tags_rise few (a_holder s l p e) (a_members t m d) h = omega arith
  tags_rise few (a_holder s l p e) (a_target t m d) h = omega arith
  tags_rise few (a_holder s l p e) (a_holder t m q d) h = omega (arith, rank_order s t (omega arith))
  tags_rise few (a_holder s l p e) (a_cut t m q d) h = omega arith
  tags_rise few (a_cut s l p e) (a_members t m d) h = omega arith
  tags_rise few (a_cut s l p e) (a_target t m d) h = omega arith
  tags_rise few (a_cut s l p e) (a_holder t m q d) h = omega (arith, rank_le t m)
  tags_rise few (a_cut s l p e) (a_cut t m q d) h = omega (arith, rank_order s t (omega arith))

module _ (S node : ℕ) (a : OrderSays) (b : List ℕ) (len : ℕ) (o : BodySays S node a b len) where
  -- what the record of a part says
  pub said : {j : ℕ} (q : RecordPlace S node a j) → RecordSays b j (kind_of q) (shard_of q) (first_word q) (second_of q)
  unfolding kind_of shard_of first_word second_of
  said (a_members s l e) = subst⁻¹ (λ (x : ℕ). RecordSays b x 1 s (a.members s) 0) e (o.members-at s l)
  said (a_target s l e) = subst⁻¹ (λ (x : ℕ). RecordSays b x 2 s (a.target s).view.0 (a.target s).k) e (o.target-at s l)
  said (a_holder s l p e) = subst⁻¹ (λ (x : ℕ). RecordSays b x 4 s (a.holder s) 0) e (o.holder-at s l p)
  said (a_cut s l p e) = subst⁻¹ (λ (x : ℕ). RecordSays b x 5 s (a.cut s).view.0 (a.cut s).k) e (o.cut_at s l p)
