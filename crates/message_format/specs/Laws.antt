-- Where the records of a message stand that passes rows 9, 16 and 17: record s gives the members of shard s, and in a message with a
-- termination record S + s gives its position. Tags rise strictly up to kind 2, so the records of a kind that every shard has
-- fill a block of S places.
use Rattle.std.specs.Prelude.{Bool, true, false, cond, ◌&&◌, ◌||◌, List, ◌⊎◌, ◌≡◌, refl, ℕ, zero, suc, ◌+◌, ◌*◌, ◌-◌, ◌<◌, ◌≤◌, eqb, leb}
use Rattle.std.proofs.Common.{inl, inr, sym, ap, ◌∙◌, subst, not-suc-le-zero}
use Rattle.std.proofs.Math.Logic.{⊎_elim}
use native.Mathlib.Omega.{arith}
use borrow.Author.Tests.{leb-true, eqb-true, eq-eqb}
use Rattle.base_laws.specs.Bools.{and_left, and_right, or_left, or_right, or-holds, clash, lt_or_le, eq_or_ne}
use Rattle.base_laws.specs.Definitions.{all_below, has, with, subset}
use Rattle.base_laws.specs.Below.{all_at}
use Rattle.base_laws.specs.Masks.{has_zero, has_with, has_full, subset_has}
use Rattle.settings_values.specs.Definitions.{shards, from_to}
use Rattle.message_format.specs.declared.Form.{Form}
use Rattle.message_format.specs.declared.Form.TheVariants.{Report, Order}
use Rattle.message_format.specs.Definitions.{tag, word2, kind, record_shard, shards_where, shards_of, carried_by, kind_ok, plain, kind_at, shard_at, sequence_at, every_shard, complete}
use Rattle.message_format.specs.Rising.{precedes_cases, rising}

-- ---- the shards of the records that a test picks

-- a shard of the mask has a record that is picked
pub where_has : (f : ℕ → Bool) (b : List ℕ) (n s : ℕ) → has (shards_where f b n) s ≡ true
    → (j : ℕ) × (j < n) × (f j ≡ true) × (record_shard b j ≡ s)
unfolding shards_where
where_has f b zero s h = clash h (has_zero s)
where_has f b (suc n) s h = go (where_has f b n s) (f n) refl h
  where
    before : (j : ℕ) × (j < n) × (f j ≡ true) × (record_shard b j ≡ s) → (j : ℕ) × (j < suc n) × (f j ≡ true) × (record_shard b j ≡ s)
    before w = (w.0, omega (arith, w.1), w.2, w.3)

    go : (has (shards_where f b n) s ≡ true → (j : ℕ) × (j < n) × (f j ≡ true) × (record_shard b j ≡ s)) → (p : Bool) → f n ≡ p
        → has (cond p (with (shards_where f b n) (record_shard b n)) (shards_where f b n)) s ≡ true
        → (j : ℕ) × (j < suc n) × (f j ≡ true) × (record_shard b j ≡ s)
    go rest true e k =
        ⊎_elim (λ i. before (rest i)) (λ i. (n, omega arith, e, eqb-true (record_shard b n) s i))
        (or-holds (has (shards_where f b n) s) (eqb (record_shard b n) s) (sym (has_with (shards_where f b n) (record_shard b n) s) ∙ k))
    go rest false e k = before (rest k)

-- and the other way
pub where_at : (f : ℕ → Bool) (b : List ℕ) (n j : ℕ) → j < n → f j ≡ true → has (shards_where f b n) (record_shard b j) ≡ true
unfolding shards_where
where_at f b zero j l p = absurd (not-suc-le-zero l)
where_at f b (suc n) j l p = go (where_at f b n j) (eq_or_ne j n) (f n) refl
  where
    go : (j < n → f j ≡ true → has (shards_where f b n) (record_shard b j) ≡ true) → (j ≡ n) ⊎ (j ≡ n → ⊥) → (q : Bool) → f n ≡ q
        → has (cond q (with (shards_where f b n) (record_shard b n)) (shards_where f b n)) (record_shard b j) ≡ true
    go rest (inl e) true h =
        has_with (shards_where f b n) (record_shard b n) (record_shard b j)
        ∙ or_right (has (shards_where f b n) (record_shard b j)) (eq-eqb (record_shard b n) (record_shard b j) (ap (λ (i : ℕ). record_shard b i) (sym e)))
    go rest (inl e) false h = clash (subst (λ (i : ℕ). f i ≡ true) e p) h
    go rest (inr e) true h =
        has_with (shards_where f b n) (record_shard b n) (record_shard b j) ∙ or_left (eqb (record_shard b n) (record_shard b j)) (rest (omega arith) p)
    go rest (inr e) false h = rest (omega arith) p

-- every shard has a record of kind k
pub every_has : (σ b : List ℕ) (k len : ℕ) → subset (every_shard σ) (shards_of k b len) ≡ true → (s : ℕ) → s < shards σ
    → (j : ℕ) × (j < len) × (kind b j ≡ k) × (record_shard b j ≡ s)
every_has σ b k len h s l =
    let w = where_has (λ j. eqb (kind b j) k) b len s
    (subset_has (every_shard σ) (shards_of k b len) h s (has_full (shards σ) s l)) in
    (w.0, w.1, eqb-true (kind b w.0) k w.2, w.3)

-- ---- what rows 9, 16 and 17 give

pub kind_from : (form : Form) (k : ℕ) → kind_ok form k ≡ true → 1 ≤ k
unfolding kind_ok
kind_from Report k h = leb-true 1 k (and_left (leb 1 k) (leb k 3) h)
kind_from Order k h =
    ⊎_elim (λ p. leb-true 1 k (and_left (leb 1 k) (leb k 2) p))
    (λ p. let four = leb-true 4 k (and_left (leb 4 k) (leb k 5) p) in omega arith)
    (or-holds (from_to 1 2 k) (from_to 4 5 k) h)

pub complete_members : (form : Form) (σ : List ℕ) (node : ℕ) (b : List ℕ) (len : ℕ) → complete form σ node b len ≡ true
    → subset (every_shard σ) (shards_of 1 b len) ≡ true
unfolding complete
complete_members Report σ node b len h = and_left (subset (every_shard σ) (shards_of 1 b len)) _ h
complete_members Order σ node b len h =
    let one = subset (every_shard σ) (shards_of 1 b len) in
    let two = subset (every_shard σ) (shards_of 2 b len) in
    let four = subset (carried_by node b len) (shards_of 4 b len) in
    and_left one two (and_left (one && two) four (and_left (one && two && four) _ h))

pub complete_positions : (form : Form) (σ : List ℕ) (node : ℕ) (b : List ℕ) (len : ℕ) → complete form σ node b len ≡ true
    → (shards_of 2 b len ≡ 0 → ⊥) → subset (every_shard σ) (shards_of 2 b len) ≡ true
unfolding complete
complete_positions Report σ node b len h z =
    let two = subset (every_shard σ) (shards_of 2 b len) in
    ⊎_elim (λ e. absurd (z (eqb-true (shards_of 2 b len) 0 e))) (λ e. e)
    (or-holds (eqb (shards_of 2 b len) 0) two (and_right (subset (every_shard σ) (shards_of 1 b len)) (eqb (shards_of 2 b len) 0 || two) h))
complete_positions Order σ node b len h z =
    let one = subset (every_shard σ) (shards_of 1 b len) in
    let two = subset (every_shard σ) (shards_of 2 b len) in
    let four = subset (carried_by node b len) (shards_of 4 b len) in
    and_right one two (and_left (one && two) four (and_left (one && two && four) _ h))

-- ---- a block of records

module _ (b : List ℕ) (len : ℕ) (strict : (i j : ℕ) → i < j → j < len → tag b j < 768 → tag b i < tag b j)
    (from base n : ℕ) (low : (i : ℕ) → from ≤ i → i < len → base ≤ tag b i)
    (high : (j : ℕ) → j < len → base ≤ tag b j → from ≤ j)
    (each : (s : ℕ) → s < n → (j : ℕ) × (j < len) × (tag b j ≡ base + s) × (tag b j < 768))
  where
    block_floor : (d : ℕ) → from + d < len → tag b (from + d) < 768 → base + d ≤ tag b (from + d)
    block_floor zero l t = omega (arith, low (from + 0) (omega arith) l)
    block_floor (suc d) l t =
        let e : from + suc d ≡ suc (from + d) = omega arith in
        let r = strict (from + d) (from + suc d) (omega arith) l t in
        omega (arith, block_floor d (omega arith) (omega arith))

    block_ceiling : (s : ℕ) → s < n → (j : ℕ) → j < len → tag b j ≡ base + s → from + s ≤ j
    block_ceiling zero l j m e = omega (arith, high j m (omega arith))
    block_ceiling (suc s) l j m e =
        let w = each s (omega arith) in
        let k : from + s ≤ w.0 = block_ceiling s (omega arith) w.0 w.1 w.2 in
        ⊎_elim (λ i. omega arith)
        (λ i.
        ⊎_elim (λ q. let r = strict j w.0 q w.1 w.3 in absurd (omega (arith, w.2)))
        (λ q. let r : tag b j ≡ tag b w.0 = ap (λ (x : ℕ). tag b x) (let x : j ≡ w.0 = omega arith in x) in absurd (omega (arith, w.2)))
        (lt_or_le j w.0))
        (lt_or_le w.0 j)

    -- record from + s has tag base + s
    pub block : (s : ℕ) → s < n → (from + s < len) × (tag b (from + s) ≡ base + s)
    block s l =
        let w = each s l in
        let k : from + s ≤ w.0 = block_ceiling s l w.0 w.1 w.2 in
        let e : from + (w.0 - from) ≡ w.0 = omega arith in
        let f : base + (w.0 - from) ≤ tag b w.0 =
        subst (λ (x : ℕ). base + (w.0 - from) ≤ tag b x) e
        (block_floor (w.0 - from) (omega (arith, w.1)) (subst (λ (x : ℕ). tag b x < 768) (sym e) w.3)) in
        let same : w.0 ≡ from + s = omega (arith, w.2) in
        (omega (arith, w.1), subst (λ (x : ℕ). tag b x ≡ base + s) same w.2)

-- ---- the records of a message that passes rows 9, 16 and 17

module _ (form : Form) (σ : List ℕ) (node : ℕ) (b : List ℕ) (len : ℕ)
    (kinds : all_below len (kind_at form b) ≡ true) (within : all_below len (shard_at σ b) ≡ true)
    (rises : all_below len (sequence_at node b) ≡ true) (whole : complete form σ node b len ≡ true)
  where
    -- up to kind 2 tags rise strictly
    pub tags_strict : (i j : ℕ) → i < j → j < len → tag b j < 768 → tag b i < tag b j
    tags_strict i j l m t =
        ⊎_elim (λ p. p) (λ p. absurd (omega (arith, p.1))) (precedes_cases b i j (rising node b len rises i j l m))

    pub kind_one : (j : ℕ) → j < len → 256 ≤ tag b j
    unfolding kind_at
    kind_one j l =
        let k = kind_from form (kind b j) (and_left (kind_ok form (kind b j)) (plain (kind b j) (word2 b j)) (all_at len (kind_at form b) kinds j l)) in
        omega arith

    pub of-kind : (k : ℕ) → k < 3 → subset (every_shard σ) (shards_of k b len) ≡ true → (s : ℕ) → s < shards σ
        → (j : ℕ) × (j < len) × (tag b j ≡ 256 * k + s) × (tag b j < 768)
    of-kind k small h s l =
        let w = every_has σ b k len h s l in
        (w.0, w.1, omega (arith, w.2, w.3), omega (arith, w.2))

    members_block : (s : ℕ) → s < shards σ → (0 + s < len) × (tag b (0 + s) ≡ 256 + s)
    members_block =
        block b len tags_strict 0 256 (shards σ) (λ i l m. kind_one i m) (λ j m l. omega arith)
        (of-kind 1 (omega arith) (complete_members form σ node b len whole))

    -- record s is that of kind 1 and shard s
    pub members_record : (s : ℕ) → s < shards σ → tag b s ≡ 256 + s
    members_record s l = let e : 0 + s ≡ s = omega arith in subst (λ (x : ℕ). tag b x ≡ 256 + s) e (members_block s l).1

    pub members-below : (s : ℕ) → s < shards σ → s < len
    members-below s l = omega (arith, (members_block s l).0)

    -- so there are as many records as shards
    pub members_enough : shards σ ≤ len
    members_enough = enough (shards σ) refl
      where
        enough : (n : ℕ) → shards σ ≡ n → n ≤ len
        enough zero e = omega arith
        enough (suc n) e = members-below n (omega arith)

    -- there is a termination where some record is of kind 2
    pub some_position : (j : ℕ) → j < len → kind b j ≡ 2 → shards_of 2 b len ≡ 0 → ⊥
    some_position j l e z =
        clash (where_at (λ i. eqb (kind b i) 2) b len j l (eq-eqb (kind b j) 2 e)) (ap (λ (x : ℕ). has x (record_shard b j)) z ∙ has_zero (record_shard b j))
