-- A short report has a record for its head, and for each shard one for its members, at most one for the termination and at most one run: at most
-- 49 records, after any number of restarts.
use Prim.Native.Nat.{ℕ, zero, suc, ◌+◌, ◌-◌, ◌*◌, ◌<◌, ◌≤◌}
use Rattle.std.proofs.Math.Bool.{true}
use Rattle.std.specs.Prelude.{not, ◌&&◌, ◌||◌, List, ◌≡◌, eqb}
use Rattle.std.proofs.Math.Logic.{⊎_elim}
use Rattle.std.proofs.Common.{◌∙◌}
use Rattle.std.proofs.Math.Path.{subst}
use native.Mathlib.Omega.{arith}
use Rattle.std.proofs.Math.Dec.{leb, ltb}
use borrow.Author.Tests.{eqb-true, eq-eqb, leb-true, ltb-true}
use Rattle.base_laws.specs.Bools.{and_left, and_right, or-holds, eq_or_ne}
use Rattle.base_laws.specs.Below.{all_at}
use Rattle.settings_values.specs.Definitions.{shards}
use Rattle.message_format.specs.declared.Form.TheVariants.{Report}
use Rattle.message_format.specs.Definitions.{tag, word1, word2, kind, record_shard, precedes, kind_ok, plain, kind_at, shard_at, surplus, sequence_at}
use Rattle.message_format.specs.Passed.{RecordsPass}
use Rattle.report_views.specs.Definitions.{is_run}

-- ---- a report with at most one run for each shard

module _ (σ : List ℕ) (node view members : ℕ) (b : List ℕ) (len : ℕ) (p : RecordsPass Report σ node view members b len)
    (once : (s i j : ℕ) → s < shards σ → i < j → j < len → is_run b s i ≡ true → is_run b s j ≡ true → ⊥) where
  kinds : (j : ℕ) → j < len → (1 ≤ kind b j) × (kind b j ≤ 3)
  unfolding kind_at kind_ok
  kinds j l =
      let both = and_left (leb 1 (kind b j) && leb (kind b j) 3) (plain (kind b j) (word2 b j)) (all_at len (kind_at Report b) p.kinds_pass j l) in (
        leb-true 1 (kind b j) (and_left (leb 1 (kind b j)) (leb (kind b j) 3) both),
        leb-true (kind b j) 3
            (and_right (leb 1 (kind b j)) (leb (kind b j) 3) both),
      )

  shard_below : (j : ℕ) → j < len → record_shard b j < shards σ
  unfolding shard_at
  shard_below j l = ltb-true (record_shard b j) (shards σ) (all_at len (shard_at σ b) p.shards_pass j l)

  -- so tags rise
  tags_rise : (j : ℕ) → suc j < len → tag b j < tag b (suc j)
  unfolding sequence_at precedes
  tags_rise j l =
      let follows = and_left (eqb (suc j) 0 || precedes b (suc j - 1) (suc j)) (not (surplus node b (suc j)))
      (all_at len (sequence_at node b) p.sequence_passes (suc j) l) in
      let e : suc j - 1 ≡ j = omega arith in
      ⊎_elim (λ z. absurd (omega (arith, eqb-true (suc j) 0 z)))
      (λ z.
      let after : (ltb (tag b j) (tag b (suc j)) || (eqb (tag b j) (tag b (suc j)) &&
      (eqb (kind b (suc j)) 3 && ltb (word1 b j) (word1 b (suc j))))) ≡ true =
      subst (λ (i : ℕ). (ltb (tag b i) (tag b (suc j)) || (eqb (tag b i) (tag b (suc j)) &&
      (eqb (kind b (suc j)) 3 && ltb (word1 b i) (word1 b (suc j))))) ≡ true) e z in
      ⊎_elim (λ x. ltb-true (tag b j) (tag b (suc j)) x)
      (λ x.
      let same_tag = eqb-true (tag b j) (tag b (suc j)) (and_left (eqb (tag b j) (tag b (suc j)))
      (eqb (kind b (suc j)) 3 && ltb (word1 b j) (word1 b (suc j))) x) in
      let third = eqb-true (kind b (suc j)) 3 (and_left (eqb (kind b (suc j)) 3) (ltb (word1 b j) (word1 b (suc j)))
      (and_right (eqb (tag b j) (tag b (suc j))) (eqb (kind b (suc j)) 3 && ltb (word1 b j) (word1 b (suc j))) x)) in
      let tagged : tag b (suc j) ≡ 768 + record_shard b (suc j) = omega arith in
      absurd (once (record_shard b (suc j)) j (suc j) (shard_below (suc j) l) (omega arith) l (eq-eqb (tag b j) (768 + record_shard b (suc j)) (same_tag ∙ tagged))
      (eq-eqb (tag b (suc j)) (768 + record_shard b (suc j)) tagged)))
      (or-holds (ltb (tag b j) (tag b (suc j))) (eqb (tag b j) (tag b (suc j)) &&
      (eqb (kind b (suc j)) 3 && ltb (word1 b j) (word1 b (suc j)))) after))
      (or-holds (eqb (suc j) 0) (precedes b (suc j - 1) (suc j)) follows)

  -- record j is no further than the places of its kind and the kinds before it
  record RecordPlaced (j : ℕ) : Type 0 where
    pub members_first : kind b j ≡ 1 → j ≤ record_shard b j
    pub then-ends : kind b j ≡ 2 → j ≤ shards σ + record_shard b j
    pub then_runs : kind b j ≡ 3 → j ≤ shards σ + shards σ + record_shard b j

  placed : (j : ℕ) → j < len → RecordPlaced j
  placed zero l = record { members_first = λ e. omega arith; then-ends = λ e. omega arith; then_runs = λ e. omega arith }
  placed (suc j) l =
      let one : RecordPlaced j = placed j (omega arith) in
      let k = kinds j (omega arith) in
      ⊎_elim
      (λ a. step (one.members_first a) (λ e. omega (arith, tags_rise j l)) (λ e. omega (arith, shard_below j (omega arith)))
      (λ e. omega (arith, shard_below j (omega arith))))
      (λ a.
      ⊎_elim
      (λ c. step (one.then-ends c) (λ e. absurd (omega (arith, tags_rise j l))) (λ e. omega (arith, tags_rise j l))
      (λ e. omega (arith, shard_below j (omega arith))))
      (λ c.
      let third : kind b j ≡ 3 = omega (arith, k.0, k.1, a, c) in
      step (one.then_runs third) (λ e. absurd (omega (arith, tags_rise j l))) (λ e. absurd (omega (arith, tags_rise j l)))
      (λ e. omega (arith, tags_rise j l)))
      (eq_or_ne (kind b j) 2))
      (eq_or_ne (kind b j) 1)
    where
      step : {m : ℕ} → j ≤ m → (kind b (suc j) ≡ 1 → suc m ≤ record_shard b (suc j)) → (kind b (suc j) ≡ 2 → suc m ≤ shards σ + record_shard b (suc j))
          → (kind b (suc j) ≡ 3 → suc m ≤ shards σ + shards σ + record_shard b (suc j)) → RecordPlaced (suc j)
      step h f g r = record { members_first = λ e. omega (arith, f e); then-ends = λ e. omega (arith, g e); then_runs = λ e. omega (arith, r e) }

  pub records_few : len ≤ 3 * shards σ
  records_few = ⊎_elim (λ z. omega arith) (λ z. full (omega (arith, z))) (eq_or_ne len 0)
    where
      full : 1 ≤ len → len ≤ 3 * shards σ
      full l =
          let last : len - 1 < len = omega arith in
          let one = placed (len - 1) last in
          let k = kinds (len - 1) last in
          let s = shard_below (len - 1) last in
          ⊎_elim (λ a. omega (arith, one.members_first a))
          (λ a. ⊎_elim (λ c. omega (arith, one.then-ends c)) (λ c. omega (arith, one.then_runs (omega (arith, k.0, k.1, a, c))))
          (eq_or_ne (kind b (len - 1)) 2))
          (eq_or_ne (kind b (len - 1)) 1)
