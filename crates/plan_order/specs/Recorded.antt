-- The records of a node's order, part by part: record j of the contents by what part it is in.
use Rattle.std.specs.Prelude.{ℕ, ◌+◌, ◌*◌, ◌-◌, ◌/◌, ◌%◌, ◌<◌, ◌≤◌, true, List, ◌≡◌, ltb, get_or}
use native.Mathlib.Omega.{arith}
use Rattle.std.proofs.Math.Bool.{cond}
use Rattle.std.proofs.Common.{ap₂, ◌∙◌}
use borrow.Author.Tests.{lt-ltb, le-ltb}
use Rattle.base_laws.specs.Below.{count_le}
use Rattle.base_laws.specs.Tables.{get_d_tabulate}
use Rattle.settings_values.specs.Definitions.{shards}
use Rattle.report_views.specs.declared.Plan.{Plan}
use Rattle.report_views.specs.Definitions.{mask_at, target_at}
use Rattle.base_sum_laws.specs.Ranks.{nth_rank, rank_rises}
use Rattle.plan_order.specs.Definitions.{carries, carried_below, own, triple, position_record, holder_record, cut_record, order_record, order_len, order_word, order_body}

module _ (σ : List ℕ) (p : Plan) (d : List ℕ) (n : ℕ) where
  pub members_record : (s part : ℕ) → s < shards σ → order_record σ p d n s part ≡ triple (256 + s) (mask_at p.layout s) 0 part
  unfolding order_record
  members_record s part l = rw (lt-ltb s (shards σ) l)

  pub target_record : (s part : ℕ) → s < shards σ → order_record σ p d n (shards σ + s) part ≡ position_record (512 + s) (target_at p s) part
  unfolding order_record
  target_record s part l =
      let e : shards σ + s - shards σ ≡ s = omega arith in
      rw (le-ltb (shards σ + s) (shards σ) (omega arith), lt-ltb (shards σ + s) (2 * shards σ) (omega arith), e)

  pub holder-record : (s part : ℕ) → s < shards σ → carries p n s ≡ true
      → order_record σ p d n (2 * shards σ + carried_below p n s) part ≡ holder_record p s part
  unfolding order_record
  holder-record s part l c =
      let j = 2 * shards σ + carried_below p n s in
      let e : 2 * shards σ + carried_below p n s - 2 * shards σ ≡ carried_below p n s = omega arith in
      rw (
        le-ltb j (shards σ) (omega arith),
        le-ltb j (2 * shards σ) (omega arith),
        lt-ltb j (2 * shards σ + own σ p n) (omega (arith, rank_rises (carries p n) s (shards σ) l c)),
        e,
        nth_rank (carries p n) (shards σ) s l c,
      )

  pub cut-record : (s part : ℕ) → s < shards σ → carries p n s ≡ true
      → order_record σ p d n (2 * shards σ + own σ p n + carried_below p n s) part ≡ cut_record p d n s part
  unfolding order_record
  cut-record s part l c =
      let j = 2 * shards σ + own σ p n + carried_below p n s in
      let e : 2 * shards σ + own σ p n + carried_below p n s - 2 * shards σ - own σ p n ≡ carried_below p n s = omega arith in
      rw (
        le-ltb j (shards σ) (omega arith),
        le-ltb j (2 * shards σ) (omega arith),
        le-ltb j (2 * shards σ + own σ p n) (omega arith),
        e,
        nth_rank (carries p n) (shards σ) s l c,
      )

  module _ (few : shards σ ≤ 16) where
    pub len_few : order_len σ p n ≤ 64
    len_few = omega (arith, count_le (shards σ) (carries p n))

    -- word `part` of record j
    pub word-at : (j part : ℕ) → j < order_len σ p n → part < 3 → get_or (order_body σ p d n) (3 * j + part) 0 ≡ order_record σ p d n j part
    unfolding order_body
    word-at j part l m =
        let q : (3 * j + part) / 3 ≡ j = omega arith in
        let r : (3 * j + part) % 3 ≡ part = omega arith in
        get_d_tabulate 381 (λ k. cond (ltb k (3 * order_len σ p n)) (order_word σ p d n k) 0) (3 * j + part) 0 (omega (arith, len_few))
        ∙ rw (lt-ltb (3 * j + part) (3 * order_len σ p n) (omega arith))
        (ap₂ (order_record σ p d n) q r)
