-- The first of waits 1 to 4 that applies, from the holders, and the tests that lead to it.
use Rattle.std.specs.Prelude.{ℕ, ◌*◌, ◌<◌, ◌≤◌, Bool, true, false, cond, not, List, ◌≡◌, eqb, leb, ltb}
use Rattle.std.proofs.Math.Path.{ap}
use Rattle.std.proofs.Common.{◌∙◌}
use native.Mathlib.Omega.{arith}
use Rattle.std.specs.Int.Bits.{bit_and}
use borrow.Author.Tests.{lt-ltb, le-ltb, ne_eqb, eq-eqb}
use Rattle.base_laws.specs.Definitions.{lowest, count}
use Rattle.base_masks.specs.Majority.{LeastMajority}
use Rattle.base_masks.proofs.MajorityLaws.{enough_is_more}
use Rattle.settings_values.specs.Definitions.{least, shards}
use Rattle.base_ids.specs.declared.Node.{Node}
use Rattle.report_views.specs.Definitions.{node_at}
use Rattle.report_views.specs.declared.Layout.{Layout}
use Rattle.report_views.specs.declared.Quorum.{Quorum}
use Rattle.report_views.specs.declared.Quorum.TheVariants.{Met, Short}
use Rattle.report_views.specs.declared.Reason.TheVariants.{NoView, NoMajority, TooFew, NoHolder}

-- more than half of the members are held
abbrev pub most_held : ℕ → ℕ → Bool
most_held members held = ltb (count members) (2 * count (bit_and held members))

-- the lowest of the first count shards that has no holder
unfoldable pub first_without : List Node → ℕ → ℕ
first_without holders n = lowest n (λ s. eqb (node_at holders s) 32)

-- waits 1 to 4, from the holders
unfoldable pub quorum_by : List ℕ → Layout → ℕ → List Node → Quorum
quorum_by σ v held holders =
    cond (eqb v.number.0 0) (Short NoView)
    (cond (not (most_held v.members held)) (Short NoMajority)
    (cond (ltb (count held) (least σ)) (Short TooFew)
    (cond (ltb (first_without holders (shards σ)) (shards σ)) (Short (NoHolder (record { 0 = first_without holders (shards σ) }))) Met)))

-- ---- the quorum

-- by the least majority
pub least_held : (members held m c : ℕ) → m ≡ count members → LeastMajority m c → leb c (count (bit_and held members)) ≡ most_held members held
least_held members held m c e h =
    enough_is_more h (count (bit_and held members)) ∙ ap (λ (x : ℕ). ltb x (2 * count (bit_and held members))) e

module _ (σ : List ℕ) (v : Layout) (held : ℕ) (holders : List Node) where
  pub quorum_view : v.number.0 ≡ 0 → Short NoView ≡ quorum_by σ v held holders
  unfolding quorum_by
  quorum_view e = rw (eq-eqb v.number.0 0 e)

  module _ (kept : v.number.0 ≡ 0 → ⊥) where
    pub quorum_most : most_held v.members held ≡ false → Short NoMajority ≡ quorum_by σ v held holders
    unfolding quorum_by
    quorum_most h = rw (ne_eqb v.number.0 0 kept, h)

    module _ (most : most_held v.members held ≡ true) where
      pub quorum_few : count held < least σ → Short TooFew ≡ quorum_by σ v held holders
      unfolding quorum_by
      quorum_few h = rw (ne_eqb v.number.0 0 kept, most, lt-ltb (count held) (least σ) h)

      module _ (enough : least σ ≤ count held) (n s : ℕ) (en : n ≡ shards σ) (es : s ≡ first_without holders n) where
        pub quorum_holder : s < n → Short (NoHolder (record { 0 = s })) ≡ quorum_by σ v held holders
        unfolding quorum_by
        quorum_holder h =
            let e : s ≡ first_without holders (shards σ) = es ∙ ap (first_without holders) en in
            let l : first_without holders (shards σ) < shards σ = omega arith in
            rw (ne_eqb v.number.0 0 kept, most, le-ltb (count held) (least σ) enough, lt-ltb (first_without holders (shards σ)) (shards σ) l)
            (ap (λ (x : ℕ). Short (NoHolder (record { 0 = x }))) e)

        pub quorum_met : n ≤ s → Met ≡ quorum_by σ v held holders
        unfolding quorum_by
        quorum_met h =
            let e : s ≡ first_without holders (shards σ) = es ∙ ap (first_without holders) en in
            let l : shards σ ≤ first_without holders (shards σ) = omega arith in
            rw (ne_eqb v.number.0 0 kept, most, le-ltb (count held) (least σ) enough, le-ltb (first_without holders (shards σ)) (shards σ) l)
