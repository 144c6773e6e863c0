-- Laws of the number that decide would give for a set of held nodes. q: what waits 1 to 4 say of these nodes.
use Rattle.std.specs.Prelude.{ℕ, ◌≤◌, Bool, true, false, List, ◌⊎◌, ◌≡◌, refl, ltb}
use Rattle.std.proofs.Common.{inl, inr, ⊎_elim, sym, ap, ◌∙◌, arith, ne_eqb}
use Rattle.base_laws.specs.Definitions.{count}
use Rattle.settings_values.specs.Definitions.{least, shards}
use Rattle.place_groups.specs.Definitions.{LowestUnplaced}
use Rattle.report_views.specs.Definitions.{majority, number_of}
use Rattle.report_views.specs.declared.Layout.{Layout}
use Rattle.report_views.specs.declared.Reason.{Reason}
use Rattle.report_views.specs.declared.Reason.TheVariants.{NoView, NoMajority, TooFew, NoHolder, NoPlacement}
use Rattle.report_views.specs.declared.Quorum.{Quorum}
use Rattle.report_views.specs.declared.Quorum.TheVariants.{Met, Short}
use Rattle.plan_masks.specs.Masks.{first_unheld_in, quorum_in}
use Rattle.plan_masks.specs.Definitions.{Placeable, Allowed, PlacementNumber, Numbered}

pub short_met : (reason : Reason) → Short reason ≡ Met → ⊥
short_met reason e = let z : ◌≡◌ {A = ℕ} 0 1 = cc in omega arith

short_one : (a b : Reason) → Short a ≡ Short b → a ≡ b
short_one a b e = cc

number_some : (reason : Reason) → number_of reason ≡ 0 → ⊥
unfolding number_of
number_some NoView e = omega arith
number_some NoMajority e = omega arith
number_some TooFew e = omega arith
number_some (NoHolder s) e = omega arith
number_some (NoPlacement g) e = omega arith

module _ (σ : List ℕ) (held : ℕ) where
  -- a subgroup that cannot be placed
  pub refuted : Placeable σ held → (g : ℕ) × LowestUnplaced σ held g → ⊥
  refuted p w = let q = p w.0 w.1.below in w.1.none.none q.0 q.1

  -- 0 says that no wait applies
  pub plan_exists : (q : Quorum) (k : ℕ) → Numbered σ held q k → k ≡ 0 → Allowed σ held q
  plan_exists q k n e = by q refl
    where
      by : (r : Quorum) → q ≡ r → Allowed σ held q
      by (Short reason) h = absurd (number_some reason (sym (n.waits reason h) ∙ e))
      by Met h = ⊎_elim (λ p. record { quorum = h; placements = p.1 }) (λ p. absurd (let z = p.0 in omega arith)) (n.met h)

  -- any other number, that one does
  pub wait_none : (q : Quorum) (k : ℕ) → Numbered σ held q k → (k ≡ 0 → ⊥) → Allowed σ held q → ⊥
  wait_none q k n e r = ⊎_elim (λ p. e p.0) (λ p. refuted r.placements p.1) (n.met r.quorum)

  -- there is one number
  pub numbered_one : (q : Quorum) (k m : ℕ) → Numbered σ held q k → Numbered σ held q m → k ≡ m
  numbered_one q k m a b = by q refl
    where
      by : (r : Quorum) → q ≡ r → k ≡ m
      by (Short reason) h = a.waits reason h ∙ sym (b.waits reason h)
      by Met h =
          ⊎_elim (λ p. ⊎_elim (λ w. p.0 ∙ sym w.0) (λ w. absurd (refuted p.1 w.1)) (b.met h))
          (λ p. ⊎_elim (λ w. absurd (refuted w.1 p.1)) (λ w. p.0 ∙ sym w.0) (b.met h)) (a.met h)

  -- what the code finds: a condition that fails, or the placement's number
  pub numbered_short : (q : Quorum) (k : ℕ) (reason : Reason) → q ≡ Short reason → k ≡ number_of reason → Numbered σ held q k
  numbered_short q k reason h e =
      record {
        waits = λ other z. e ∙ ap number_of (short_one reason other (sym h ∙ z));
        met = λ z. absurd (short_met reason (sym h ∙ z));
      }

  pub numbered_met : (q : Quorum) (k : ℕ) → q ≡ Met → PlacementNumber σ held k → Numbered σ held q k
  numbered_met q k h p = record { waits = λ other z. absurd (short_met other (sym z ∙ h)); met = λ z. p }

-- where a view is kept the number is 0 or one of 2 to 5
pub in-range : (σ : List ℕ) (v : Layout) (held : ℕ) (ms : List ℕ) (k : ℕ) → (v.number.0 ≡ 0 → ⊥) → Numbered σ held (quorum_in σ v held ms) k
    → (k ≡ 0) ⊎ ((2 ≤ k) × (k ≤ 5))
unfolding quorum_in number_of
in-range σ v held ms k kept n = by (majority v held) (ltb (count held) (least σ)) (ltb (first_unheld_in σ held ms) (shards σ)) refl refl refl
  where
    by : (a b c : Bool) → majority v held ≡ a → ltb (count held) (least σ) ≡ b → ltb (first_unheld_in σ held ms) (shards σ) ≡ c → (k ≡ 0) ⊎ ((2 ≤ k) × (k ≤ 5))
    by false b c ea eb ec =
        let z : k ≡ 2 = n.waits NoMajority (rw (ne_eqb v.number.0 0 kept, ea)) in
        inr (omega arith, omega arith)
    by true true c ea eb ec =
        let z : k ≡ 3 = n.waits TooFew (rw (ne_eqb v.number.0 0 kept, ea, eb)) in
        inr (omega arith, omega arith)
    by true false true ea eb ec =
        let z : k ≡ 4 = n.waits (NoHolder (record { 0 = first_unheld_in σ held ms })) (rw (ne_eqb v.number.0 0 kept, ea, eb, ec)) in
        inr (omega arith, omega arith)
    by true false false ea eb ec =
        ⊎_elim (λ p. inl p.0) (λ p. let z : k ≡ 5 = p.0 in inr (omega arith, omega arith)) (n.met (rw (ne_eqb v.number.0 0 kept, ea, eb, ec)))
