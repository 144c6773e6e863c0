-- The order of placements by their lists: shards ascending, each shard's nodes listed ascending, and the smaller list in
-- dictionary order wins at the first shard that differs; a proper prefix is smaller. What the search finds first is first in it.
use Rattle.std.specs.Prelude.{◌≡◌, Bool, ◌&&◌, ◌⊎◌, ℕ, zero, suc, ◌+◌, ◌*◌, ◌/◌, ◌%◌, ◌≤◌, ◌<◌}
use Rattle.std.proofs.Math.Path.{refl, sym, subst}
use Rattle.std.proofs.Common.{◌∙◌, inl, inr, add-one, lt-ltb, ltb-true}
use Rattle.std.proofs.Math.Bool.{true, false}
use Rattle.std.proofs.Math.Logic.{⊎_elim}
use native.Mathlib.Omega.{arith}
use Rattle.std.proofs.Math.Dec.{eqb, ltb}
use Rattle.base_laws.specs.Bools.{clash, either, and_left, and_right, and_both, eq_or_ne, no_true}
use Rattle.base_laws.specs.Definitions.{any_below}
use Rattle.base_laws.specs.Below.{any_witness, any_fails}
use Rattle.base_sum_laws.specs.Lists.{list_cong}
use Rattle.base_sum_laws.proofs.Lists.{list-before, list_prefix}
use Rattle.search_laws.specs.Order.{takes, takes_at, Agree, NoneFrom, NotBefore, First, agree_start, agree_more, shard_end}
use Rattle.search_laws.specs.Dictionary.{nodes_of, Earlier, SameLists}

module _ {z y : ℕ → ℕ} where
  -- where two placements part, or that they don't
  part : (t : ℕ) → Agree z y t ⊎ ((s : ℕ) × (s < t) × Agree z y s × (takes z s ≡ takes y s → ⊥))
  part zero = inl (agree_start z y)
  part (suc t) = ⊎_elim (λ a. at a (either (takes z t)) (either (takes y t))) (λ w. inr (w.0, omega (arith, w.1), w.2, w.3)) (part t)
    where
      at : Agree z y t → (takes z t ≡ true) ⊎ (takes z t ≡ false) → (takes y t ≡ true) ⊎ (takes y t ≡ false) →
          Agree z y (suc t) ⊎ ((s : ℕ) × (s < suc t) × Agree z y s × (takes z s ≡ takes y s → ⊥))
      at a (inl d) (inl e) = inl (rw (← add-one t) (agree_more a (d ∙ sym e)))
      at a (inl d) (inr e) = inr (t, omega arith, a, λ w. clash (sym w ∙ d) e)
      at a (inr d) (inl e) = inr (t, omega arith, a, λ w. clash (w ∙ e) d)
      at a (inr d) (inr e) = inl (rw (← add-one t) (agree_more a (d ∙ sym e)))

  -- pairs that agree give lists that agree
  alike_below : (t i : ℕ) → Agree z y t → i * 32 + 32 ≤ t → nodes_of z i ≡ nodes_of y i
  unfolding nodes_of
  alike_below t i a l =
      list_cong 32 0 (λ n. eqb (z n) i) (λ n. eqb (y n) i)
      (λ n p q. sym (takes_at z n i (omega arith)) ∙ (a.same (i * 32 + n) (omega arith) ∙ takes_at y n i (omega arith)))

  -- within the shard of pair t, the lists agree below its node
  alike_in : (t : ℕ) → Agree z y t → (j : ℕ) → j < t % 32 → eqb (z j) (t / 32) ≡ eqb (y j) (t / 32)
  alike_in t a j q =
      sym (takes_at z j (t / 32) (omega arith)) ∙ (a.same (t / 32 * 32 + j) (omega arith) ∙ takes_at y j (t / 32) (omega arith))

  -- z takes pair t, y leaves it and goes on
  earlier_takes : (t : ℕ) → t < 512 → Agree z y t → takes z t ≡ true → takes y t ≡ false → (NoneFrom y t → ⊥) → Earlier z y
  unfolding nodes_of
  earlier_takes t l a d e h = go (any_below 32 (λ m. ltb (t % 32) m && eqb (y m) (t / 32))) refl
    where
      go : (b : Bool) → any_below 32 (λ m. ltb (t % 32) m && eqb (y m) (t / 32)) ≡ b → Earlier z y
      go true w =
          let (m, q, r) = any_witness 32 (λ m. ltb (t % 32) m && eqb (y m) (t / 32)) w in
          record {
            shard = t / 32;
            below = omega arith;
            alike = λ j s. alike_below t j a (omega arith);
            smaller = list-before 32 0 (t % 32) m (λ n. eqb (z n) (t / 32)) (λ n. eqb (y n) (t / 32)) (omega arith) (omega arith) (λ j x u. alike_in t a j u) d e
                (ltb-true (t % 32) m (and_left (ltb (t % 32) m) (eqb (y m) (t / 32)) r)) (omega arith) (and_right (ltb (t % 32) m) (eqb (y m) (t / 32)) r);
          }
      go false w = absurd (h (record { rest = ends }))
        where
          ends : (s : ℕ) → t ≤ s → s < shard_end t → takes y s ≡ false
          ends s p q =
              ⊎_elim (λ r. subst (λ (j : ℕ). takes y j ≡ false) r e)
              (λ r.
              let i : s / 32 ≡ t / 32 = omega arith in
              no_true (takes y s) (λ c.
              clash (and_both (lt-ltb (t % 32) (s % 32) (omega arith)) (subst (λ (j : ℕ). eqb (y (s % 32)) j ≡ true) i c))
              (any_fails 32 (λ m. ltb (t % 32) m && eqb (y m) (t / 32)) w (s % 32) (omega arith))))
              (eq_or_ne t s)

  -- z's list ends, and y takes pair t
  earlier_ends : (t : ℕ) → t < 512 → Agree z y t → takes y t ≡ true → NoneFrom z t → Earlier z y
  unfolding nodes_of
  earlier_ends t l a d h =
      record {
        shard = t / 32;
        below = omega arith;
        alike = λ j s. alike_below t j a (omega arith);
        smaller = list_prefix 32 0 (t % 32) (λ n. eqb (z n) (t / 32)) (λ n. eqb (y n) (t / 32)) (omega arith) (omega arith) (λ j x u. alike_in t a j u)
            (λ j x u. sym (takes_at z j (t / 32) (omega arith)) ∙ h.rest (t / 32 * 32 + j) (omega arith) (omega arith)) d;
      }

  -- what does not come before z in the search's order does not in dictionary order
  pub ahead_listed : NotBefore z y → SameLists z y ⊎ Earlier z y
  ahead_listed h = ⊎_elim (λ a. inl (record { alike = λ j l. alike_below 512 j a (omega arith) })) (λ p. inr (parted p.0 p.1 p.2 p.3)) (part 512)
    where
      parted : (t : ℕ) → t < 512 → Agree z y t → (takes z t ≡ takes y t → ⊥) → Earlier z y
      parted t l a ne =
          ⊎_elim
          (λ d. ⊎_elim (λ e. absurd (ne (d ∙ sym e))) (λ e. earlier_takes t l a d e (h.longer t l a d e)) (either (takes y t)))
          (λ d. ⊎_elim (λ e. earlier_ends t l a e (h.leads t l a d e)) (λ e. absurd (ne (d ∙ sym e))) (either (takes y t)))
          (either (takes z t))

-- the first placement with P in the search's order is first in dictionary order
pub first_listed : {P : (ℕ → ℕ) → Type 0} {z : ℕ → ℕ} → First P z → (y : ℕ → ℕ) → P y → SameLists z y ⊎ Earlier z y
first_listed {z = z} f y p = ahead_listed (f.first y p)
