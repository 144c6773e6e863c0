-- Owners and masks of a subgroup say the same: a valid one gives a valid other with as many moves and stays. So the best placement of
-- the case is of least moves in document 01's own terms, and where the case has none there is none.
use Rattle.std.proofs.Math.Path.{◌≡◌, sym}
use Rattle.std.proofs.Common.{ap, ◌∙◌}
use Rattle.std.specs.Prelude.{◌&&◌, List, ℕ, ◌^◌, ◌≤◌, ◌<◌}
use Rattle.std.proofs.Math.Bool.{true}
use native.Mathlib.Omega.{arith}
use Rattle.std.proofs.Math.Dec.{eqb}
use Rattle.base_laws.specs.Bools.{same, and_both, and_left, and_right}
use Rattle.base_laws.specs.Definitions.{any_below, lowest, has, count}
use Rattle.base_laws.specs.Below.{any_at, any_witness, count_cong}
use Rattle.base_laws.specs.Masks.{count-below}
use Rattle.settings_values.specs.Definitions.{nodes, set_of}
use Rattle.place_groups.specs.Definitions.{meets_set, sets_in, of_group}
use Rattle.search_laws.specs.Case.{Case, size, meets, spread}
use Rattle.place_laws.specs.Cases.{CaseFor, set-in}

-- the masks and the owners z say the same of subgroup g's shards
pub record Masked (σ : List ℕ) (g : ℕ) (z masks : ℕ → ℕ) : Type 0 where
  pub bits : (s : ℕ) → of_group σ g s ≡ true → (n : ℕ) → n < 32 → has (masks s) n ≡ eqb (z n) s
  pub small : (s : ℕ) → of_group σ g s ≡ true → masks s < 2 ^ 32

module _ {σ : List ℕ} {g : ℕ} {z masks : ℕ → ℕ} (k : Masked σ g z masks) where
  pub count_size : (s : ℕ) → of_group σ g s ≡ true → count (masks s) ≡ size z s
  count_size s o = count-below 32 (masks s) (k.small s o) ∙ count_cong 32 (has (masks s)) (λ n. eqb (z n) s) (k.bits s o)

  -- a shard has nodes of as many sets by its mask as by its owners
  pub sets_spread : {held : ℕ} {K : Case} → CaseFor σ held g K → nodes σ ≤ 32 → (s : ℕ) → of_group σ g s ≡ true
      → ((n : ℕ) → n < 32 → has (masks s) n ≡ true → n < nodes σ) → sets_in σ (masks s) ≡ spread K z s
  unfolding sets_in meets_set spread meets
  sets_spread {held} {K} stands to s o below =
      count_cong 16 (meets_set σ (masks s)) (meets K z s)
      (λ f q. same (meets_set σ (masks s) f) (meets K z s f) (λ h. there f (any_witness (nodes σ) (λ n. has (masks s) n && eqb (set_of σ n) f) h))
      (λ h. back f (any_witness 32 (λ n. eqb (z n) s && eqb (K.set_of n) f) h)))
    where
      set_at : (n : ℕ) → n < 32 → n < nodes σ → K.set_of n ≡ set_of σ n
      set_at n l q = stands.sets n l ∙ set-in σ n q

      there : (f : ℕ) → (n : ℕ) × (n < nodes σ) × ((has (masks s) n && eqb (set_of σ n) f) ≡ true) → any_below 32 (λ n. eqb (z n) s && eqb (K.set_of n) f) ≡ true
      there f (n, l, h) =
          let q : n < 32 = omega arith in
          any_at 32 (λ m. eqb (z m) s && eqb (K.set_of m) f) n q
          (and_both (sym (k.bits s o n q) ∙ and_left (has (masks s) n) (eqb (set_of σ n) f) h)
          (ap (λ (i : ℕ). eqb i f) (set_at n q l) ∙ and_right (has (masks s) n) (eqb (set_of σ n) f) h))

      back : (f : ℕ) → (n : ℕ) × (n < 32) × ((eqb (z n) s && eqb (K.set_of n) f) ≡ true) → any_below (nodes σ) (λ n. has (masks s) n && eqb (set_of σ n) f) ≡ true
      back f (n, q, h) =
          let p : has (masks s) n ≡ true = k.bits s o n q ∙ and_left (eqb (z n) s) (eqb (K.set_of n) f) h in
          any_at (nodes σ) (λ m. has (masks s) m && eqb (set_of σ m) f) n (below n q p)
          (and_both p (ap (λ (i : ℕ). eqb i f) (sym (set_at n q (below n q p))) ∙ and_right (eqb (z n) s) (eqb (K.set_of n) f) h))

-- ---- from masks to owners

-- the owner of node n: the lowest shard of subgroup g whose mask has it, or 16
unfoldable pub owner : List ℕ → ℕ → (ℕ → ℕ) → ℕ → ℕ
owner σ g masks n = lowest 16 (λ s. of_group σ g s && has (masks s) n)
