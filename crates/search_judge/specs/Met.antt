-- The failure sets of which a shard has nodes, as a mask.
use Rattle.std.specs.Prelude.{◌≡◌, refl, Bool, true, false, ◌&&◌, ◌||◌, List, [], ℕ, ◌+◌, ◌≤◌, ◌<◌, eqb, get_or}
use Rattle.std.proofs.Common.{sym, ap, ◌∙◌, subst, le_antisymm, arith, eq-eqb, ne_eqb}
use Rattle.std.proofs.Math.Bool.{or-false}
use Rattle.base_laws.specs.Definitions.{any_below, has, with, count}
use Rattle.base_laws.specs.Below.{any_none, any_step, count_cong}
use Rattle.base_laws.specs.Masks.{has_zero, has_with, with_lt, count-below}
use Rattle.search_laws.specs.Case.{meets, spread}
use Rattle.search_laws.specs.Tables.{case_of, owners_of}

-- r is m with set f added, where the owner o is shard i
pub record Joined (m o i f r : ℕ) : Type 0 where
  pub small : r < 65536
  pub bits : (g : ℕ) → g < 16 → has r g ≡ (has m g || (eqb o i && eqb f g))

-- bit f of m: a node below n is shard i's and of set f
pub record Met (owner sets : List ℕ) (i n m : ℕ) : Type 0 where
  pub small : m < 65536
  pub bits : (f : ℕ) → f < 16 → has m f ≡ any_below n (λ k. eqb (get_or owner k 0) i && eqb (get_or sets k 0) f)

and_no : (a : Bool) → (a && false) ≡ false
and_no true = refl
and_no false = refl

pub joined_with : (m o i f : ℕ) → m < 65536 → o ≡ i → f < 16 → Joined m o i f (with m f)
joined_with m o i f s e l = record {
  small = with_lt 16 m f s l;
  bits = λ g h. has_with m f g ∙ ap (λ (b : Bool). has m g || (b && eqb f g)) (sym (eq-eqb o i e));
}

pub joined_other : (m o i f : ℕ) → m < 65536 → (o ≡ i → ⊥) → Joined m o i f m
joined_other m o i f s e = record {
  small = s;
  bits = λ g h. sym (ap (λ (b : Bool). has m g || (b && eqb f g)) (ne_eqb o i e) ∙ or-false (has m g));
}

pub joined_past : (m o i f : ℕ) → m < 65536 → 16 ≤ f → Joined m o i f m
joined_past m o i f s l = record {
  small = s;
  bits = λ g h. sym (ap (λ (b : Bool). has m g || (eqb o i && b)) (ne_eqb f g (λ e. omega arith)) ∙ ap (λ (b : Bool). has m g || b) (and_no (eqb o i)) ∙ or-false (has m g));
}

module _ (owner sets : List ℕ) (i : ℕ) where
  pub met_none : Met owner sets i 0 0
  met_none = record { small = omega arith; bits = λ f h. has_zero f ∙ sym (any_none _) }

  pub met_next : (n m r : ℕ) → Met owner sets i n m → Joined m (get_or owner n 0) i (get_or sets n 0) r → Met owner sets i (n + 1) r
  met_next n m r s j = record {
    small = j.small;
    bits = λ f h.
        j.bits f h ∙ ap (λ (b : Bool). b || (eqb (get_or owner n 0) i && eqb (get_or sets n 0) f)) (s.bits f h)
        ∙ sym (any_step n (λ k. eqb (get_or owner k 0) i && eqb (get_or sets k 0) f));
  }

  pub met_turn : (n m o f r : ℕ) → Met owner sets i n m → o ≡ get_or owner n 0 → f ≡ get_or sets n 0 → Joined m o i f r → Met owner sets i (n + 1) r
  met_turn n m o f r s d e j =
      met_next n m r s (subst (λ (x : ℕ). Joined m x i (get_or sets n 0) r) d (subst (λ (y : ℕ). Joined m o i y r) e j))

  pub met_done : (n m : ℕ) → n ≤ 32 → 32 ≤ n → Met owner sets i n m → Met owner sets i 32 m
  met_done n m l g s = subst (λ (k : ℕ). Met owner sets i k m) (le_antisymm l g) s

  pub met_count : (m : ℕ) → Met owner sets i 32 m → count m ≡ spread (case_of sets [] [] [] 0) (owners_of owner) i
  unfolding spread meets
  met_count m s = count-below 16 m s.small ∙ count_cong 16 (has m) _ (λ f h. s.bits f h)
