-- The failure sets of a mask's nodes as a mask of their own.
use Prim.Native.Nat.{ℕ, zero, suc, ◌+◌, ◌^◌, ◌<◌, ◌≤◌}
use Rattle.std.proofs.Common.{add-one, sym, ap, ◌∙◌}
use native.Mathlib.Omega.{arith}
use Rattle.std.specs.Prelude.{Bool, true, false, cond, ◌&&◌, ◌||◌, List, ◌≡◌, refl, eqb}
use Rattle.std.proofs.Math.Bool.{or-false}
use Rattle.base_laws.specs.Bools.{cond_of, and_left}
use Rattle.base_laws.specs.Definitions.{any_below, has, count, with}
use Rattle.base_laws.specs.Below.{count_cong, count_some, any_witness}
use Rattle.base_laws.specs.Masks.{has_with, has_zero, with_lt, count-below}
use Rattle.settings_values.specs.Definitions.{nodes, set_of, Settings}
use Rattle.place_groups.specs.Definitions.{meets_set, sets_in}

-- the sets of those of the first n nodes that are in the mask
unfoldable pub sets_below : List ℕ → ℕ → ℕ → ℕ
sets_below σ mask zero = 0
sets_below σ mask (suc n) = cond (has mask n) (with (sets_below σ mask n) (set_of σ n)) (sets_below σ mask n)

-- the sets of the nodes in the mask
unfoldable pub sets_of : List ℕ → ℕ → ℕ
sets_of σ mask = sets_below σ mask (nodes σ)

-- the sets with that of node n, if n is in the mask
unfoldable pub seen_with : List ℕ → ℕ → ℕ → ℕ → ℕ
seen_with σ mask seen n = cond (has mask n) (with seen (set_of σ n)) seen

-- ---- laws

pub sets_none : (σ : List ℕ) (mask : ℕ) → 0 ≡ sets_below σ mask 0
unfolding sets_below
sets_none σ mask = refl

pub sets_more : (σ : List ℕ) (mask n : ℕ) → seen_with σ mask (sets_below σ mask n) n ≡ sets_below σ mask (n + 1)
unfolding sets_below seen_with
sets_more σ mask n = rw (add-one n)

pub sets_all : (σ : List ℕ) (mask n : ℕ) → n ≡ nodes σ → sets_below σ mask n ≡ sets_of σ mask
unfolding sets_of
sets_all σ mask n e = ap (sets_below σ mask) e

-- what the mask of sets says
has_sets : (σ : List ℕ) (mask n f : ℕ) → has (sets_below σ mask n) f ≡ any_below n (λ m. has mask m && eqb (set_of σ m) f)
unfolding sets_below any_below
has_sets σ mask zero f = has_zero f
has_sets σ mask (suc n) f = by (has mask n) refl (has_sets σ mask n f)
  where
    by : (b : Bool) → has mask n ≡ b → has (sets_below σ mask n) f ≡ any_below n (λ m. has mask m && eqb (set_of σ m) f)
        → has (cond (has mask n) (with (sets_below σ mask n) (set_of σ n)) (sets_below σ mask n)) f
        ≡ (any_below n (λ m. has mask m && eqb (set_of σ m) f) || has mask n && eqb (set_of σ n) f)
    by true e h = rw e (has_with (sets_below σ mask n) (set_of σ n) f ∙ ap (λ (b : Bool). b || eqb (set_of σ n) f) h)
    by false e h = rw e (h ∙ sym (or-false (any_below n (λ m. has mask m && eqb (set_of σ m) f))))

pub has_sets_of : (σ : List ℕ) (mask f : ℕ) → has (sets_of σ mask) f ≡ meets_set σ mask f
unfolding sets_of meets_set
has_sets_of σ mask f = has_sets σ mask (nodes σ) f

module _ (σ : List ℕ) (mask : ℕ) (right : Settings σ) where
  -- sets are below 16
  below : (n : ℕ) → n ≤ nodes σ → sets_below σ mask n < 2 ^ 16
  unfolding sets_below
  below zero l = omega arith
  below (suc n) l =
      cond_of (λ (m : ℕ). m < 2 ^ 16) (has mask n)
      (λ e. with_lt 16 (sets_below σ mask n) (set_of σ n) (below n (omega arith)) (omega (arith, right.set_below n (omega arith), right.sizes.sets_to)))
      (λ e. below n (omega arith))

  -- as many bits as the mask's nodes have sets
  pub sets_counted : count (sets_of σ mask) ≡ sets_in σ mask
  unfolding sets_in sets_of
  sets_counted =
      count-below 16 (sets_below σ mask (nodes σ)) (below (nodes σ) (omega arith))
      ∙ count_cong 16 (has (sets_below σ mask (nodes σ))) (meets_set σ mask) (λ f l. has_sets_of σ mask f)

-- a mask whose nodes are of some set has a node
pub sets_node : (σ : List ℕ) (mask : ℕ) → 0 < sets_in σ mask → (n : ℕ) × (n < nodes σ) × (has mask n ≡ true)
unfolding sets_in meets_set
sets_node σ mask h =
    let s = count_some 16 (meets_set σ mask) h in
    let w = any_witness (nodes σ) (λ n. has mask n && eqb (set_of σ n) s.0) s.2 in
    (w.0, w.1, and_left (has mask w.0) (eqb (set_of σ w.0) s.0) w.2)
