-- The search's first placement within a weight, as masks: where a case costs 1 a move, 0 a stay and nothing for a node placed nowhere, it is
-- the first of the valid placements with at most so many moves.
use Rattle.std.specs.Prelude.{◌≡◌, refl, Bool, true, false, cond, List, ℕ, ◌^◌, ◌<◌, eqb}
use Rattle.std.proofs.Common.{◌∙◌, ⊎_elim, arith, ltb-true}
use Rattle.base_laws.specs.Bools.{lt_or_le}
use Rattle.base_sum_laws.specs.Definitions.{mask_below}
use Rattle.base_sum_laws.specs.Picked.{mask_lt, mask-at}
use Rattle.base_sum_laws.specs.Sums.{sum_cong}
use Rattle.base_sum_laws.proofs.Sums.{sum_none}
use Rattle.settings_values.specs.Definitions.{nodes, Settings}
use Rattle.place_groups.specs.Definitions.{group_valid, group_moves}
use Rattle.search_laws.specs.Case.{Case, Valid, WeighsWithin, has_owner, moves, weight}
use Rattle.search_laws.specs.Order.{First, HasNone}
use Rattle.search_rounds.specs.Post.{Fewer, Low}
use Rattle.place_laws.specs.Cases.{price_in, CaseFor}
use Rattle.place_laws.specs.Owners.{Masked, owner}
use Rattle.place_laws.proofs.Owners.{masks_valid, moves_same, from_masks, from_moves}
use Rattle.place_laws.proofs.Choice.{first_by_masks}
use Rattle.place_laws.specs.Floor.{group_floor}
use Rattle.place_laws.proofs.Floor.{floor_least}
use Rattle.place_rounds.specs.Definitions.{FirstValid, FirstFewer, NoneFewer}

-- a move costs 1, a stay 0, and a node placed nowhere nothing
pub record CountsMoves (K : Case) (price : ℕ → ℕ → ℕ) : Type 0 where
  pub idle : K.idle ≡ 0
  pub cost : (i n : ℕ) → i < 16 → n < 32 → K.cost i n < 255 → K.cost i n ≡ price i n

pub counted_weight : {K : Case} {price : ℕ → ℕ → ℕ} → CountsMoves K price → (z : ℕ → ℕ) → Valid K z → weight K z ≡ moves price z
unfolding weight moves
counted_weight {K} {price} c z v =
    sum_cong 32 (λ n. cond (has_owner z n) (K.cost (z n) n) K.idle) (λ n. cond (has_owner z n) (price (z n) n) 0) (λ n l. at n l (has_owner z n) refl)
  where
    at : (n : ℕ) → n < 32 → (b : Bool) → has_owner z n ≡ b → cond (has_owner z n) (K.cost (z n) n) K.idle ≡ cond (has_owner z n) (price (z n) n) 0
    at n l true e = simp e (c.cost (z n) n (ltb-true (z n) 16 e) l (v.allowed n l (ltb-true (z n) 16 e)))
    at n l false e = simp e c.idle

-- where nothing costs anything a placement weighs nothing
pub free_weight : {K : Case} → CountsMoves K (λ i n. 0) → (z : ℕ → ℕ) → Valid K z → weight K z ≡ 0
unfolding moves
free_weight free z v = counted_weight free z v ∙ sum_none 32 (λ n. cond (has_owner z n) 0 0) (λ n l. zero_both (has_owner z n))
  where
    zero_both : (b : Bool) → ◌≡◌ {A = ℕ} (cond b 0 0) 0
    zero_both true = refl
    zero_both false = refl

-- the masks of owners
abbrev pub owned_masks : (ℕ → ℕ) → ℕ → ℕ
owned_masks z s = mask_below 32 (λ n. eqb (z n) s)

pub owned_masked : (σ : List ℕ) (g : ℕ) (z : ℕ → ℕ) → Masked σ g z (owned_masks z)
owned_masked σ g z =
    record {
      bits = λ s o n l. mask-at 32 (λ i. eqb (z i) s) n l;
      small = λ s o. mask_lt 32 32 (λ i. eqb (z i) s) (omega arith);
    }

module _ {σ : List ℕ} {held g : ℕ} {K : Case} (stands : CaseFor σ held g K) (right : Settings σ) (inside : held < 2 ^ nodes σ) where
  -- where no pair costs anything: the first of all
  pub first_free : CountsMoves K (λ i n. 0) → {k : ℕ} {z masks : ℕ → ℕ} → Masked σ g z masks → First (WeighsWithin K k) z → FirstValid σ held masks g
  first_free free {k} m f =
      record {
        valid = masks_valid right inside stands m f.is.valid;
        first = λ other v.
            let w = from_masks right inside stands other v in
            first_by_masks stands right inside m f.is.valid f other v (record { valid = w; cheap = omega (arith, free_weight free (owner σ g other) w) });
      }

  module _ (old : ℕ → ℕ) (counted : CountsMoves K (price_in old)) where
    -- the weight of owners is the moves of their masks
    pub weight_moves : {z masks : ℕ → ℕ} → Masked σ g z masks → Valid K z → weight K z ≡ group_moves σ old masks g
    weight_moves {z} m v = counted_weight counted z v ∙ moves_same right inside stands m v old

    pub weight_from : (other : ℕ → ℕ) → group_valid σ held other g ≡ true → weight K (owner σ g other) ≡ group_moves σ old other g
    weight_from other v = counted_weight counted (owner σ g other) (from_masks right inside stands other v) ∙ from_moves right inside stands old other v

    -- the first of less weight than y, as masks, is the first of those with fewer moves
    pub first_lighter : {y z a b : ℕ → ℕ} → Masked σ g y a → Valid K y → Masked σ g z b → First (Fewer K y) z → FirstFewer σ held old a b g
    first_lighter {y} {z} {a} {b} k v m f =
        record {
          valid = masks_valid right inside stands m f.is.valid;
          fewer = omega (arith, f.is.less, weight_moves k v, weight_moves m f.is.valid);
          first = λ other w l.
              first_by_masks stands right inside m f.is.valid f other w
              (record { valid = from_masks right inside stands other w; less = omega (arith, weight_moves k v, weight_from other w) });
        }

    -- where none weighs less
    pub none_lighter : {z masks : ℕ → ℕ} → Masked σ g z masks → Valid K z → HasNone (Fewer K z) → NoneFewer σ held old masks g
    none_lighter {z} {masks} m v n =
        record {
          none = λ other w.
              ⊎_elim
              (λ l. absurd (n.none (owner σ g other) (record { valid = from_masks right inside stands other w; less = omega (arith, weight_moves m v, weight_from other w) })))
              (λ l. l) (lt_or_le (group_moves σ old other g) (group_moves σ old masks g));
        }

    -- no valid placement weighs less than the floor
    pub floor_weight : Low K (group_floor σ held old g)
    floor_weight =
        record {
          low = λ y v.
              omega (
                arith,
                weight_moves (owned_masked σ g y) v,
                floor_least σ held old g right inside (owned_masks y) (masks_valid right inside stands (owned_masked σ g y) v),
              );
        }
