-- The choice by masks: it is the search's first placement of least weight, it speaks of its subgroup's masks alone, and there is at
-- most one.
use Rattle.std.specs.Prelude.{◌≡◌, true, ℕ, ◌^◌, ◌<◌}
use Rattle.std.proofs.Math.Path.{sym}
use Rattle.std.proofs.Common.{◌∙◌, subst, inl, inr, arith}
use Rattle.std.proofs.Math.Bool.{false}
use mathlib.Core.List.{List}
use Rattle.std.proofs.Math.Logic.{⊎_elim}
use Rattle.std.proofs.Math.Dec.{eqb}
use Rattle.base_laws.specs.Bools.{either, no_true}
use Rattle.base_laws.specs.Below.{count_pos}
use Rattle.base_sum_laws.specs.Definitions.{list_before}
use Rattle.base_sum_laws.specs.Lists.{list_cong, before_self}
use Rattle.settings_values.specs.Definitions.{nodes, Settings}
use Rattle.place_groups.specs.Definitions.{group_valid, group_stays, LeastMoves, nodes_in, Sooner, NotLater, Chosen, of_group}
use Rattle.place_groups.specs.Chosen.{nodes_listed}
use Rattle.search_laws.specs.Case.{Case, Valid, LeastWeight, moves}
use Rattle.search_laws.specs.Ranks.{BestPlaced, Priced, spare}
use Rattle.search_laws.proofs.Ranks.{first_best}
use Rattle.search_laws.specs.Order.{First}
use Rattle.search_laws.specs.Dictionary.{nodes_of, Earlier}
use Rattle.search_laws.proofs.Dictionary.{first_listed}
use Rattle.place_laws.specs.Cases.{price_in, CaseFor, shard_below, cap_none, set_small}
use Rattle.place_laws.specs.Owners.{Masked, owner}
use Rattle.place_laws.proofs.Owners.{owner_masked, masks_valid, moves_same, stays_same, from_masks, from_moves, from_stays, least_moves}

-- ---- from owners to masks

-- the list of a shard's mask is that of the nodes that it owns
masked_listed : {σ : List ℕ} {g : ℕ} {z masks : ℕ → ℕ} → Masked σ g z masks → (s : ℕ) → of_group σ g s ≡ true → nodes_in (masks s) ≡ nodes_of z s
unfolding nodes_of
masked_listed {z = z} {masks = masks} k s o = nodes_listed (masks s) (λ n. eqb (z n) s) (k.bits s o)

module _ {σ : List ℕ} {held g : ℕ} {K : Case} (stands : CaseFor σ held g K) where
  -- a shard that is not of the subgroup owns nothing
  none_owned : {z : ℕ → ℕ} → Valid K z → (s : ℕ) → s < 16 → of_group σ g s ≡ false → (n : ℕ) → n < 32 → eqb (z n) s ≡ false
  none_owned {z} v s l o n k =
      no_true (eqb (z n) s) (λ e. omega (arith, count_pos 32 (λ m. eqb (z m) s) n k e, v.most s l, stands.caps s l, cap_none σ g s o))

  -- so the lists of two placements part at a shard of the subgroup
  parts_within : {z y : ℕ → ℕ} → Valid K z → Valid K y → (e : Earlier z y) → of_group σ g e.shard ≡ true
  unfolding nodes_of
  parts_within {z} {y} v w e = ⊎_elim (λ o. o) (λ o. absurd (alike o)) (either (of_group σ g e.shard))
    where
      alike : of_group σ g e.shard ≡ false → ⊥
      alike o =
          before_self (nodes_of y e.shard)
          (subst (λ (l : List ℕ). list_before l (nodes_of y e.shard) ≡ true)
          (list_cong 32 0 (λ n. eqb (z n) e.shard) (λ n. eqb (y n) e.shard)
          (λ n p q. none_owned v e.shard e.below o n (omega arith) ∙ sym (none_owned w e.shard e.below o n (omega arith))))
          e.smaller)

  module _ (right : Settings σ) (inside : held < 2 ^ nodes σ) where
    -- the first of the placements with P, as masks, is not later than the masks of any that has P
    pub first_by_masks : {P : (ℕ → ℕ) → Type 0} {z masks : ℕ → ℕ} → Masked σ g z masks → Valid K z → First P z → (other : ℕ → ℕ)
        → group_valid σ held other g ≡ true → P (owner σ g other) → NotLater (of_group σ g) masks other
    first_by_masks {P} {z} {masks} k v f other w has =
        ⊎_elim
        (λ d. inl (record { alike = λ s o. masked_listed k s o ∙ (d.alike s (shard_below σ g right s o) ∙ sym (masked_listed theirs s o)) }))
        (λ d. inr (sooner d))
        (first_listed f (owner σ g other) has)
      where
        theirs : Masked σ g (owner σ g other) other
        theirs = owner_masked σ held g other right inside w

        sooner : Earlier z (owner σ g other) → Sooner (of_group σ g) masks other
        sooner d =
            let o : of_group σ g d.shard ≡ true = parts_within v (from_masks right inside stands other w) d in
            record {
              shard = d.shard;
              picked = o;
              alike = λ s h i. masked_listed k s i ∙ (d.alike s h ∙ sym (masked_listed theirs s i));
              smaller =
                  subst (λ (a : List ℕ). list_before a (nodes_in (other d.shard)) ≡ true) (sym (masked_listed k d.shard o))
                  (subst (λ (a : List ℕ). list_before (nodes_of z d.shard) a ≡ true) (sym (masked_listed theirs d.shard o)) d.smaller);
            }

  module _ (right : Settings σ) (inside : held < 2 ^ nodes σ) {old : ℕ → ℕ} where
    -- the best owners, from masks
    pub best_owners : {z by : ℕ → ℕ} → Masked σ g z by → BestPlaced K (price_in old) z → {masks : ℕ → ℕ} → LeastMoves σ held old masks g
        → group_stays σ old masks g ≡ group_stays σ old by g → BestPlaced K (price_in old) (owner σ g masks)
    best_owners {z} {by} k b {masks} l e =
        let moved = from_moves right inside stands old masks l.valid in
        let fewer = l.least by (masks_valid right inside stands k b.valid) in
        let is = moves_same right inside stands k b.valid old in
        record {
          valid = from_masks right inside stands masks l.valid;
          fewest = λ y v. omega (arith, b.fewest y v);
          most = λ y v d.
              let same : moves (price_in old) y ≡ moves (price_in old) z = omega (arith, b.fewest y v) in
              omega (arith, b.most y v same, stays_same right inside stands k b.valid old, from_stays right inside stands old masks l.valid);
        }

    -- the search's first placement of least weight, as masks, is the choice
    pub first_chosen : {w : ℕ} → spare K < w → Priced K w (price_in old) → {z masks : ℕ → ℕ} → Masked σ g z masks → First (LeastWeight K) z → Chosen σ held old masks g
    first_chosen {w} wide priced {z} {masks} k f =
        record {
          least = least;
          most = λ other l.
              let moved = from_moves right inside stands old other l.valid in
              let is = moves_same right inside stands k best.is.valid old in
              let same : moves (price_in old) (owner σ g other) ≡ moves (price_in old) z = omega (arith, l.least masks least.valid, least.least other l.valid) in
              omega (
                arith,
                best.is.most (owner σ g other) (from_masks right inside stands other l.valid) same,
                stays_same right inside stands k best.is.valid old,
                from_stays right inside stands old other l.valid,
              );
          first = λ other l e. listed other l e;
        }
      where
        best : First (BestPlaced K (price_in old)) z
        best = first_best K (λ n l. subst (λ (i : ℕ). i < 16) (sym (stands.sets n l)) (set_small σ n right)) wide priced f

        least : LeastMoves σ held old masks g
        least = least_moves right inside stands k best.is

        listed : (other : ℕ → ℕ) → LeastMoves σ held old other g → group_stays σ old other g ≡ group_stays σ old masks g → NotLater (of_group σ g) masks other
        listed other l e = first_by_masks right inside k best.is.valid best other l.valid (best_owners k best.is l e)
