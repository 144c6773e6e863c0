-- The masks of one subgroup, made from its owners, beside those of the others.
use Rattle.std.specs.Prelude.{◌≡◌, Bool, true, false, cond, List, ℕ, ◌+◌, ◌^◌, ◌≤◌, ◌<◌, get_or}
use Rattle.std.proofs.Common.{sym, ◌∙◌, arith}
use Rattle.std.proofs.Math.Path.{ap, subst}
use Rattle.std.proofs.Math.Logic.{⊎_elim}
use Rattle.std.proofs.Math.Dec.{eqb}
use Rattle.base_laws.specs.Bools.{lt_or_le}
use Rattle.base_laws.specs.Definitions.{has}
use Rattle.base_laws.specs.Tables.{get_d_tabulate, get_or_tabulate_past}
use Rattle.base_sum_laws.specs.Definitions.{sum_below}
use Rattle.base_sum_laws.specs.Sums.{sum_cong}
use Rattle.base_sum_laws.proofs.Sums.{sum_next}
use Rattle.base_sum_laws.specs.Picked.{mask_lt, mask-at}
use Rattle.settings_values.specs.Definitions.{shards, Settings}
use Rattle.search_laws.specs.Tables.{owners_of}
use Rattle.place_groups.specs.Definitions.{group_moves, of_group}
use Rattle.place_laws.specs.Cases.{group_past, group_other, shard_below}
use Rattle.place_laws.specs.Owners.{Masked}
use Rattle.place_laws.specs.Local.{AlikeInGroup, moves_local}
use Rattle.place_laws.specs.Definitions.{masks_of}
use Rattle.place_laws.specs.Adding.{owned_by, mask_with, masks_with}

module _ (σ : List ℕ) (g : ℕ) (o masks : List ℕ) where
  with_at : (s : ℕ) → s < 16 → masks_of (masks_with σ g o masks) s ≡ cond (of_group σ g s) (owned_by o s) (masks_of masks s)
  unfolding masks_with mask_with
  with_at s l = get_d_tabulate 16 (λ i. mask_with σ g o (get_or masks i 0) i) s 0 l

  with_ours : (s : ℕ) → s < 16 → of_group σ g s ≡ true → masks_of (masks_with σ g o masks) s ≡ owned_by o s
  with_ours s l p = with_at s l ∙ ap (λ (b : Bool). cond b (owned_by o s) (masks_of masks s)) p

  with_other : (s : ℕ) → s < 16 → of_group σ g s ≡ false → masks_of (masks_with σ g o masks) s ≡ masks_of masks s
  with_other s l p = with_at s l ∙ ap (λ (b : Bool). cond b (owned_by o s) (masks_of masks s)) p

  -- from S up nothing stands
  pub with_rest : ((s : ℕ) → shards σ ≤ s → masks_of masks s ≡ 0) → (s : ℕ) → shards σ ≤ s → masks_of (masks_with σ g o masks) s ≡ 0
  unfolding masks_with
  with_rest h s l =
      ⊎_elim (λ k. with_other s k (group_past σ g s l) ∙ h s l)
      (λ k. get_or_tabulate_past 16 (λ i. mask_with σ g o (get_or masks i 0) i) s 0 k) (lt_or_le s 16)

  module _ (right : Settings σ) where
    pub with_masked : Masked σ g (owners_of o) (masks_of (masks_with σ g o masks))
    unfolding owned_by
    with_masked =
        record {
          bits = λ s p n l. ap (λ (m : ℕ). has m n) (with_ours s (shard_below σ g right s p) p) ∙ mask-at 32 (λ i. eqb (owners_of o i) s) n l;
          small = λ s p. subst (λ (m : ℕ). m < 2 ^ 32) (sym (with_ours s (shard_below σ g right s p) p)) (mask_lt 32 32 (λ i. eqb (owners_of o i) s) (omega arith));
        }

    pub with_alike : (h : ℕ) → (h ≡ g → ⊥) → AlikeInGroup σ h (masks_of masks) (masks_of (masks_with σ g o masks))
    with_alike h d = record { at = λ s p. sym (with_other s (shard_below σ h right s p) (group_other σ g h s d p)) }

    -- one subgroup more in the total
    pub with_total : (old : ℕ → ℕ) (total m : ℕ) → total ≡ sum_below g (group_moves σ old (masks_of masks))
        → m ≡ group_moves σ old (masks_of (masks_with σ g o masks)) g → total + m ≡ sum_below (g + 1) (group_moves σ old (masks_of (masks_with σ g o masks)))
    with_total old total m e d =
        omega (
          arith,
          sum_next g (group_moves σ old (masks_of (masks_with σ g o masks))),
          sum_cong g (group_moves σ old (masks_of masks)) (group_moves σ old (masks_of (masks_with σ g o masks)))
              (λ h l. moves_local (with_alike h (λ q. omega arith)) old),
        )
