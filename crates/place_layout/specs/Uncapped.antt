-- Caps change no wait and no total: with every cap at its shard's need the placement is found or not as with the caps as they are, names
-- the same subgroup, and has the same total. Where every cap is its shard's need it is the same placement.
use Rattle.std.specs.Prelude.{◌≡◌, true, false, List, ℕ, ◌^◌, ◌<◌}
use Rattle.std.proofs.Common.{sym, ◌∙◌, ⊎_elim, arith}
use Rattle.base_laws.specs.Bools.{either}
use Rattle.base_sum_laws.specs.Sums.{sum_cong}
use Rattle.settings_values.specs.Definitions.{nodes, Settings}
use Rattle.place_groups.specs.Definitions.{group_moves}
use Rattle.place_groups.specs.Chosen.{lowest_one}
use Rattle.place_laws.specs.Definitions.{masks_of}
use Rattle.place_laws.specs.Exactly.{CapsAtNeeds}
use Rattle.place_laws.specs.Uncapped.{uncapped}
use Rattle.place_laws.proofs.Uncapped.{uncapped_shards, uncapped_moves, impossible_low, impossible_wide, lowest_low, lowest_wide, least_alike, chosen_wide}
use Rattle.place_layout.specs.declared.Placed.{Placed}
use Rattle.place_layout.specs.Post.{Laid, Unplaced, Placement}
use Rattle.place_layout.specs.Unique.{placement_unique}

-- p and q say the same but for the masks
pub record SameOutcome (p q : Placed) : Type 0 where
  pub found : p.found ≡ q.found
  pub group : p.group ≡ q.group
  pub total : p.total ≡ q.total

module _ (σ : List ℕ) (held : ℕ) (old : ℕ → ℕ) (right : Settings σ) (inside : held < 2 ^ nodes σ) (p q : Placed) where
  pub caps_change_nothing : Placement σ held old p → Placement (uncapped σ) held old q → SameOutcome p q
  caps_change_nothing v w =
      ⊎_elim
      (λ e. ⊎_elim (λ d. placed e d) (λ d. absurd (found_one (v.laid e) (w.unplaced d))) (either q.found))
      (λ e. ⊎_elim (λ d. absurd (found_other (v.unplaced e) (w.laid d))) (λ d. none e d) (either q.found))
      (either p.found)
    where
      found_one : Laid σ held old 4 p → Unplaced (uncapped σ) held q → ⊥
      found_one a b = (impossible_wide σ right inside b.lowest.none).none (masks_of p.masks) (a.chosen q.group b.lowest.below).least.valid

      found_other : Unplaced σ held p → Laid (uncapped σ) held old 4 q → ⊥
      found_other a b = (impossible_low σ right inside a.lowest.none).none (masks_of q.masks) (b.chosen p.group a.lowest.below).least.valid

      placed : p.found ≡ true → q.found ≡ true → SameOutcome p q
      placed e d =
          let a = v.laid e in
          let b = w.laid d in
          record {
            found = e ∙ sym d;
            group = a.group ∙ sym b.group;
            total =
                a.total
                ∙ (sum_cong 4 (group_moves σ old (masks_of p.masks)) (group_moves (uncapped σ) old (masks_of q.masks))
                (λ g l. least_alike σ right inside (a.chosen g l).least (b.chosen g l).least ∙ sym (uncapped_moves σ old (masks_of q.masks) g))
                ∙ sym b.total);
          }

      none : p.found ≡ false → q.found ≡ false → SameOutcome p q
      none e d =
          let a = v.unplaced e in
          let b = w.unplaced d in
          record {
            found = e ∙ sym d;
            group = lowest_one (uncapped σ) held p.group q.group (lowest_low σ right inside a.lowest) b.lowest;
            total = a.total ∙ sym b.total;
          }

  -- where every cap is its shard's need, the masks are the same too
  pub caps_at_needs : ((g : ℕ) → g < 4 → CapsAtNeeds σ g) → Placement σ held old p → Placement (uncapped σ) held old q → p ≡ q
  caps_at_needs caps v w = placement_unique right inside v (record { laid = λ e. laid (w.laid e); unplaced = λ e. unplaced (w.unplaced e) })
    where
      laid : Laid (uncapped σ) held old 4 q → Laid σ held old 4 q
      laid a =
          record {
            chosen = λ g l. chosen_wide σ right held g (caps g l) (a.chosen g l);
            total =
                a.total ∙ sum_cong 4 (group_moves (uncapped σ) old (masks_of q.masks)) (group_moves σ old (masks_of q.masks)) (λ g l. uncapped_moves σ old (masks_of q.masks) g);
            rest = λ s l. a.rest s (omega (arith, uncapped_shards σ));
            sized = a.sized;
            group = a.group;
          }

      unplaced : Unplaced (uncapped σ) held q → Unplaced σ held q
      unplaced a = record { lowest = lowest_wide σ right inside a.lowest; masks = a.masks; total = a.total }
