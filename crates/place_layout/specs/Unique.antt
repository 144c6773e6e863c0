-- The promise of the placement leaves no freedom: what meets it is one value.
use Rattle.std.specs.Prelude.{◌≡◌, refl, Bool, true, false, List, ℕ, ◌^◌, ◌≤◌, ◌<◌, length}
use Rattle.std.proofs.Common.{sym, ap, ◌∙◌, ⊎_elim, arith, ext_get_or}
use Rattle.base_laws.specs.Bools.{either, lt_or_le}
use Rattle.base_sum_laws.specs.Definitions.{sum_below}
use Rattle.settings_values.specs.Definitions.{nodes, shards, subgroup, Settings}
use Rattle.place_groups.specs.Definitions.{group_moves, Chosen}
use Rattle.place_groups.specs.Chosen.{lowest_one}
use Rattle.place_laws.specs.Choice.{chosen_unique}
use Rattle.place_laws.specs.Definitions.{masks_of}
use Rattle.place_layout.specs.declared.Placed.{Placed}
use Rattle.place_layout.specs.Post.{Laid, Unplaced, Placement}

-- masks of the choices in all four subgroups are one list
pub masks_one : {σ : List ℕ} {held : ℕ} {old : ℕ → ℕ} → Settings σ → held < 2 ^ nodes σ → (a b : List ℕ) → length a ≡ 16 → length b ≡ 16
    → ((g : ℕ) → g < 4 → Chosen σ held old (masks_of a) g) → ((g : ℕ) → g < 4 → Chosen σ held old (masks_of b) g)
    → ((s : ℕ) → shards σ ≤ s → s < 16 → masks_of a s ≡ 0) → ((s : ℕ) → shards σ ≤ s → s < 16 → masks_of b s ≡ 0) → a ≡ b
masks_one {σ} right inside a b m n p q h k =
    ext_get_or 0 a b (m ∙ sym n)
    (λ s l. ⊎_elim
    (λ i. let small : subgroup σ s < 4 = omega (arith, right.subgroup_to s i) in chosen_unique right inside (subgroup σ s) (p (subgroup σ s) small) (q (subgroup σ s) small) s i refl)
    (λ i. h s i (omega arith) ∙ sym (k s i (omega arith)))
    (lt_or_le s (shards σ)))

-- a placement by its parts
placed_as : {f f' : Bool} {g g' : ℕ} {m m' : List ℕ} {t t' : ℕ} → f ≡ f' → g ≡ g' → m ≡ m' → t ≡ t'
    → ◌≡◌ {A = Placed} (record { found = f; group = g; masks = m; total = t }) (record { found = f'; group = g'; masks = m'; total = t' })
placed_as a b c d = λ i. record { found = a i; group = b i; masks = c i; total = d i }

module _ {σ : List ℕ} {held : ℕ} {old : ℕ → ℕ} (right : Settings σ) (inside : held < 2 ^ nodes σ) {p q : Placed} where
  -- two placements that meet the promise are equal
  pub placement_unique : Placement σ held old p → Placement σ held old q → p ≡ q
  placement_unique v w = ⊎_elim (λ e. ⊎_elim (λ d. laid e d) (λ d. absurd (apart (v.laid e) (w.unplaced d))) (either q.found)) (λ e. ⊎_elim (λ d. absurd (apart' (w.laid d) (v.unplaced e))) (λ d. none e d) (either q.found)) (either p.found)
    where
      apart : Laid σ held old 4 p → Unplaced σ held q → ⊥
      apart a b = b.lowest.none.none (masks_of p.masks) (a.chosen q.group b.lowest.below).least.valid

      apart' : Laid σ held old 4 q → Unplaced σ held p → ⊥
      apart' a b = b.lowest.none.none (masks_of q.masks) (a.chosen p.group b.lowest.below).least.valid

      laid : p.found ≡ true → q.found ≡ true → p ≡ q
      laid e d =
          let a = v.laid e in
          let b = w.laid d in
          let m : p.masks ≡ q.masks = masks_one right inside p.masks q.masks a.sized b.sized a.chosen b.chosen (λ s i j. a.rest s i) (λ s i j. b.rest s i) in
          placed_as (e ∙ sym d) (a.group ∙ sym b.group) m
          (a.total ∙ (ap (λ (l : List ℕ). sum_below 4 (group_moves σ old (masks_of l))) m ∙ sym b.total))

      none : p.found ≡ false → q.found ≡ false → p ≡ q
      none e d =
          let a = v.unplaced e in
          let b = w.unplaced d in
          placed_as (e ∙ sym d) (lowest_one σ held p.group q.group a.lowest b.lowest) (a.masks ∙ sym b.masks) (a.total ∙ sym b.total)
