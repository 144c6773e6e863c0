-- The promise of the rounds leaves no freedom: what meets it is one value.
use Rattle.std.specs.Prelude.{◌≡◌, Bool, true, false, List, ℕ, ◌^◌, ◌≤◌, ◌<◌, length}
use Rattle.std.proofs.Common.{sym, ap, ◌∙◌, ⊎_elim, arith, ext_get_or}
use Rattle.base_laws.specs.Bools.{either, lt_or_le}
use Rattle.settings_values.specs.Definitions.{nodes, shards, Settings}
use Rattle.place_groups.specs.Definitions.{plan_moves}
use Rattle.place_groups.specs.Chosen.{lowest_one}
use Rattle.place_laws.specs.Definitions.{masks_of}
use Rattle.place_rounds.specs.declared.PlacedWithin.{PlacedWithin}
use Rattle.place_rounds.specs.Definitions.{gap_of, Bettered}
use Rattle.place_rounds.specs.Laws.{bettered_valid, bettered_one}
use Rattle.place_rounds.specs.Post.{LaidWithin, NoneWithin, PlacementWithin}

-- masks that n rounds reach are one list
pub masks_within_one : {σ : List ℕ} {held n : ℕ} {old : ℕ → ℕ} → Settings σ → held < 2 ^ nodes σ → (a b : List ℕ) → length a ≡ 16 → length b ≡ 16
    → Bettered σ held old n (masks_of a) → Bettered σ held old n (masks_of b)
    → ((s : ℕ) → shards σ ≤ s → s < 16 → masks_of a s ≡ 0) → ((s : ℕ) → shards σ ≤ s → s < 16 → masks_of b s ≡ 0) → a ≡ b
masks_within_one {σ} right inside a b m k p q h i =
    ext_get_or 0 a b (m ∙ sym k)
    (λ s l. ⊎_elim (λ j. bettered_one right inside p q s j) (λ j. h s j (omega arith) ∙ sym (i s j (omega arith))) (lt_or_le s (shards σ)))

-- a placement by its parts
within_as : {f f' : Bool} {g g' : ℕ} {m m' : List ℕ} {t t' : ℕ} {e e' : ℕ} → f ≡ f' → g ≡ g' → m ≡ m' → t ≡ t' → e ≡ e'
    → ◌≡◌ {A = PlacedWithin} (record { placed = record { found = f; group = g; masks = m; total = t }; gap = e })
    (record { placed = record { found = f'; group = g'; masks = m'; total = t' }; gap = e' })
within_as a b c d e = λ i. record { placed = record { found = a i; group = b i; masks = c i; total = d i }; gap = e i }

module _ {σ : List ℕ} {held n : ℕ} {old : ℕ → ℕ} (right : Settings σ) (inside : held < 2 ^ nodes σ) where
  apart : {p q : PlacedWithin} → LaidWithin σ held old n p → NoneWithin σ held q → ⊥
  apart {p} {q} a b = b.unplaced.lowest.none.none (masks_of p.placed.masks) (bettered_valid a.bettered q.placed.group b.unplaced.lowest.below)

  -- two that meet the promise are equal
  pub within_one : {p q : PlacedWithin} → PlacementWithin σ held old n p → PlacementWithin σ held old n q → p ≡ q
  within_one {p} {q} v w =
      ⊎_elim (λ e. ⊎_elim (λ d. laid e d) (λ d. absurd (apart (v.laid e) (w.unplaced d))) (either q.placed.found))
      (λ e. ⊎_elim (λ d. absurd (apart (w.laid d) (v.unplaced e))) (λ d. none e d) (either q.placed.found)) (either p.placed.found)
    where
      laid : p.placed.found ≡ true → q.placed.found ≡ true → p ≡ q
      laid e d =
          let a = v.laid e in
          let b = w.laid d in
          let m : p.placed.masks ≡ q.placed.masks = masks_within_one right inside p.placed.masks q.placed.masks a.sized b.sized a.bettered b.bettered (λ s i j. a.rest s i) (λ s i j. b.rest s i) in
          within_as (e ∙ sym d) (a.group ∙ sym b.group) m
          (a.total ∙ (ap (λ (l : List ℕ). plan_moves σ old (masks_of l)) m ∙ sym b.total))
          (a.gap ∙ (ap (λ (l : List ℕ). gap_of σ held old (masks_of l)) m ∙ sym b.gap))

      none : p.placed.found ≡ false → q.placed.found ≡ false → p ≡ q
      none e d =
          let a = v.unplaced e in
          let b = w.unplaced d in
          within_as (e ∙ sym d) (lowest_one σ held p.placed.group q.placed.group a.unplaced.lowest b.unplaced.lowest) (a.unplaced.masks ∙ sym b.unplaced.masks)
          (a.unplaced.total ∙ sym b.unplaced.total) (a.gap ∙ sym b.gap)
