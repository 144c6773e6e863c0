-- Masks whose placements are valid in every subgroup pass row 10 for the held nodes as members.
use Rattle.std.specs.Prelude.{ℕ, ◌<◌, ◌≤◌, ◌&&◌, List, ◌≡◌, refl}
use Rattle.std.proofs.Common.{arith, ⊎_elim, ap, ◌∙◌, eq-eqb, leb-true, le-leb}
use Rattle.std.proofs.Math.Bool.{true}
use Rattle.std.proofs.Math.Dec.{leb}
use Rattle.base_laws.specs.Bools.{and_both, and_left, and_right, clash, lt_or_le}
use Rattle.base_laws.specs.Definitions.{all_below, has, count, subset}
use Rattle.base_laws.specs.Below.{all_at, all_of}
use Rattle.base_laws.specs.Masks.{has_zero}
use Rattle.settings_values.specs.Definitions.{shards, subgroup, need, cap, Settings}
use Rattle.message_format.specs.Definitions.{row10_at, row10, shard_apart}
use Rattle.place_groups.specs.Definitions.{sets_in, shard_valid, group_valid_at, group_valid}
use Rattle.place_groups.specs.Sets.{sets_node}

module _ (σ : List ℕ) (held : ℕ) (masks : ℕ → ℕ) (right : Settings σ) where
  shard_placed : (s : ℕ) → s < shards σ → group_valid σ held masks (subgroup σ s) ≡ true
      → (shard_valid σ held masks s && all_below s (shard_apart σ masks s)) ≡ true
  unfolding group_valid group_valid_at
  shard_placed s l h =
      rw (eq-eqb (subgroup σ s) (subgroup σ s) refl) at (all_at (shards σ) (group_valid_at σ held masks (subgroup σ s)) h s l)

  -- nodes of some set are at least one
  some_placed : (s : ℕ) → s < shards σ → need σ s ≤ sets_in σ (masks s) → leb 1 (masks s) ≡ true
  some_placed s l e =
      let w = sets_node σ (masks s) (omega (arith, right.need_from s l)) in
      ⊎_elim
      (λ z. absurd (clash w.2 (ap (λ (m : ℕ). has m w.0) (let y : masks s ≡ 0 = omega arith in y) ∙ has_zero w.0)))
      (λ z. le-leb 1 (masks s) z)
      (lt_or_le (masks s) 1)

  pub placed_passes : ((g : ℕ) → g < 4 → group_valid σ held masks g ≡ true) → row10 σ held masks ≡ true
  unfolding row10 row10_at shard_valid
  placed_passes h =
      all_of (shards σ) (row10_at σ held masks) (λ s l.
      let e = shard_placed s l (h (subgroup σ s) (omega (arith, right.subgroup_to s l))) in
      let two = subset (masks s) held && leb (count (masks s)) (cap σ s) in
      let many = leb (need σ s) (sets_in σ (masks s)) in
      let v : (two && many) ≡ true = and_left (two && many) (all_below s (shard_apart σ masks s)) e in
      and_both
      (and_both (some_placed s l (leb-true (need σ s) (sets_in σ (masks s)) (and_right two many v)))
      (and_left (subset (masks s) held) (leb (count (masks s)) (cap σ s)) (and_left two many v)))
      (and_right (two && many) (all_below s (shard_apart σ masks s)) e))
