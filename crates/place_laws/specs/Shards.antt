-- What a valid placement of subgroup g says of each of its shards, and that this is all that it says.
use Rattle.std.specs.Prelude.{◌≡◌, not, ◌&&◌, List, ℕ, ◌≤◌, ◌<◌, eqb}
use Rattle.std.proofs.Math.Bool.{true}
use Rattle.std.proofs.Math.Logic.{⊎_elim}
use Rattle.std.proofs.Math.Dec.{leb}
use borrow.Author.Tests.{eqb-true, eq-eqb, leb-true, le-leb}
use Rattle.base_laws.specs.Bools.{either, clash, and_both, and_left, and_right, or_left, or_right, or-holds, not_of_false, of_not_true}
use Rattle.base_laws.specs.Definitions.{all_below, count, subset, disjoint}
use Rattle.base_laws.specs.Below.{all_at, all_of}
use Rattle.settings_values.specs.Definitions.{shards, subgroup, need, cap}
use Rattle.message_format.specs.Definitions.{shard_apart}
use Rattle.place_groups.specs.Definitions.{sets_in, shard_valid, group_valid_at, group_valid, of_group}
use Rattle.place_laws.specs.Cases.{of-group, group_shard, group_subgroup}

-- ---- a shard and the lower ones

module _ (σ : List ℕ) (masks : ℕ → ℕ) (s t : ℕ) where
  apart_of : (subgroup σ t ≡ subgroup σ s → disjoint (masks t) (masks s) ≡ true) → shard_apart σ masks s t ≡ true
  unfolding shard_apart
  apart_of f =
      ⊎_elim
      (λ e. or_right (not (eqb (subgroup σ t) (subgroup σ s))) (f (eqb-true (subgroup σ t) (subgroup σ s) e)))
      (λ e. or_left (disjoint (masks t) (masks s)) (not_of_false e))
      (either (eqb (subgroup σ t) (subgroup σ s)))

  apart_disjoint : shard_apart σ masks s t ≡ true → subgroup σ t ≡ subgroup σ s → disjoint (masks t) (masks s) ≡ true
  unfolding shard_apart
  apart_disjoint h e =
      ⊎_elim
      (λ d. clash (eq-eqb (subgroup σ t) (subgroup σ s) e) (of_not_true (eqb (subgroup σ t) (subgroup σ s)) d))
      (λ d. d)
      (or-holds (not (eqb (subgroup σ t) (subgroup σ s))) (disjoint (masks t) (masks s)) h)

-- shard s has held nodes, at most its cap, from as many failure sets as it needs, and shares none with a lower shard of its subgroup
pub record ShardPlaced (σ : List ℕ) (held : ℕ) (masks : ℕ → ℕ) (s : ℕ) : Type 0 where
  pub inside : subset (masks s) held ≡ true
  pub sized : count (masks s) ≤ cap σ s
  pub spreads : need σ s ≤ sets_in σ (masks s)
  pub shares : (t : ℕ) → t < s → subgroup σ t ≡ subgroup σ s → disjoint (masks t) (masks s) ≡ true

module _ (σ : List ℕ) (held : ℕ) (masks : ℕ → ℕ) (s : ℕ) where
  placed-test : ShardPlaced σ held masks s → (shard_valid σ held masks s && all_below s (shard_apart σ masks s)) ≡ true
  unfolding shard_valid
  placed-test w =
      and_both (and_both (and_both w.inside (le-leb (count (masks s)) (cap σ s) w.sized)) (le-leb (need σ s) (sets_in σ (masks s)) w.spreads))
      (all_of s (shard_apart σ masks s) (λ t l. apart_of σ masks s t (w.shares t l)))

  test_placed : (shard_valid σ held masks s && all_below s (shard_apart σ masks s)) ≡ true → ShardPlaced σ held masks s
  unfolding shard_valid
  test_placed h =
      let part = subset (masks s) held in
      let size = leb (count (masks s)) (cap σ s) in
      let wide = leb (need σ s) (sets_in σ (masks s)) in
      let valid : (part && size && wide) ≡ true = and_left (shard_valid σ held masks s) (all_below s (shard_apart σ masks s)) h in
      let two : (part && size) ≡ true = and_left (part && size) wide valid in
      record {
        inside = and_left part size two;
        sized = leb-true (count (masks s)) (cap σ s) (and_right part size two);
        spreads = leb-true (need σ s) (sets_in σ (masks s)) (and_right (part && size) wide valid);
        shares = λ t l e. apart_disjoint σ masks s t (all_at s (shard_apart σ masks s) (and_right (shard_valid σ held masks s) (all_below s (shard_apart σ masks s)) h) t l) e;
      }

-- ---- a valid placement

module _ (σ : List ℕ) (held : ℕ) (masks : ℕ → ℕ) (g : ℕ) where
  pub group_valid_of : ((s : ℕ) → of_group σ g s ≡ true → ShardPlaced σ held masks s) → group_valid σ held masks g ≡ true
  unfolding group_valid group_valid_at
  group_valid_of f =
      all_of (shards σ) (group_valid_at σ held masks g)
      (λ s l. ⊎_elim
      (λ e. or_right (not (eqb (subgroup σ s) g)) (placed-test σ held masks s (f s (of-group σ g s l (eqb-true (subgroup σ s) g e)))))
      (λ e. or_left (shard_valid σ held masks s && all_below s (shard_apart σ masks s)) (not_of_false e))
      (either (eqb (subgroup σ s) g)))

  pub shard_placed : group_valid σ held masks g ≡ true → (s : ℕ) → of_group σ g s ≡ true → ShardPlaced σ held masks s
  unfolding group_valid group_valid_at
  shard_placed h s o =
      test_placed σ held masks s
      (⊎_elim
      (λ d. clash (eq-eqb (subgroup σ s) g (group_subgroup σ g s o)) (of_not_true (eqb (subgroup σ s) g) d))
      (λ d. d)
      (or-holds (not (eqb (subgroup σ s) g)) (shard_valid σ held masks s && all_below s (shard_apart σ masks s))
      (all_at (shards σ) (group_valid_at σ held masks g) h s (group_shard σ g s o))))
