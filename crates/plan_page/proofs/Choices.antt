-- The choice of a placement for subgroup g depends on the settings' nodes and sets and on the words and old masks of g's own shards: under
-- other settings that agree on these it is the same choice.
use Rattle.std.specs.Prelude.{ℕ, ◌^◌, ◌≤◌, ◌<◌, true, ◌&&◌, List, ◌≡◌}
use Rattle.std.proofs.Common.{arith, sym, ◌∙◌}
use Rattle.std.proofs.Math.Path.{ap}
use Rattle.std.specs.Int.Bits.{bit_and}
use Rattle.std.proofs.Math.Dec.{eqb}
use Rattle.base_laws.specs.Definitions.{any_below, has, count, minus}
use Rattle.base_laws.specs.Below.{any_cong, count_cong}
use Rattle.settings_values.specs.Definitions.{nodes, shards, set_of, subgroup, Settings}
use Rattle.place_groups.specs.Definitions.{meets_set, sets_in, group_valid, group_moves_at, group_moves, group_stays_at, group_stays, LeastMoves, Chosen, of_group}
use Rattle.place_laws.specs.Cases.{of-group, group_shard, group_subgroup}
use Rattle.place_laws.specs.Shards.{group_valid_of, shard_placed}
use Rattle.place_laws.specs.Choice.{chosen_unique}
use Rattle.plan_page.specs.Choices.{AlikeGroup, sums_alike, not_later_alike, turned}

module _ {σ τ : List ℕ} {g : ℕ} (few : shards σ ≤ 16) (few' : shards τ ≤ 16) (k : AlikeGroup σ τ g) where
  sets_alike : (m : ℕ) → sets_in σ m ≡ sets_in τ m
  unfolding sets_in meets_set
  sets_alike m =
      count_cong 16 (meets_set σ m) (meets_set τ m)
      (λ f l.
      any_cong (nodes σ) (λ n. has m n && eqb (set_of σ n) f) (λ n. has m n && eqb (set_of τ n) f)
      (λ n i. ap (λ (x : ℕ). has m n && eqb x f) (k.sets_same n i))
      ∙ ap (λ (x : ℕ). any_below x (λ n. has m n && eqb (set_of τ n) f)) k.nodes_same)

  pub valid_alike : (held : ℕ) (masks : ℕ → ℕ) → group_valid σ held masks g ≡ true → group_valid τ held masks g ≡ true
  valid_alike held masks v =
      group_valid_of τ held masks g
      (λ s o.
      let p : of_group σ g s ≡ true = k.shards_same s ∙ o in
      let w = shard_placed σ held masks g v s p in
      record {
        inside = w.inside;
        sized = omega (arith, w.sized, k.caps_same s p);
        spreads = omega (arith, w.spreads, k.needs_same s p, sets_alike (masks s));
        shares = λ t l e. w.shares t l (shared s t p o l e);
      })
    where
      shared : (s t : ℕ) → of_group σ g s ≡ true → of_group τ g s ≡ true → t < s → subgroup τ t ≡ subgroup τ s → subgroup σ t ≡ subgroup σ s
      shared s t p o l e =
          let mine : of_group τ g t ≡ true = of-group τ g t (omega (arith, group_shard τ g s o)) (e ∙ group_subgroup τ g s o) in
          group_subgroup σ g t (k.shards_same t ∙ mine) ∙ sym (group_subgroup σ g s p)

  module _ {old older : ℕ → ℕ} (same : (s : ℕ) → of_group σ g s ≡ true → old s ≡ older s) where
    pub moves_alike : (masks : ℕ → ℕ) → group_moves σ old masks g ≡ group_moves τ older masks g
    unfolding group_moves group_moves_at
    moves_alike masks = (sums_alike few few' k) same (λ m o. count (minus m o)) masks

    pub stays_alike : (masks : ℕ → ℕ) → group_stays σ old masks g ≡ group_stays τ older masks g
    unfolding group_stays group_stays_at
    stays_alike masks = (sums_alike few few' k) same (λ m o. count (bit_and m o)) masks

module _ {σ τ : List ℕ} {g : ℕ} (few : shards σ ≤ 16) (few' : shards τ ≤ 16) (k : AlikeGroup σ τ g) (held : ℕ) where
  module _ {old older : ℕ → ℕ} (same : (s : ℕ) → of_group σ g s ≡ true → old s ≡ older s) where
    pub least_alike : {masks : ℕ → ℕ} → LeastMoves σ held old masks g → LeastMoves τ held older masks g
    least_alike {masks} w =
        record {
          valid = valid_alike few few' k held masks w.valid;
          least = λ other v.
              omega (
                arith,
                w.least other (valid_alike few' few (turned k) held other v),
                moves_alike few few' k same masks,
                moves_alike few few' k same other,
              );
        }

  module _ {old older : ℕ → ℕ} (same : (s : ℕ) → of_group σ g s ≡ true → old s ≡ older s) where
    least_back : {masks : ℕ → ℕ} → LeastMoves τ held older masks g → LeastMoves σ held old masks g
    least_back {masks} w =
        record {
          valid = valid_alike few' few (turned k) held masks w.valid;
          least = λ other v.
              omega (
                arith,
                w.least other (valid_alike few few' k held other v),
                moves_alike few few' k same masks,
                moves_alike few few' k same other,
              );
        }

    pub chosen_alike : {masks : ℕ → ℕ} → Chosen σ held old masks g → Chosen τ held older masks g
    chosen_alike {masks} c =
        record {
          least = least_alike same c.least;
          most = λ other l. omega (arith, c.most other (least_back l), stays_alike few few' k same other, stays_alike few few' k same masks);
          first = λ other l e.
              not_later_alike few few' k
              (c.first other (least_back l) (stays_alike few few' k same other ∙ e ∙ sym (stays_alike few few' k same masks)));
        }

-- so the choices of two settings that are alike for g, with old masks that are alike for g, give g's shards the same nodes
pub choices_alike : {σ τ : List ℕ} {g held : ℕ} {old older a b : ℕ → ℕ} → Settings σ → Settings τ → held < 2 ^ nodes τ → AlikeGroup σ τ g
    → ((s : ℕ) → of_group σ g s ≡ true → old s ≡ older s) → Chosen σ held old a g → Chosen τ held older b g
    → (s : ℕ) → of_group τ g s ≡ true → a s ≡ b s
choices_alike {σ} {τ} {g} {held} right right' inside k same c e s o =
    chosen_unique right' inside g (chosen_alike right.sizes.shards_to right'.sizes.shards_to k held same c) e s (group_shard τ g s o) (group_subgroup τ g s o)
