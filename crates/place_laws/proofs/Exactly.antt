-- Where every cap of a subgroup is its shard's need, a valid placement gives each shard exactly as many nodes as it needs, each of another
-- failure set. So placements of as many moves have as many stays, and the choice is the first of the placements of least moves.
use Rattle.std.specs.Prelude.{◌≡◌, Bool, true, cond, List, ℕ, ◌^◌, ◌≤◌, ◌<◌, eqb}
use Rattle.std.proofs.Common.{sym, ap, ◌∙◌, subst, ⊎_elim, arith, eqb-true}
use Rattle.base_laws.specs.Bools.{either}
use Rattle.base_laws.specs.Definitions.{count}
use Rattle.base_laws.specs.Masks.{has_below, subset_has}
use Rattle.base_sum_laws.specs.Sums.{sum_cong}
use Rattle.settings_values.specs.Definitions.{nodes, shards, subgroup, Settings}
use Rattle.place_groups.specs.Definitions.{sets_in, group_valid, group_stays, LeastMoves, of_group, NotLater, Chosen}
use Rattle.place_groups.specs.Chosen.{moves_stays}
use Rattle.search_laws.specs.Ranks.{spread_size}
use Rattle.place_laws.specs.Cases.{of-group, set_small}
use Rattle.place_laws.specs.Shards.{shard_placed}
use Rattle.place_laws.specs.Owners.{owner, count_size, sets_spread}
use Rattle.place_laws.proofs.Owners.{owner_masked}
use Rattle.place_laws.specs.Tables.{group_case}
use Rattle.place_laws.proofs.Tables.{case_for}
use Rattle.place_laws.specs.Exactly.{CapsAtNeeds, ShardExact}

module _ (σ : List ℕ) (held : ℕ) (right : Settings σ) (inside : held < 2 ^ nodes σ) (g : ℕ) where
  -- a shard's nodes are of no more sets than they are
  sets_most : (masks : ℕ → ℕ) → group_valid σ held masks g ≡ true → (s : ℕ) → of_group σ g s ≡ true → sets_in σ (masks s) ≤ count (masks s)
  sets_most masks v s o =
      let k = owner_masked σ held g masks right inside v in
      let stands = case_for σ held (λ i. 0) g right in
      omega (
        arith,
        sets_spread k stands right.sizes.nodes_to s o
            (λ n l p. has_below held (nodes σ) n inside (subset_has (masks s) held (shard_placed σ held masks g v s o).inside n p)),
        spread_size (group_case σ held (λ i. 0) g) (λ n l. subst (λ (f : ℕ). f < 16) (sym (stands.sets n l)) (set_small σ n right)) (owner σ g masks) s,
        count_size k s o,
      )

  module _ (caps : CapsAtNeeds σ g) where
    pub shard_exact : (masks : ℕ → ℕ) → group_valid σ held masks g ≡ true → (s : ℕ) → of_group σ g s ≡ true → ShardExact σ masks s
    shard_exact masks v s o =
        let w = shard_placed σ held masks g v s o in
        let low = sets_most masks v s o in
        record { sized = omega (arith, w.sized, w.spreads, caps.at s o); spreads = omega (arith, w.sized, w.spreads, caps.at s o) }

    -- as many moves, as many stays
    stays_alike : (old a b : ℕ → ℕ) → LeastMoves σ held old a g → LeastMoves σ held old b g → group_stays σ old a g ≡ group_stays σ old b g
    stays_alike old a b p q =
        omega (
          arith,
          moves_stays σ old a g,
          moves_stays σ old b g,
          p.least b q.valid,
          q.least a p.valid,
          sum_cong (shards σ) (λ s. cond (eqb (subgroup σ s) g) (count (a s)) 0) (λ s. cond (eqb (subgroup σ s) g) (count (b s)) 0) at,
        )
      where
        at : (s : ℕ) → s < shards σ → cond (eqb (subgroup σ s) g) (count (a s)) 0 ≡ cond (eqb (subgroup σ s) g) (count (b s)) 0
        at s l =
            ⊎_elim
            (λ e.
            let o : of_group σ g s ≡ true = of-group σ g s l (eqb-true (subgroup σ s) g e) in
            ap (λ (n : ℕ). cond (eqb (subgroup σ s) g) n 0) ((shard_exact a p.valid s o).sized ∙ sym (shard_exact b q.valid s o).sized))
            (λ e. ap (λ (c : Bool). cond c (count (a s)) 0) e ∙ sym (ap (λ (c : Bool). cond c (count (b s)) 0) e))
            (either (eqb (subgroup σ s) g))

    -- the choice is the first of the placements of least moves
    pub exact_first : {old masks : ℕ → ℕ} → Chosen σ held old masks g → (other : ℕ → ℕ) → LeastMoves σ held old other g → NotLater (of_group σ g) masks other
    exact_first {old} {masks} c other l = c.first other l (stays_alike old other masks l c.least)

    pub first_exact : {old masks : ℕ → ℕ} → LeastMoves σ held old masks g
        → ((other : ℕ → ℕ) → LeastMoves σ held old other g → NotLater (of_group σ g) masks other) → Chosen σ held old masks g
    first_exact {old} {masks} l f =
        record {
          least = l;
          most = λ other w. omega (arith, stays_alike old other masks w l);
          first = λ other w e. f other w;
        }
