-- Owners and masks of a subgroup say the same: a valid one gives a valid other with as many moves and stays. So the best placement of
-- the case is of least moves in document 01's own terms, and where the case has none there is none.
use Rattle.std.proofs.Math.Path.{◌≡◌, refl, sym}
use Rattle.std.proofs.Common.{ap, ◌∙◌, subst, ⊎_elim, lt_of_lt_of_le, pow_mono, eqb-true, eq-eqb, ne_eqb, ltb-true, lt-ltb}
use Rattle.std.specs.Prelude.{Bool, ◌&&◌, List, ℕ, ◌-◌, ◌^◌, ◌≤◌, ◌<◌, ltb}
use Rattle.std.proofs.Math.Bool.{true, false, cond, not}
use Rattle.std.proofs.Math.Nat.{lt_of_le_of_lt}
use native.Mathlib.Omega.{arith}
use Rattle.std.specs.Int.Bits.{bit_and}
use Rattle.std.proofs.Math.Dec.{eqb}
use Rattle.base_laws.specs.Bools.{either, clash, same, no_true, and_both, and_left, and_right, cond_of}
use Rattle.base_laws.specs.Definitions.{any_below, has, count, minus, disjoint}
use Rattle.base_laws.specs.Below.{lowest_unique, lowest-holds, lowest_none, any_none_of, count_none}
use Rattle.base_laws.specs.Masks.{has_and, has_minus, has_below, minus_lt, count-below, subset_of, subset_has, subset_le, disjoint_of, disjoint_has}
use Rattle.base_laws.proofs.Masks.{and_subset_left}
use Rattle.base_sum_laws.specs.Definitions.{sum_below}
use Rattle.base_sum_laws.specs.Sums.{sum_cong, sum_single, count_sum}
use Rattle.base_sum_laws.proofs.Sums.{sum_swap, sum_none, sum_bound}
use Rattle.settings_values.specs.Definitions.{nodes, shards, subgroup, Settings}
use Rattle.place_groups.specs.Definitions.{group_valid, group_moves_at, group_moves, group_stays_at, group_stays, Impossible, LeastMoves, of_group}
use Rattle.search_laws.specs.Case.{Case, Valid, has_owner, size, moves}
use Rattle.search_laws.specs.Ranks.{BestPlaced, stays}
use Rattle.search_laws.specs.Order.{HasNone}
use Rattle.place_laws.specs.Cases.{price_in, CaseFor, of-group, group_shard, group_subgroup, shard_below, need-of, need_none, cap_of, price_most}
use Rattle.place_laws.specs.Shards.{group_valid_of, shard_placed}
use Rattle.place_laws.specs.Owners.{Masked, count_size, sets_spread, owner}

module _ {σ : List ℕ} {g : ℕ} {z masks : ℕ → ℕ} (k : Masked σ g z masks) where
  -- a node in a shard's mask is the shard's, and the other way
  mask_owner : (s n : ℕ) → of_group σ g s ≡ true → n < 32 → has (masks s) n ≡ true → z n ≡ s
  mask_owner s n o l p = eqb-true (z n) s (sym (k.bits s o n l) ∙ p)

  owner_mask : (s n : ℕ) → of_group σ g s ≡ true → n < 32 → z n ≡ s → has (masks s) n ≡ true
  owner_mask s n o l e = k.bits s o n l ∙ eq-eqb (z n) s e

-- ---- from owners to masks

module _ {σ : List ℕ} {held g : ℕ} {K : Case} {z masks : ℕ → ℕ}
    (right : Settings σ) (inside : held < 2 ^ nodes σ) (stands : CaseFor σ held g K) (k : Masked σ g z masks) (v : Valid K z) where
  -- a placed node is held, and its shard is of the subgroup
  pair_allowed : (n : ℕ) → n < 32 → z n < 16 → (of_group σ g (z n) && has held n) ≡ true
  pair_allowed n l p = stands.allowed (z n) n p l (v.allowed n l p)

  in_group : (n : ℕ) → n < 32 → z n < 16 → of_group σ g (z n) ≡ true
  in_group n l p = and_left (of_group σ g (z n)) (has held n) (pair_allowed n l p)

  -- a node in a shard's mask is held
  mask_held : (s n : ℕ) → of_group σ g s ≡ true → n < 32 → has (masks s) n ≡ true → has held n ≡ true
  mask_held s n o l p =
      let e : z n ≡ s = mask_owner k s n o l p in
      and_right (of_group σ g (z n)) (has held n) (pair_allowed n l (omega (arith, shard_below σ g right s o)))

  pub masks_valid : group_valid σ held masks g ≡ true
  masks_valid = group_valid_of σ held masks g (λ s o.
      let l : s < 16 = shard_below σ g right s o in
      record {
        inside = subset_of 32 (masks s) held (k.small s o) (λ n l p. mask_held s n o l p);
        sized = omega (arith, count_size k s o, v.most s l, stands.caps s l, cap_of σ g s o);
        spreads = omega (
          arith,
          sets_spread k stands right.sizes.nodes_to s o (λ n q p. has_below held (nodes σ) n inside (mask_held s n o q p)),
          v.sets s l,
          stands.needs s l,
          need-of σ g s o,
        );
        shares = λ t l e. shares s o t l e;
      })
    where
      shares : (s : ℕ) → of_group σ g s ≡ true → (t : ℕ) → t < s → subgroup σ t ≡ subgroup σ s → disjoint (masks t) (masks s) ≡ true
      shares s o t l e =
          let p : of_group σ g t ≡ true = of-group σ g t (omega (arith, group_shard σ g s o)) (e ∙ group_subgroup σ g s o) in
          disjoint_of 32 (masks t) (masks s) (k.small t p)
          (λ n q h. k.bits s o n q ∙ ne_eqb (z n) s (λ d. omega (arith, mask_owner k t n p q h)))

  -- ---- moves and stays

  -- a sum over the placed nodes is one over the shards, where a node counts in a shard just if it is in a mask of it
  module _ (value : ℕ → ℕ → ℕ) (of : ℕ → ℕ) (small : (s : ℕ) → of_group σ g s ≡ true → of s < 2 ^ 32)
      (counts : (s n : ℕ) → of_group σ g s ≡ true → n < 32 → cond (eqb (z n) s) (value s n) 0 ≡ cond (has (of s) n) 1 0) where
    -- a node's value, as the one term that is not 0 of a sum over the shards
    node_value : (n : ℕ) → n < 32 → cond (has_owner z n) (value (z n) n) 0 ≡ sum_below (shards σ) (λ s. cond (eqb (z n) s) (value s n) 0)
    node_value n l = sym (sum_single (shards σ) (z n) (λ s. value s n) ∙ ap (λ (b : Bool). cond b (value (z n) n) 0) below)
      where
        below : ltb (z n) (shards σ) ≡ ltb (z n) 16
        below =
            same (ltb (z n) (shards σ)) (ltb (z n) 16)
            (λ h. lt-ltb (z n) 16 (omega (arith, ltb-true (z n) (shards σ) h, right.sizes.shards_to)))
            (λ h. lt-ltb (z n) (shards σ) (group_shard σ g (z n) (in_group n l (ltb-true (z n) 16 h))))

    shard_value : (s : ℕ) → s < shards σ → sum_below 32 (λ n. cond (eqb (z n) s) (value s n) 0) ≡ cond (eqb (subgroup σ s) g) (count (of s)) 0
    shard_value s l = ⊎_elim (λ e. ours e) (λ e. other e) (either (eqb (subgroup σ s) g))
      where
        ours : eqb (subgroup σ s) g ≡ true → sum_below 32 (λ n. cond (eqb (z n) s) (value s n) 0) ≡ cond (eqb (subgroup σ s) g) (count (of s)) 0
        ours e =
            let o : of_group σ g s ≡ true = of-group σ g s l (eqb-true (subgroup σ s) g e) in
            sum_cong 32 (λ n. cond (eqb (z n) s) (value s n) 0) (λ n. cond (has (of s) n) 1 0) (λ n q. counts s n o q)
            ∙ (sym (count_sum 32 (has (of s)))
            ∙ (sym (count-below 32 (of s) (small s o))
            ∙ sym (ap (λ (b : Bool). cond b (count (of s)) 0) e)))

        other : eqb (subgroup σ s) g ≡ false → sum_below 32 (λ n. cond (eqb (z n) s) (value s n) 0) ≡ cond (eqb (subgroup σ s) g) (count (of s)) 0
        other e =
            sum_none 32 (λ n. cond (eqb (z n) s) (value s n) 0)
            (λ n q. ap (λ (b : Bool). cond b (value s n) 0) (ne_eqb (z n) s (λ d. strange n q d e)))
            ∙ sym (ap (λ (b : Bool). cond b (count (of s)) 0) e)
          where
            strange : (n : ℕ) → n < 32 → z n ≡ s → eqb (subgroup σ s) g ≡ false → ⊥
            strange n q d h =
                let o : of_group σ g s ≡ true = subst (λ (i : ℕ). of_group σ g i ≡ true) d (in_group n q (omega (arith, right.sizes.shards_to))) in
                clash (eq-eqb (subgroup σ s) g (group_subgroup σ g s o)) h

    counted_by_shard : sum_below 32 (λ n. cond (has_owner z n) (value (z n) n) 0) ≡ sum_below (shards σ) (λ s. cond (eqb (subgroup σ s) g) (count (of s)) 0)
    counted_by_shard =
        sum_cong 32 (λ n. cond (has_owner z n) (value (z n) n) 0) (λ n. sum_below (shards σ) (λ s. cond (eqb (z n) s) (value s n) 0)) node_value
        ∙ (sum_swap 32 (shards σ) (λ n s. cond (eqb (z n) s) (value s n) 0)
        ∙ sum_cong (shards σ) (λ s. sum_below 32 (λ n. cond (eqb (z n) s) (value s n) 0)) (λ s. cond (eqb (subgroup σ s) g) (count (of s)) 0) shard_value)

  -- node n in shard s moves just where it is no old member
  pub moves_same : (old : ℕ → ℕ) → moves (price_in old) z ≡ group_moves σ old masks g
  unfolding moves price_in group_moves group_moves_at
  moves_same old = counted_by_shard (price_in old) (λ s. minus (masks s) (old s)) (λ s o. minus_lt 32 (masks s) (old s) (k.small s o)) at
    where
      turned : (a b : Bool) → ◌≡◌ {A = ℕ} (cond a (cond b 0 1) 0) (cond (a && not b) 1 0)
      turned true true = refl
      turned true false = refl
      turned false b = refl

      at : (s n : ℕ) → of_group σ g s ≡ true → n < 32 → ◌≡◌ {A = ℕ} (cond (eqb (z n) s) (cond (has (old s) n) 0 1) 0) (cond (has (minus (masks s) (old s)) n) 1 0)
      at s n o l =
          turned (eqb (z n) s) (has (old s) n)
          ∙ sym (ap (λ (b : Bool). cond b 1 0) (has_minus (masks s) (old s) n ∙ ap (λ (b : Bool). b && not (has (old s) n)) (k.bits s o n l)))

  -- at most all 32 nodes move
  pub moves_small : (old : ℕ → ℕ) → group_moves σ old masks g ≤ 32
  unfolding moves
  moves_small old =
      omega (
        arith,
        moves_same old,
        sum_bound 32 1 (λ n. cond (has_owner z n) (price_in old (z n) n) 0)
            (λ n l. cond_of (λ (c : ℕ). c ≤ 1) (has_owner z n) (λ e. price_most old (z n) n) (λ e. omega arith)),
      )

  -- and a node stays just where it is one
  pub stays_same : (old : ℕ → ℕ) → stays (price_in old) z ≡ group_stays σ old masks g
  unfolding stays price_in group_stays group_stays_at
  stays_same old = counted_by_shard (λ s n. 1 - price_in old s n) (λ s. bit_and (masks s) (old s)) small at
    where
      small : (s : ℕ) → of_group σ g s ≡ true → bit_and (masks s) (old s) < 2 ^ 32
      small s o = lt_of_le_of_lt (subset_le (bit_and (masks s) (old s)) (masks s) (and_subset_left (masks s) (old s))) (k.small s o)

      turned : (a b : Bool) → ◌≡◌ {A = ℕ} (cond a (1 - cond b 0 1) 0) (cond (a && b) 1 0)
      turned true true = refl
      turned true false = refl
      turned false b = refl

      at : (s n : ℕ) → of_group σ g s ≡ true → n < 32 → ◌≡◌ {A = ℕ} (cond (eqb (z n) s) (1 - cond (has (old s) n) 0 1) 0) (cond (has (bit_and (masks s) (old s)) n) 1 0)
      at s n o l =
          turned (eqb (z n) s) (has (old s) n)
          ∙ sym (ap (λ (b : Bool). cond b 1 0) (has_and (masks s) (old s) n ∙ ap (λ (b : Bool). b && has (old s) n) (k.bits s o n l)))

-- an owner is a shard of the subgroup whose mask has the node
owner_in : (σ : List ℕ) (g : ℕ) (masks : ℕ → ℕ) (n : ℕ) → owner σ g masks n < 16
    → (of_group σ g (owner σ g masks n) && has (masks (owner σ g masks n)) n) ≡ true
unfolding owner
owner_in σ g masks n l =
    ⊎_elim (λ e. lowest-holds 16 (λ s. of_group σ g s && has (masks s) n) e)
    (λ e. absurd (omega (arith, lowest_none 16 (λ s. of_group σ g s && has (masks s) n) e)))
    (either (any_below 16 (λ s. of_group σ g s && has (masks s) n)))

module _ (σ : List ℕ) (held g : ℕ) (masks : ℕ → ℕ) (right : Settings σ) (inside : held < 2 ^ nodes σ) (valid : group_valid σ held masks g ≡ true) where
  owner_is : (s n : ℕ) → of_group σ g s ≡ true → has (masks s) n ≡ true → owner σ g masks n ≡ s
  unfolding owner
  owner_is s n o p =
      lowest_unique 16 (λ i. of_group σ g i && has (masks i) n) s (shard_below σ g right s o) (and_both o p)
      (λ t l. no_true (of_group σ g t && has (masks t) n) (λ e. shared t l e))
    where
      shared : (t : ℕ) → t < s → (of_group σ g t && has (masks t) n) ≡ true → ⊥
      shared t l e =
          let q : of_group σ g t ≡ true = and_left (of_group σ g t) (has (masks t) n) e in
          let one : subgroup σ t ≡ subgroup σ s = group_subgroup σ g t q ∙ sym (group_subgroup σ g s o) in
          clash p (disjoint_has (masks t) (masks s) ((shard_placed σ held masks g valid s o).shares t l one) n (and_right (of_group σ g t) (has (masks t) n) e))

  pub owner_masked : Masked σ g (owner σ g masks) masks
  owner_masked = record {
    bits = λ s o n l. same (has (masks s) n) (eqb (owner σ g masks n) s) (λ p. eq-eqb (owner σ g masks n) s (owner_is s n o p)) (λ e. back s n o e);
    small = λ s o. lt_of_le_of_lt (subset_le (masks s) held (shard_placed σ held masks g valid s o).inside) (lt_of_lt_of_le inside (pow_mono right.sizes.nodes_to));
  }
    where
      back : (s n : ℕ) → of_group σ g s ≡ true → eqb (owner σ g masks n) s ≡ true → has (masks s) n ≡ true
      back s n o e =
          let d : owner σ g masks n ≡ s = eqb-true (owner σ g masks n) s e in
          subst (λ (i : ℕ). has (masks i) n ≡ true) d
          (and_right (of_group σ g (owner σ g masks n)) (has (masks (owner σ g masks n)) n) (owner_in σ g masks n (omega (arith, shard_below σ g right s o))))

module _ {σ : List ℕ} {held g : ℕ} {K : Case} {z masks : ℕ → ℕ}
    (right : Settings σ) (inside : held < 2 ^ nodes σ) (stands : CaseFor σ held g K) (k : Masked σ g z masks)
    (within : (n : ℕ) → n < 32 → z n < 16 → of_group σ g (z n) ≡ true) (valid : group_valid σ held masks g ≡ true) where
  -- a node in a shard's mask is held
  shard_held : (s n : ℕ) → of_group σ g s ≡ true → has (masks s) n ≡ true → has held n ≡ true
  shard_held s n o p = subset_has (masks s) held (shard_placed σ held masks g valid s o).inside n p

  pub owners_valid : Valid K z
  owners_valid = record {
    allowed = λ n l p. stands.allows (z n) n p l (and_both (within n l p) (shard_held (z n) n (within n l p) (owner_mask k (z n) n (within n l p) l refl)));
    most = λ s l. ⊎_elim
        (λ o. omega (arith, count_size k s o, (shard_placed σ held masks g valid s o).sized, stands.caps s l, cap_of σ g s o))
        (λ o. omega (arith, none_in s o l)) (either (of_group σ g s));
    sets = λ s l. ⊎_elim
        (λ o. omega (
          arith,
          sets_spread k stands right.sizes.nodes_to s o (λ n q p. has_below held (nodes σ) n inside (shard_held s n o p)),
          (shard_placed σ held masks g valid s o).spreads,
          stands.needs s l,
          need-of σ g s o,
        ))
        (λ o. omega (arith, stands.needs s l, need_none σ g s o)) (either (of_group σ g s));
  }
    where
      strange : (s : ℕ) → of_group σ g s ≡ false → s < 16 → (n : ℕ) → n < 32 → z n ≡ s → ⊥
      strange s o l n q d = clash (subst (λ (i : ℕ). of_group σ g i ≡ true) d (within n q (omega arith))) o

      -- a shard of another subgroup has none
      none_in : (s : ℕ) → of_group σ g s ≡ false → s < 16 → size z s ≡ 0
      none_in s o l = count_none 32 (λ n. eqb (z n) s) (any_none_of 32 (λ n. eqb (z n) s) (λ n q. ne_eqb (z n) s (strange s o l n q)))

-- ---- the least placement, or none

module _ {σ : List ℕ} {held g : ℕ} {K : Case} (right : Settings σ) (inside : held < 2 ^ nodes σ) (stands : CaseFor σ held g K) where
  -- every valid placement by masks has its owners
  pub from_masks : (masks : ℕ → ℕ) → group_valid σ held masks g ≡ true → Valid K (owner σ g masks)
  from_masks masks v =
      owners_valid right inside stands (owner_masked σ held g masks right inside v)
      (λ n l p. and_left (of_group σ g (owner σ g masks n)) (has (masks (owner σ g masks n)) n) (owner_in σ g masks n p)) v

  -- with as many moves and stays
  pub from_moves : (old masks : ℕ → ℕ) → group_valid σ held masks g ≡ true → moves (price_in old) (owner σ g masks) ≡ group_moves σ old masks g
  from_moves old masks v = moves_same right inside stands (owner_masked σ held g masks right inside v) (from_masks masks v) old

  pub from_stays : (old masks : ℕ → ℕ) → group_valid σ held masks g ≡ true → stays (price_in old) (owner σ g masks) ≡ group_stays σ old masks g
  from_stays old masks v = stays_same right inside stands (owner_masked σ held g masks right inside v) (from_masks masks v) old

  pub least_moves : {old z masks : ℕ → ℕ} → Masked σ g z masks → BestPlaced K (price_in old) z → LeastMoves σ held old masks g
  least_moves {old} {z} {masks} k w = record {
    valid = masks_valid right inside stands k w.valid;
    least = λ other v. omega (arith, w.fewest (owner σ g other) (from_masks other v), moves_same right inside stands k w.valid old, from_moves old other v);
  }

  pub impossible : HasNone (Valid K) → Impossible σ held g
  impossible w = record { none = λ masks v. w.none (owner σ g masks) (from_masks masks v) }
