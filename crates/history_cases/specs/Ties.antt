-- Rows of the choice among placements of least moves: a row for each clause of its order, and ties that the order alone decides.
use Rattle.std.specs.Prelude.{ℕ, ◌^◌, ◌<◌, ◌≤◌, Bool, true, false, not, ◌&&◌, ◌||◌, [], ◌∷◌, ◌≡◌, refl, eqb, leb, ltb}
use Rattle.std.proofs.Common.{⊎_elim, subst, arith, eqb-true, le-leb, leb-true, ltb-true}
use Rattle.std.specs.Int.Bits.{bit_and}
use Rattle.std.specs.Int.Count.{ones, ones_in}
use Rattle.base_laws.specs.Bools.{clash, and_both, and_left, or-holds, of_not_true}
use Rattle.base_laws.specs.Definitions.{all_below, any_below, count_below, count, minus, subset}
use Rattle.base_laws.specs.Below.{all_at}
use Rattle.base_laws.specs.Masks.{subset_le}
use Rattle.base_laws.proofs.Masks.{and_subset_right, count_subset}
use Rattle.base_sum_laws.specs.Definitions.{sum_below, list_from, list_before}
use Rattle.base_sum_laws.specs.Lists.{before_self, before_both}
use Rattle.settings_values.specs.Definitions.{subgroup, need, cap}
use Rattle.message_format.specs.Definitions.{shard_apart}
use Rattle.place_groups.specs.Definitions.{meets_set, sets_in, shard_valid, group_valid_at, group_valid, group_moves_at, group_moves, group_stays_at, group_stays, LeastMoves, of_group, nodes_in, Sooner, Chosen}
use Rattle.place_groups.specs.Chosen.{is_shard, nodes_tell}
use Rattle.history_cases.specs.Clauses.{one_shard, two_groups, pair_of_masks}

pub record ChoiceClauses : Type 0 where
  -- the nodes of a mask ascend
  pub ascending : nodes_in 50 ≡ 1 ∷ 4 ∷ 5 ∷ []
  pub last_listed : nodes_in (2 ^ 31) ≡ 31 ∷ []
  -- the smaller node comes first, at the first place that differs
  pub smaller_node : list_before (0 ∷ 3 ∷ []) (1 ∷ 2 ∷ []) ≡ true
  pub larger_node : list_before (1 ∷ 2 ∷ []) (0 ∷ 3 ∷ []) ≡ false
  pub next-place : list_before (0 ∷ 2 ∷ []) (0 ∷ 3 ∷ []) ≡ true
  -- a proper prefix is the smaller, and no list comes before itself
  pub prefix : list_before (0 ∷ []) (0 ∷ 1 ∷ []) ≡ true
  pub longer : list_before (0 ∷ 1 ∷ []) (0 ∷ []) ≡ false
  pub nothing : list_before [] (0 ∷ []) ≡ true
  pub itself : list_before (0 ∷ 1 ∷ []) (0 ∷ 1 ∷ []) ≡ false
  -- the order of lists is not that of masks: nodes 0 and 5 come before 1 and 2, and the greater mask too
  pub not_by_mask : list_before (nodes_in 33) (nodes_in 6) ≡ true
  -- the lowest shard that differs decides, whatever a higher one says
  pub lower_shard : Sooner (is_shard two_groups) (pair_of_masks 1 4) (pair_of_masks 2 1)
  -- in a subgroup its own shards do
  pub own_shard : Sooner (of_group two_groups 3) (pair_of_masks 4 1) (pair_of_masks 1 4)

-- shard 0 of the two is not of subgroup 3
below_own : (s : ℕ) → s < 1 → of_group two_groups 3 s ≡ true → nodes_in (pair_of_masks 4 1 s) ≡ nodes_in (pair_of_masks 1 4 s)
unfolding of_group
below_own s l o =
    let z : s ≡ 0 = omega arith in
    let h : of_group two_groups 3 0 ≡ true = subst (λ (i : ℕ). of_group two_groups 3 i ≡ true) z o in
    clash h refl

pub choice_clauses : ChoiceClauses
unfolding list_from list_before nodes_in is_shard of_group
choice_clauses =
    record {
      ascending = refl;
      last_listed = refl;
      smaller_node = refl;
      larger_node = refl;
      next-place = refl;
      prefix = refl;
      longer = refl;
      nothing = refl;
      itself = refl;
      not_by_mask = refl;
      lower_shard = record { shard = 0; picked = refl; alike = λ s l o. absurd (omega arith); smaller = refl };
      own_shard = record { shard = 1; picked = refl; alike = below_own; smaller = refl };
    }

-- ---- ties: four nodes of four sets, one shard that needs two; node 2 was its only member, and all are held

-- of the masks that fit with at most one move 5, nodes 0 and 2, is first
tied : ℕ → Bool
tied m = not (shard_valid one_shard 15 (λ i. m) 0 && leb (count (minus m 4)) 1) || (list_before (nodes_in 5) (nodes_in m) || eqb m 5)

tied-test : all_below 16 tied ≡ true
unfolding tied all_below ones ones_in any_below count_below cap meets_set sets_in shard_valid list_from list_before nodes_in
tied-test = refl

-- and none fits without a move
moving-test : all_below 16 (λ m. not (shard_valid one_shard 15 (λ i. m) 0) || leb 1 (count (minus m 4))) ≡ true
unfolding all_below ones ones_in any_below count_below cap meets_set sets_in shard_valid
moving-test = refl

-- what a placement of the one shard says of its mask
tie_fits : (P : ℕ → ℕ) → group_valid one_shard 15 P 0 ≡ true → shard_valid one_shard 15 (λ i. P 0) 0 ≡ true
unfolding all_below shard_valid group_valid_at group_valid
tie_fits P v = and_left (shard_valid one_shard 15 P 0) true v

tie_small : (P : ℕ → ℕ) → group_valid one_shard 15 P 0 ≡ true → P 0 < 16
unfolding shard_valid
tie_small P v =
    let inside = and_left (subset (P 0) 15) (leb (count (P 0)) (cap one_shard 0))
    (and_left (subset (P 0) 15 && leb (count (P 0)) (cap one_shard 0)) (leb (need one_shard 0) (sets_in one_shard (P 0))) (tie_fits P v)) in
    omega (arith, subset_le (P 0) 15 inside)

tie_moves : (P : ℕ → ℕ) → group_moves one_shard (λ s. 4) P 0 ≡ count (minus (P 0) 4)
unfolding sum_below group_moves group_moves_at
tie_moves P = omega arith

tie_five : group_moves one_shard (λ s. 4) (λ s. 5) 0 ≡ 1
unfolding ones ones_in sum_below group_moves group_moves_at
tie_five = refl

tie_stays : (P : ℕ → ℕ) → group_stays one_shard (λ s. 4) P 0 ≡ count (bit_and (P 0) 4)
unfolding sum_below group_stays group_stays_at
tie_stays P = omega arith

tie_one_stays : group_stays one_shard (λ s. 4) (λ s. 5) 0 ≡ 1
unfolding ones ones_in sum_below group_stays group_stays_at
tie_one_stays = refl

tie_one : count 4 ≡ 1
unfolding ones ones_in
tie_one = refl

-- nodes 0 and 2 have least moves
tie_least : LeastMoves one_shard 15 (λ s. 4) (λ s. 5) 0
unfolding all_below ones ones_in any_below count_below cap meets_set sets_in shard_valid group_valid_at group_valid shard_apart
tie_least = record { valid = refl; least = λ other v. omega (arith, tie_five, tie_moves other, moving other v) }
  where
    moving : (P : ℕ → ℕ) → group_valid one_shard 15 P 0 ≡ true → 1 ≤ count (minus (P 0) 4)
    moving P v =
        ⊎_elim (λ n. clash (tie_fits P v) (of_not_true (shard_valid one_shard 15 (λ i. P 0) 0) n)) (λ y. leb-true 1 (count (minus (P 0) 4)) y)
        (or-holds (not (shard_valid one_shard 15 (λ i. P 0) 0)) (leb 1 (count (minus (P 0) 4)))
        (all_at 16 (λ m. not (shard_valid one_shard 15 (λ i. m) 0) || leb 1 (count (minus m 4))) moving-test (P 0) (tie_small P v)))

tie_ours : of_group one_shard 0 0 ≡ true
unfolding of_group
tie_ours = refl

tie_shard : (s : ℕ) → of_group one_shard 0 s ≡ true → s ≡ 0
unfolding of_group
tie_shard s o = let l = ltb-true s 1 (and_left (ltb s 1) (eqb (subgroup one_shard s) 0) o) in omega arith

-- nodes 0 and 2, 1 and 2, 2 and 3 move one node each: the first is chosen
pub tie : (P : ℕ → ℕ) → Chosen one_shard 15 (λ s. 4) P 0 → P 0 ≡ 5
unfolding tied
tie P c = ⊎_elim (λ e. nodes_tell (P 0) 5 (omega (arith, tie_small P c.least.valid)) (omega arith) (e.alike 0 tie_ours)) (λ f. absurd (sooner f)) (c.first (λ s. 5) tie_least staying)
  where
    staying : group_stays one_shard (λ s. 4) (λ s. 5) 0 ≡ group_stays one_shard (λ s. 4) P 0
    staying = omega (arith, c.most (λ s. 5) tie_least, tie_one_stays, tie_stays P, count_subset (bit_and (P 0) 4) 4 (and_subset_right (P 0) 4), tie_one)

    few : leb (count (minus (P 0) 4)) 1 ≡ true
    few = le-leb (count (minus (P 0) 4)) 1 (omega (arith, c.least.least (λ s. 5) tie_least.valid, tie_moves P, tie_five))

    told : (list_before (nodes_in 5) (nodes_in (P 0)) || eqb (P 0) 5) ≡ true
    told =
        ⊎_elim
        (λ n. clash (and_both (tie_fits P c.least.valid) few) (of_not_true (shard_valid one_shard 15 (λ i. P 0) 0 && leb (count (minus (P 0) 4)) 1) n))
        (λ y. y)
        (or-holds (not (shard_valid one_shard 15 (λ i. P 0) 0 && leb (count (minus (P 0) 4)) 1)) (list_before (nodes_in 5) (nodes_in (P 0)) || eqb (P 0) 5)
        (all_at 16 tied tied-test (P 0) (tie_small P c.least.valid)))

    sooner : Sooner (of_group one_shard 0) P (λ s. 5) → ⊥
    sooner f =
        let z : f.shard ≡ 0 = tie_shard f.shard f.picked in
        let b : list_before (nodes_in (P 0)) (nodes_in 5) ≡ true = subst (λ (s : ℕ). list_before (nodes_in (P s)) (nodes_in 5) ≡ true) z f.smaller in
        ⊎_elim (λ a. before_both (nodes_in 5) (nodes_in (P 0)) a b)
        (λ a. before_self (nodes_in 5) (subst (λ (m : ℕ). list_before (nodes_in m) (nodes_in 5) ≡ true) (eqb-true (P 0) 5 a) b))
        (or-holds (list_before (nodes_in 5) (nodes_in (P 0))) (eqb (P 0) 5) told)
