-- Cases of caps. A shard that needs members from two sets and had four keeps all four. Of three shards one lacks a member: it gets one of those
-- whose shard keeps another, and where moves and stays are equal the shorter list, a prefix of the other, decides whose.
use Rattle.std.specs.Prelude.{ℕ, ◌<◌, ◌≤◌, true, not, ◌&&◌, ◌||◌, List, ◌⊎◌, ◌≡◌, refl, leb, ltb}
use Rattle.std.proofs.Math.Bool.{Bool, cond}
use Rattle.std.proofs.Math.Logic.{inl, inr, ⊎_elim}
use Rattle.std.proofs.Common.{sym, ◌∙◌, arith}
use Rattle.std.proofs.Math.Path.{ap, subst}
use Rattle.std.specs.Int.Bits.{bit_and}
use Rattle.std.specs.Int.Count.{ones, ones_in}
use Rattle.std.proofs.Math.Dec.{eqb}
use borrow.Author.Tests.{eqb-true, eq-eqb, le-leb, lt-ltb, ltb-true}
use Rattle.base_laws.specs.Bools.{clash, and_both, and_left, and_right, or-holds, of_not_true}
use Rattle.base_laws.specs.Definitions.{all_below, any_below, count_below, count, minus, subset}
use Rattle.base_laws.specs.Below.{all_at}
use Rattle.base_laws.specs.Masks.{subset_le}
use Rattle.base_laws.proofs.Masks.{and_subset_right, count_subset}
use Rattle.base_sum_laws.specs.Definitions.{sum_below, list_before}
use Rattle.base_sum_laws.specs.Sums.{sum_cong}
use Rattle.settings_values.specs.Definitions.{shards, subgroup, need, cap}
use Rattle.message_format.specs.Definitions.{shard_apart}
use Rattle.place_groups.specs.Definitions.{meets_set, sets_in, shard_valid, group_valid_at, group_valid, group_moves_at, group_moves, group_stays_at, group_stays, LeastMoves, of_group, nodes_in, NotLater, Chosen}
use Rattle.place_groups.specs.Chosen.{decided_at}
use Rattle.history_cases.specs.Placed.{three, everywhere, OneGroup, placed_at, one_group}
use Rattle.history_cases.specs.Caps.{cap_of_four, four_move, four_stay, not_after, no_better, prefix_settings, prefix_moves, prefix_stays, prefix-test}

four_valid : group_valid cap_of_four 15 (λ s. 15) 0 ≡ true
unfolding all_below any_below ones ones_in count_below cap meets_set sets_in shard_valid shard_apart group_valid_at group_valid
four_valid = refl

-- what a placement of the one shard says of its mask
four_small : (P : ℕ → ℕ) → group_valid cap_of_four 15 P 0 ≡ true → P 0 < 16
unfolding all_below shard_valid group_valid_at group_valid
four_small P v =
    let fits = leb (count (P 0)) (cap cap_of_four 0) in
    let many = leb (need cap_of_four 0) (sets_in cap_of_four (P 0)) in
    omega (arith, subset_le (P 0) 15 (and_left (subset (P 0) 15) fits (and_left (subset (P 0) 15 && fits) many (and_left (shard_valid cap_of_four 15 P 0) true v))))

four_stays : (P : ℕ → ℕ) → group_stays cap_of_four (λ s. 15) P 0 ≡ count (bit_and (P 0) 15)
unfolding sum_below group_stays group_stays_at
four_stays P = omega arith

-- a mask of which four stay is all four
all_four : all_below 16 (λ m. not (leb 4 (count (bit_and m 15))) || eqb m 15) ≡ true
unfolding all_below ones ones_in
all_four = refl

four_only : (P : ℕ → ℕ) → group_valid cap_of_four 15 P 0 ≡ true → 4 ≤ group_stays cap_of_four (λ s. 15) P 0 → P 0 ≡ 15
four_only P v l =
    ⊎_elim (λ n. clash (le-leb 4 (count (bit_and (P 0) 15)) (subst (λ (k : ℕ). 4 ≤ k) (four_stays P) l)) (of_not_true (leb 4 (count (bit_and (P 0) 15))) n))
    (λ e. eqb-true (P 0) 15 e)
    (or-holds (not (leb 4 (count (bit_and (P 0) 15)))) (eqb (P 0) 15) (all_at 16 (λ m. not (leb 4 (count (bit_and m 15))) || eqb m 15) all_four (P 0) (four_small P v)))

fifteen : count 15 ≡ 4
unfolding ones ones_in
fifteen = refl

-- all four are chosen
pub four_chosen : Chosen cap_of_four 15 (λ s. 15) (λ s. 15) 0
unfolding of_group
four_chosen =
    record {
      least = record { valid = four_valid; least = λ other v. omega (arith, four_move) };
      most = λ other l. omega (arith, four_stay, four_stays other, fifteen, count_subset (bit_and (other 0) 15) 15 (and_subset_right (other 0) 15));
      first = λ other l e. inl (record { alike = λ s o. ap nodes_in (at other s (ltb-true s 1 (and_left (ltb s 1) (eqb (subgroup cap_of_four s) 0) o)) (four_only other l.valid (omega (arith, e, four_stay)))) });
    }
  where
    at : (P : ℕ → ℕ) (s : ℕ) → s < 1 → P 0 ≡ 15 → 15 ≡ P s
    at P s l e = let z : s ≡ 0 = omega arith in sym (ap P z ∙ e)

-- and nothing else is
pub four_kept : (P : ℕ → ℕ) → Chosen cap_of_four 15 (λ s. 15) P 0 → P 0 ≡ 15
four_kept P c = four_only P c.least.valid (omega (arith, c.most (λ s. 15) four_chosen.least, four_stay))

better_told : (few many m s : ℕ) (r : Bool) → no_better few many m s r ≡ true
    → (few < m) ⊎ ((m ≡ few) × ((s < many) ⊎ ((s ≡ many) × (r ≡ true))))
unfolding no_better
better_told few many m s r h =
    ⊎_elim (λ l. inl (ltb-true few m l))
    (λ e.
    let rest = ltb s many || (eqb s many && r) in
    inr (
      eqb-true m few (and_left (eqb m few) rest e),
      ⊎_elim (λ l. inl (ltb-true s many l)) (λ k. inr (eqb-true s many (and_left (eqb s many) r k), and_right (eqb s many) r k))
          (or-holds (ltb s many) (eqb s many && r) (and_right (eqb m few) rest e)),
    ))
    (or-holds (ltb few m) (eqb m few && (ltb s many || (eqb s many && r))) h)

module _ (σ : List ℕ) (old : ℕ → ℕ) (held : ℕ) (one : OneGroup σ) where
  same_at : (P : ℕ → ℕ) (s : ℕ) → s < shards σ → P s ≡ three (P 0) (P 1) (P 2) s
  same_at P s l = one_group s (λ n. P n ≡ three (P 0) (P 1) (P 2) n) refl refl refl (subst (λ (n : ℕ). s < n) one.all l)

  -- moves and stays depend on the three masks
  moves_of : (P : ℕ → ℕ) → group_moves σ old P 0 ≡ group_moves σ old (three (P 0) (P 1) (P 2)) 0
  unfolding group_moves group_moves_at
  moves_of P =
      sum_cong (shards σ) (group_moves_at σ old P 0) (group_moves_at σ old (three (P 0) (P 1) (P 2)) 0)
      (λ s l. ap (λ (m : ℕ). cond (eqb (subgroup σ s) 0) (count (minus m (old s))) 0) (same_at P s l))

  stays_of : (P : ℕ → ℕ) → group_stays σ old P 0 ≡ group_stays σ old (three (P 0) (P 1) (P 2)) 0
  unfolding group_stays group_stays_at
  stays_of P =
      sum_cong (shards σ) (group_stays_at σ old P 0) (group_stays_at σ old (three (P 0) (P 1) (P 2)) 0)
      (λ s l. ap (λ (m : ℕ). cond (eqb (subgroup σ s) 0) (count (bit_and m (old s))) 0) (same_at P s l))

  ours : (s : ℕ) → s < 3 → of_group σ 0 s ≡ true
  unfolding of_group
  ours s l = and_both (lt-ltb s (shards σ) (subst (λ (n : ℕ). s < n) (sym one.all) l)) (eq-eqb (subgroup σ s) 0 (one.group s l))

  ours_below : (s : ℕ) → of_group σ 0 s ≡ true → s < 3
  unfolding of_group
  ours_below s o = subst (λ (n : ℕ). s < n) one.all (ltb-true s (shards σ) (and_left (ltb s (shards σ)) (eqb (subgroup σ s) 0) o))

  module _ (x y z : ℕ) where
    -- the test of the order says what the order asks
    not-after : (P : ℕ → ℕ) → not_after x y z (P 0) (P 1) (P 2) ≡ true → NotLater (of_group σ 0) (three x y z) P
    unfolding not_after
    not-after P h =
        ⊎_elim (λ l. inr (decided_at 0 (ours 0 (omega arith)) (λ t k o. absurd (omega arith)) l))
        (λ e.
        let a = eqb-true x (P 0) (and_left (eqb x (P 0)) second e) in
        ⊎_elim (λ l. inr (decided_at 1 (ours 1 (omega arith)) (λ t k o. at_0 a t k) l))
        (λ d.
        let b = eqb-true y (P 1) (and_left (eqb y (P 1)) third d) in
        ⊎_elim (λ l. inr (decided_at 2 (ours 2 (omega arith)) (λ t k o. at_1 a b t k) l))
        (λ c. inl (record { alike = λ s o. ap nodes_in (one_group s (λ n. three x y z n ≡ P n) a b (eqb-true z (P 2) c) (ours_below s o)) }))
        (or-holds (list_before (nodes_in z) (nodes_in (P 2))) (eqb z (P 2)) (and_right (eqb y (P 1)) third d)))
        (or-holds (list_before (nodes_in y) (nodes_in (P 1))) (eqb y (P 1) && third) (and_right (eqb x (P 0)) second e)))
        (or-holds (list_before (nodes_in x) (nodes_in (P 0))) (eqb x (P 0) && second) h)
      where
        third : Bool
        third = list_before (nodes_in z) (nodes_in (P 2)) || eqb z (P 2)

        second : Bool
        second = list_before (nodes_in y) (nodes_in (P 1)) || (eqb y (P 1) && third)

        at_0 : x ≡ P 0 → (t : ℕ) → t < 1 → three x y z t ≡ P t
        at_0 a t k = let e : t ≡ 0 = omega arith in subst (λ (n : ℕ). three x y z n ≡ P n) (sym e) a

        at_1 : x ≡ P 0 → y ≡ P 1 → (t : ℕ) → t < 2 → three x y z t ≡ P t
        at_1 a b t k = one_group t (λ n. n < 2 → three x y z n ≡ P n) (λ l. a) (λ l. b) (λ l. absurd (omega arith)) (omega arith) k

    module _ (few many : ℕ) (valid : group_valid σ held (three x y z) 0 ≡ true) (moves : group_moves σ old (three x y z) 0 ≡ few)
        (stays : group_stays σ old (three x y z) 0 ≡ many)
        (test : everywhere σ held
        (λ a b c. no_better few many (group_moves σ old (three a b c) 0) (group_stays σ old (three a b c) 0) (not_after x y z a b c))
        ≡ true) where
      told : (P : ℕ → ℕ) → group_valid σ held P 0 ≡ true
          → (few < group_moves σ old P 0)
          ⊎ ((group_moves σ old P 0 ≡ few)
          × ((group_stays σ old P 0 < many) ⊎ ((group_stays σ old P 0 ≡ many) × (not_after x y z (P 0) (P 1) (P 2) ≡ true))))
      told P v =
          better_told few many (group_moves σ old P 0) (group_stays σ old P 0) (not_after x y z (P 0) (P 1) (P 2))
          (rw (moves_of P, stays_of P)
          (placed_at σ held (λ a b c. no_better few many (group_moves σ old (three a b c) 0) (group_stays σ old (three a b c) 0) (not_after x y z a b c)) test one P v))

      fewest : LeastMoves σ held old (three x y z) 0
      fewest = record { valid = valid; least = λ other v. ⊎_elim (λ l. omega (arith, moves)) (λ e. omega (arith, moves, e.0)) (told other v) }

      -- the placement is the chosen one
      chosen_by : Chosen σ held old (three x y z) 0
      chosen_by =
          record {
            least = fewest;
            most = λ other l.
                ⊎_elim (λ m. absurd (omega (arith, moves, l.least (three x y z) valid)))
                (λ e. ⊎_elim (λ k. omega (arith, stays)) (λ k. omega (arith, stays, k.0)) e.1) (told other l.valid);
            first = λ other l s.
                ⊎_elim (λ m. absurd (omega (arith, moves, l.least (three x y z) valid)))
                (λ e. ⊎_elim (λ k. absurd (omega (arith, stays, s))) (λ k. not-after other k.1) e.1) (told other l.valid);
          }

prefix_shards : OneGroup prefix_settings
prefix_shards = record { all = refl; group = λ s l. one_group s (λ n. subgroup prefix_settings n ≡ 0) refl refl refl l }

prefix_valid : group_valid prefix_settings 15 (three 1 12 2) 0 ≡ true
unfolding all_below any_below ones ones_in count_below cap meets_set sets_in shard_valid shard_apart group_valid_at group_valid
prefix_valid = refl

-- shard 2 could have node 3 at one move and three stays too, but node 0 alone comes before nodes 0 and 1
pub prefix_chosen : Chosen prefix_settings 15 (three 3 12 0) (three 1 12 2) 0
prefix_chosen = chosen_by prefix_settings (three 3 12 0) 15 prefix_shards 1 12 2 1 3 prefix_valid prefix_moves prefix_stays prefix-test
