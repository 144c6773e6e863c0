-- What the placement sheet says of subgroup g, in document 01's own terms: it is a sheet of the subgroup's case, its zeros are the failure
-- sets of a shard's held old members, and no valid placement of g has fewer moves than the floor.
use Rattle.std.specs.Prelude.{◌≡◌, Bool, true, ◌&&◌, List, eqb}
use Rattle.std.proofs.Common.{sym, ap₂, ◌∙◌, subst, arith}
use Rattle.std.proofs.Math.Path.{ap}
use Rattle.std.proofs.Math.Bool.{cond}
use Rattle.std.proofs.Math.Logic.{⊎_elim}
use Prim.Native.Nat.{ℕ, ◌-◌, ◌^◌, ◌≤◌, ◌<◌, min}
use Rattle.base_laws.specs.Bools.{either, and_left, and_right, lt_or_le}
use Rattle.base_laws.specs.Definitions.{has}
use Rattle.base_laws.specs.Masks.{has_below}
use Rattle.base_sum_laws.specs.Sums.{sum_cong, sum_past}
use Rattle.settings_values.specs.Definitions.{nodes, shards, subgroup, Settings}
use Rattle.search_laws.specs.Floor.{SheetFor, entry_of, lack_at, floor_of}
use Rattle.search_laws.proofs.Floor.{priced_floor}
use Rattle.place_groups.specs.Definitions.{group_valid, group_moves, of_group}
use Rattle.place_groups.specs.Sheet.{sheet_at, sheet_of}
use Rattle.place_groups.proofs.Laws.{sheet_entry, held_entry, member_entry}
use Rattle.place_laws.specs.Cases.{set_in, cost_in, group_shard, group_past, group_is, need-of, need_none, set_held, set_small, move_cost, move_least, cost_held, cost_allowed}
use Rattle.place_laws.specs.Owners.{owner}
use Rattle.place_laws.proofs.Owners.{from_masks, from_moves}
use Rattle.place_laws.specs.Tables.{group_case, cost_at}
use Rattle.place_laws.proofs.Tables.{case_for, case_priced}
use Rattle.place_laws.specs.Definitions.{lacking}
use Rattle.place_laws.specs.Floor.{group_floor, zeros_are}

module _ (σ : List ℕ) (held : ℕ) (old : ℕ → ℕ) (g : ℕ) (right : Settings σ) (inside : held < 2 ^ nodes σ) where
  -- where an entry is 2, no node of its set is held
  entry_shuts : (s n : ℕ) → (of_group σ g s && has held n) ≡ true → sheet_at σ held old s (set_in σ n) < 2
  entry_shuts s n e =
      let l : s < shards σ = group_shard σ g s (and_left (of_group σ g s) (has held n) e) in
      let p : has held n ≡ true = and_right (of_group σ g s) (has held n) e in
      rw (set_held σ held n inside p) (held_entry σ held old right s l n (has_below held (nodes σ) n inside p) p)

  -- where it is 1, none of them was a member
  entry_stays_in : (s n : ℕ) → (of_group σ g s && has held n) ≡ true → has (old s) n ≡ true → sheet_at σ held old s (set_in σ n) < 1
  entry_stays_in s n e q =
      let l : s < shards σ = group_shard σ g s (and_left (of_group σ g s) (has held n) e) in
      let p : has held n ≡ true = and_right (of_group σ g s) (has held n) e in
      rw (set_held σ held n inside p) (member_entry σ held old right s l n (has_below held (nodes σ) n inside p) p q)

  -- so a pair there is not allowed, or costs something
  cost_shut : (s n : ℕ) → 2 ≤ sheet_at σ held old s (set_in σ n) → 255 ≤ cost_in σ held old g s n
  cost_shut s n h =
      ⊎_elim (λ c. absurd (omega (arith, entry_shuts s n (cost_allowed σ held old g s n c)))) (λ c. c) (lt_or_le (cost_in σ held old g s n) 255)

  cost_moved : (s n : ℕ) → 1 ≤ sheet_at σ held old s (set_in σ n) → 1 ≤ cost_in σ held old g s n
  cost_moved s n h = ⊎_elim (λ c. absurd (free c)) (λ c. c) (lt_or_le (cost_in σ held old g s n) 1)
    where
      free : cost_in σ held old g s n < 1 → ⊥
      free c =
          let e : (of_group σ g s && has held n) ≡ true = cost_allowed σ held old g s n (omega arith) in
          ⊎_elim (λ q. omega (arith, entry_stays_in s n e q)) (λ q. omega (arith, cost_held σ held old g s n e ∙ ap (λ (b : Bool). cond b 0 (move_cost σ g)) q, move_least σ g)) (either (has (old s) n))

  -- the sheet is one of the subgroup's case
  pub sheet_for : SheetFor (group_case σ held old g) (sheet_of σ held old)
  sheet_for =
      record {
        shut = λ s n l k h. subst (λ (c : ℕ). 255 ≤ c) (sym (cost_at σ held old g s n l k)) (cost_shut s n (subst (λ (e : ℕ). 2 ≤ e) (entry_at s n l k) h));
        moved = λ s n l k h. subst (λ (c : ℕ). 1 ≤ c) (sym (cost_at σ held old g s n l k)) (cost_moved s n (subst (λ (e : ℕ). 1 ≤ e) (entry_at s n l k) h));
      }
    where
      entry_at : (s n : ℕ) → s < 16 → n < 32 → entry_of (sheet_of σ held old) s ((group_case σ held old g).set_of n) ≡ sheet_at σ held old s (set_in σ n)
      entry_at s n l k = ap (entry_of (sheet_of σ held old) s) ((case_for σ held old g right).sets n k) ∙ sheet_entry σ held old s (set_in σ n) l (set_small σ n right)

  -- the sheet's floor is that of the masks
  pub floor_is : floor_of (group_case σ held old g) (sheet_of σ held old) ≡ group_floor σ held old g
  unfolding floor_of lack_at group_floor lacking
  floor_is =
      sum_cong 16 (lack_at (group_case σ held old g) (sheet_of σ held old)) (λ s. cond (of_group σ g s) (lacking σ held old s) 0) (λ s l. at s l)
      ∙ (sum_past (shards σ) 16 (λ s. cond (of_group σ g s) (lacking σ held old s) 0) right.sizes.shards_to
      (λ s p q. ap (λ (b : Bool). cond b (lacking σ held old s) 0) (group_past σ g s p))
      ∙ sum_cong (shards σ) (λ s. cond (of_group σ g s) (lacking σ held old s) 0) (λ s. cond (eqb (subgroup σ s) g) (lacking σ held old s) 0)
      (λ s l. ap (λ (b : Bool). cond b (lacking σ held old s) 0) (group_is σ g s l)))
    where
      at : (s : ℕ) → s < 16 → lack_at (group_case σ held old g) (sheet_of σ held old) s ≡ cond (of_group σ g s) (lacking σ held old s) 0
      at s l =
          ⊎_elim
          (λ o. rw o (ap₂ (λ (a b : ℕ). a - min a b) ((case_for σ held old g right).needs s l ∙ need-of σ g s o) (zeros_are σ held old right s (group_shard σ g s o))))
          (λ o. rw o (let a : (group_case σ held old g).need s ≡ 0 = (case_for σ held old g right).needs s l ∙ need_none σ g s o in omega arith))
          (either (of_group σ g s))

  -- no valid placement of the subgroup has fewer moves
  pub floor_least : (masks : ℕ → ℕ) → group_valid σ held masks g ≡ true → group_floor σ held old g ≤ group_moves σ old masks g
  floor_least masks v =
      omega (
        arith,
        floor_is,
        priced_floor (λ n l. subst (λ (f : ℕ). f < 16) (sym ((case_for σ held old g right).sets n l)) (set_small σ n right)) sheet_for (case_priced σ held old g)
            (owner σ g masks) (from_masks right inside (case_for σ held old g right) masks v),
        from_moves right inside (case_for σ held old g right) old masks v,
      )
