-- Rounds that are enough: a subgroup's first placement of least moves is where 32 rounds or more end, with at most 32 of them used.
use Rattle.std.specs.Prelude.{◌≡◌, Bool, ◌&&◌, List, ℕ, ◌+◌, ◌^◌, ◌≤◌, ◌<◌}
use Rattle.std.proofs.Common.{sym, inr, ⊎_elim, arith}
use Rattle.std.proofs.Math.Path.{subst}
use Rattle.std.proofs.Math.Bool.{true, false, cond}
use Rattle.base_laws.specs.Bools.{lt_or_le}
use Rattle.base_laws.specs.Definitions.{any_below, has}
use Rattle.settings_values.specs.Definitions.{nodes, Settings}
use Rattle.place_groups.specs.Definitions.{group_valid, group_moves, Impossible, LowestUnplaced, of_group}
use Rattle.place_groups.proofs.Chosen.{not_later_both}
use Rattle.search_laws.specs.Case.{Case, Valid, WeighsWithin, LeastWeight, weight}
use Rattle.search_laws.specs.Tables.{owners_of}
use Rattle.search_laws.specs.Order.{First, HasNone}
use Rattle.search_laws.specs.Floor.{SheetFor}
use Rattle.search_total.specs.declared.Solution.{Solution}
use Rattle.search_total.specs.Post.{LeastAnswer}
use Rattle.search_rounds.specs.Post.{Fewer}
use Rattle.search_rounds.specs.Exists.{AllRounds, first_or_none, first_own, rounds_to_the_end}
use Rattle.place_groups.specs.Sheet.{sheet_of}
use Rattle.place_laws.specs.Cases.{move_cost, price_in, cost_in, CaseFor}
use Rattle.place_laws.proofs.Cases.{move_most}
use Rattle.place_laws.specs.Tables.{cost_at}
use Rattle.place_laws.specs.Local.{AlikeInGroup}
use Rattle.place_laws.specs.Owners.{owner}
use Rattle.place_laws.proofs.Owners.{masks_valid, moves_small, from_masks, impossible}
use Rattle.place_laws.specs.Choice.{same_masks}
use Rattle.place_laws.proofs.Choice.{first_by_masks}
use Rattle.place_laws.specs.Definitions.{masks_of}
use Rattle.place_laws.specs.Adding.{masks_with}
use Rattle.place_laws.specs.Floor.{group_floor}
use Rattle.place_laws.proofs.Floor.{sheet_for}
use Rattle.place_rounds.specs.Definitions.{FirstValid}
use Rattle.place_rounds.specs.Owners.{CountsMoves, owned_masks, owned_masked, weight_moves, weight_from, none_lighter}
use Rattle.place_rounds.specs.Tables.{round_case, round_cost, round-case, counts_moves}
use Rattle.place_rounds.specs.Parts.{none_local, rounds_to}
use Rattle.place_rounds.specs.Turns.{steps_valid, steps_rounds, reached_none, turns_none, moved_fits, turns_more}
use Rattle.place_rounds.specs.Post.{OwnersReached, OwnersEnded, EndedSoFar}

module _ (σ : List ℕ) (held : ℕ) (old : ℕ → ℕ) (g : ℕ) (right : Settings σ) (inside : held < 2 ^ nodes σ) where
  -- the sheet is one of the case where a move costs 1
  pub sheet_round : SheetFor (round_case σ held old g 1) (sheet_of σ held old)
  unfolding cost_in
  sheet_round =
      let s = sheet_for σ held old g right inside in
      record {
        shut = λ i n l k h. subst (λ (c : ℕ). 255 ≤ c) (sym (round_cost σ held old g 1 right i n l k))
            (never (of_group σ g i && has held n) (has (old i) n) (subst (λ (c : ℕ). 255 ≤ c) (cost_at σ held old g i n l k) (s.shut i n l k h)));
        moved = λ i n l k h. subst (λ (c : ℕ). 1 ≤ c) (sym (round_cost σ held old g 1 right i n l k))
            (some (of_group σ g i && has held n) (has (old i) n) (subst (λ (c : ℕ). 1 ≤ c) (cost_at σ held old g i n l k) (s.moved i n l k h)));
      }
    where
      never : (a b : Bool) → 255 ≤ cond a (cond b 0 (move_cost σ g)) 255 → 255 ≤ cond a (cond b 0 1) 255
      never true true h = h
      never true false h = absurd (omega (arith, move_most σ g right))
      never false b h = h

      some : (a b : Bool) → 1 ≤ cond a (cond b 0 (move_cost σ g)) 255 → 1 ≤ cond a (cond b 0 1) 255
      some true true h = h
      some true false h = omega arith
      some false b h = h

-- one subgroup, by a case that counts moves
module _ {σ : List ℕ} {held g : ℕ} (old : ℕ → ℕ) {K : Case} (stands : CaseFor σ held g K) (right : Settings σ) (inside : held < 2 ^ nodes σ)
    (counted : CountsMoves K (price_in old)) where
  -- no valid placement weighs more than 32
  light : (y : ℕ → ℕ) → Valid K y → weight K y ≤ 32
  light y v = omega (arith, weight_moves stands right inside old counted (owned_masked σ g y) v, moves_small right inside stands (owned_masked σ g y) v old)

  first_of_all : {y : ℕ → ℕ} → First (WeighsWithin K 32) y → FirstValid σ held (owned_masks y) g
  first_of_all {y} f =
      record {
        valid = masks_valid right inside stands (owned_masked σ g y) f.is.valid;
        first = λ other v.
            let w = from_masks right inside stands other v in
            first_by_masks stands right inside (owned_masked σ g y) f.is.valid f other v (record { valid = w; cheap = light (owner σ g other) w });
      }

  -- where none is lighter than e, and e is the first of its weight, it is the first of least weight
  same_end : {e z : ℕ → ℕ} → First (WeighsWithin K (weight K e)) e → HasNone (Fewer K e) → First (LeastWeight K) z → AlikeInGroup σ g (owned_masks e) (owned_masks z)
  same_end {e} {z} f none l =
      record {
        at = same_masks right inside g ours theirs
            (not_later_both
            (first_by_masks stands right inside (owned_masked σ g e) f.is.valid f (owned_masks z) theirs
            (record {
              valid = from_masks right inside stands (owned_masks z) theirs;
              cheap = omega (arith, weight_from stands right inside old counted (owned_masks z) theirs, weight_moves stands right inside old counted (owned_masked σ g z) l.is.valid, l.is.least e f.is.valid);
            }))
            (first_by_masks stands right inside (owned_masked σ g z) l.is.valid l (owned_masks e) ours
            (record {
              valid = from_masks right inside stands (owned_masks e) ours;
              least = λ y v. omega (arith, weight_from stands right inside old counted (owned_masks e) ours, weight_moves stands right inside old counted (owned_masked σ g e) f.is.valid, lowest y v);
            })));
      }
    where
      ours : group_valid σ held (owned_masks e) g ≡ true
      ours = masks_valid right inside stands (owned_masked σ g e) f.is.valid

      theirs : group_valid σ held (owned_masks z) g ≡ true
      theirs = masks_valid right inside stands (owned_masked σ g z) l.is.valid

      lowest : (y : ℕ → ℕ) → Valid K y → weight K e ≤ weight K y
      lowest y v = ⊎_elim (λ q. absurd (none.none y (record { valid = v; less = q }))) (λ q. q) (lt_or_le (weight K y) (weight K e))

  pub owners_ended : (o : List ℕ) (floor : ℕ) → First (LeastWeight K) (owners_of o) → floor ≡ group_floor σ held old g → OwnersEnded σ held old g o floor
  owners_ended o floor f low n l =
      ⊎_elim (λ b. from b.0 b.1) (λ b. absurd (b.none (owners_of o) (record { valid = f.is.valid; cheap = light (owners_of o) f.is.valid })))
      (first_or_none K 32)
    where
      from : (y : ℕ → ℕ) → First (WeighsWithin K 32) y → (m : ℕ) × (n ≤ m + 32) × OwnersReached σ held old g n o m floor
      from y b =
          let r : AllRounds K n 32 y = rounds_to_the_end (light y b.is.valid) l (first_own b) in
          let k = same_end r.first r.none f in
          let t = rounds_to (steps_rounds old stands right inside counted b.is.valid r.steps) k (first_of_all b) in (
            r.left,
            r.used,
            record {
              start = t.0;
              first = t.1;
              rounds = t.2;
              ended = inr (none_local k (none_lighter stands right inside old counted (owned_masked σ g r.end) (steps_valid old stands right inside counted b.is.valid r.steps) r.none));
              valid = masks_valid right inside stands (owned_masked σ g (owners_of o)) f.is.valid;
              small = moves_small right inside stands (owned_masked σ g (owners_of o)) f.is.valid old;
              floors = low;
            },
          )

-- the search's answer on the table where a move costs 1
module _ (σ : List ℕ) (held : ℕ) (old : ℕ → ℕ) (g : ℕ) (right : Settings σ) (inside : held < 2 ^ nodes σ) (a : Solution)
    (w : LeastAnswer (round_case σ held old g 1) a) where
  pub never_least : a.exists ≡ false → Impossible σ held g
  never_least e = impossible right inside (round-case σ held old g 1 right (omega arith)) (w.none e)

  pub ended_least : a.exists ≡ true → (floor : ℕ) → floor ≡ group_floor σ held old g → OwnersEnded σ held old g a.owners floor
  ended_least e floor l =
      owners_ended old (round-case σ held old g 1 right (omega arith)) right inside (counts_moves σ held old g right) a.owners floor (w.found e) l

-- a subgroup without shards
pub ended_none : (σ : List ℕ) (held : ℕ) (old : ℕ → ℕ) (g : ℕ) → Settings σ → any_below 16 (of_group σ g) ≡ false → (o : List ℕ) → OwnersEnded σ held old g o 0
ended_none σ held old g right e o n l = (n, omega arith, reached_none σ held old g right e n o)

-- ---- one subgroup more

module _ {σ : List ℕ} {held : ℕ} {old : ℕ → ℕ} {g total floor : ℕ} {masks : List ℕ} (right : Settings σ) (inside : held < 2 ^ nodes σ)
    (st : EndedSoFar σ held old g masks total floor) where
  pub ends_none : g < 4 → Impossible σ held g → LowestUnplaced σ held g
  ends_none l i = turns_none right inside st.2 l i

  module _ {o : List ℕ} {add : ℕ} (u : OwnersEnded σ held old g o add) (l : g < 4) where
    pub ends_fits : {new : List ℕ} {moved : ℕ} → new ≡ masks_with σ g o masks → moved ≡ group_moves σ old (masks_of new) g → moved ≤ 32
    ends_fits e m = let k = u st.0 (omega (arith, st.1)) in moved_fits right inside st.2 k.2 e m

    pub ends_more : {new : List ℕ} {moved : ℕ} → new ≡ masks_with σ g o masks → moved ≡ group_moves σ old (masks_of new) g
        → EndedSoFar σ held old (g + 1) new (total + moved) (floor + add)
    ends_more e m = let k = u st.0 (omega (arith, st.1)) in (k.0, omega (arith, st.1, k.1), turns_more right inside st.2 k.2 l e m)
