-- From one subgroup's search to its masks, and from the subgroups so far to one more.
use Rattle.std.specs.Prelude.{◌≡◌, refl, Bool, true, false, List, ◌⊎◌, ℕ, ◌+◌, ◌-◌, ◌^◌, ◌≤◌, ◌<◌, eqb, get_or, replicate}
use Rattle.std.proofs.Math.Path.{sym, ap}
use Rattle.std.proofs.Common.{◌∙◌, subst, inl, inr, ⊎_elim, arith}
use Rattle.std.proofs.Math.Bool.{cond}
use Rattle.std.proofs.lemmas.List.{length-replicate, get_or-replicate}
use Rattle.std.proofs.Math.ListN.{get_or-eq_default}
use Rattle.base_laws.specs.Bools.{either, clash, lt_or_le, eq_or_ne}
use Rattle.base_laws.specs.Definitions.{any_below}
use Rattle.base_laws.specs.Below.{any_fails}
use Rattle.base_laws.specs.Tables.{get_d_tabulate}
use Rattle.base_sum_laws.specs.Sums.{sum_zero}
use Rattle.base_sum_laws.proofs.Sums.{sum_next, sum_none}
use Rattle.settings_values.specs.Definitions.{nodes, shards, subgroup, Settings}
use Rattle.place_groups.specs.Definitions.{group_valid, group_moves, Impossible, LowestUnplaced, of_group}
use Rattle.search_laws.specs.Case.{Case, Valid, meets, spread}
use Rattle.search_laws.specs.Tables.{case_of, owners_of}
use Rattle.search_total.specs.declared.Solution.{Solution}
use Rattle.search_total.specs.Post.{WithinAnswer}
use Rattle.search_rounds.specs.declared.Improvement.{Improvement}
use Rattle.search_rounds.specs.Post.{Steps, start, more, Low, Weighed, Improved}
use Rattle.place_laws.specs.Cases.{price_in, CaseFor, group_shard, group_past, group_is}
use Rattle.place_laws.specs.Tables.{sets_table, needs_table, caps_table, costs_table}
use Rattle.place_laws.specs.Local.{AlikeInGroup, valid_local, moves_local}
use Rattle.place_laws.specs.Shards.{group_valid_of}
use Rattle.place_laws.proofs.Owners.{masks_valid, moves_small, impossible}
use Rattle.place_laws.specs.Choice.{none_moves}
use Rattle.place_laws.specs.Definitions.{lacking, masks_of}
use Rattle.place_laws.specs.Floor.{group_floor}
use Rattle.place_laws.proofs.Floor.{floor_least}
use Rattle.place_laws.specs.Adding.{owned_by, mask_with, masks_with, with-length}
use Rattle.place_laws.proofs.Adding.{with_masked, with_alike, with_rest, with_total}
use Rattle.place_rounds.specs.Definitions.{FirstValid, NoneFewer, SamePlan, gap_of}
use Rattle.place_rounds.specs.Owners.{CountsMoves, owned_masks, owned_masked, free_weight, first_free, weight_moves, first_lighter, none_lighter, floor_weight}
use Rattle.place_rounds.specs.Tables.{repriced_table, round_case, round-case, counts_moves, counts_nothing}
use Rattle.place_rounds.specs.Parts.{mix, mix_here, mix_own, mix_other, none_local, first_local, none, part_same, part_mixed, part_rounds, part_group, GroupRounds, stays, betters, rounds_used}
use Rattle.place_rounds.specs.Laws.{floor_groups}
use Rattle.place_rounds.specs.Post.{LaidWithin, OwnersReached, ReachedSoFar}

-- ---- one subgroup

module _ {σ : List ℕ} {held g : ℕ} (old : ℕ → ℕ) {K : Case} (stands : CaseFor σ held g K) (right : Settings σ) (inside : held < 2 ^ nodes σ)
    (counted : CountsMoves K (price_in old)) where
  -- a step's end is valid where its start is
  pub steps_valid : {n m : ℕ} {y z : ℕ → ℕ} → Valid K y → Steps K n y m z → Valid K z
  steps_valid v start = v
  steps_valid v (more s f) = f.is.valid

  -- the search's steps are rounds of the subgroup
  pub steps_rounds : {n : ℕ} {y : ℕ → ℕ} {m : ℕ} {z : ℕ → ℕ} → Valid K y → Steps K n y m z → GroupRounds σ held old g n (owned_masks y) m (owned_masks z)
  steps_rounds v start = stays
  steps_rounds v (more {b = x} {c = z} s f) =
      betters (steps_rounds v s) (first_lighter stands right inside old counted (owned_masked σ g x) (steps_valid v s) (owned_masked σ g z) f)

-- equal tables make one case
pub round_tables : (σ : List ℕ) (held : ℕ) (old : ℕ → ℕ) (g w : ℕ) {sets needs caps costs : List ℕ} → sets ≡ sets_table σ → needs ≡ needs_table σ g
    → caps ≡ caps_table σ g → costs ≡ costs_table σ held old g → case_of sets needs caps (repriced_table w costs) 0 ≡ round_case σ held old g w
round_tables σ held old g w p q r t = λ i. case_of (p i) (q i) (r i) (repriced_table w (t i)) 0

module _ (σ : List ℕ) (held : ℕ) (old : ℕ → ℕ) (g : ℕ) (right : Settings σ) (inside : held < 2 ^ nodes σ) where
  one : CaseFor σ held g (round_case σ held old g 1)
  one = round-case σ held old g 1 right (omega arith)

  free : CaseFor σ held g (round_case σ held old g 0)
  free = round-case σ held old g 0 right (omega arith)

  -- no valid placement has less than the floor
  pub low_floor : Low (round_case σ held old g 1) (group_floor σ held old g)
  low_floor = floor_weight one right inside old (counts_moves σ held old g right)

  -- what a move costs is nothing to validity
  valid_either : {z : ℕ → ℕ} → Valid (round_case σ held old g 0) z → Valid (round_case σ held old g 1) z
  unfolding spread meets
  valid_either {z} v =
      record {
        allowed = λ n l k. one.allows (z n) n k l (free.allowed (z n) n k l (v.allowed n l k));
        most = v.most;
        sets = v.sets;
      }

  -- the search with nothing to pay: none, or the first of all
  module _ (a : Solution) (w : WithinAnswer (round_case σ held old g 0) 0 a) where
    pub never_placed : a.exists ≡ false → Impossible σ held g
    never_placed e =
        impossible right inside free
        (record { none = λ y v. (w.none e).none y (record { valid = v; cheap = omega (arith, free_weight (counts_nothing σ held old g right) y v) }) })

    module _ (e : a.exists ≡ true) where
      valid_start : Valid (round_case σ held old g 1) (owners_of a.owners)
      valid_start = valid_either (w.found e).is.valid

      first_start : FirstValid σ held (owned_masks (owners_of a.owners)) g
      first_start = first_free free right inside (counts_nothing σ held old g right) (owned_masked σ g (owners_of a.owners)) (w.found e)

      -- with its moves as weight it is a beginning of rounds
      pub start_weighed : (moves : ℕ) → moves ≡ group_moves σ old (masks_of (masks_with σ g a.owners (replicate 16 0))) g
          → Weighed (round_case σ held old g 1) (record { exists = true; weight = moves; owners = a.owners })
      start_weighed moves m =
          record {
            exists = refl;
            exact = m ∙ sym (weight_moves one right inside old (counts_moves σ held old g right) (with_masked σ g a.owners (replicate 16 0) right) valid_start);
          }

      -- without rounds: the start
      pub reached_start : (n floor : ℕ) → n ≡ 0 → floor ≡ group_floor σ held old g → OwnersReached σ held old g n a.owners n floor
      reached_start n floor l f =
          record {
            start = owned_masks (owners_of a.owners);
            first = first_start;
            rounds = stays;
            ended = inl l;
            valid = first_start.valid;
            small = moves_small right inside free (owned_masked σ g (owners_of a.owners)) (w.found e).is.valid old;
            floors = f;
          }

      -- after rounds
      pub reached_better : (n moves floor : ℕ) (b : Improvement)
          → Improved (round_case σ held old g 1) n (record { exists = true; weight = moves; owners = a.owners }) b
          → floor ≡ group_floor σ held old g → OwnersReached σ held old g n b.answer.owners b.left floor
      reached_better n moves floor b i f =
          let counted = counts_moves σ held old g right in
          let v = steps_valid old one right inside counted valid_start i.steps in
          let m = owned_masked σ g (owners_of b.answer.owners) in
          record {
            start = owned_masks (owners_of a.owners);
            first = first_start;
            rounds = steps_rounds old one right inside counted valid_start i.steps;
            ended = ⊎_elim (λ s. inr (none_lighter one right inside old counted m v (i.stuck s))) (λ s. inl (i.out s)) (either b.stuck);
            valid = masks_valid right inside one m v;
            small = moves_small right inside one m v old;
            floors = f;
          }

-- a subgroup without shards has nothing to place
module _ (σ : List ℕ) (held : ℕ) (old : ℕ → ℕ) (g : ℕ) (right : Settings σ) (e : any_below 16 (of_group σ g) ≡ false) where
  empty : (s : ℕ) → of_group σ g s ≡ false
  empty s = ⊎_elim (λ l. any_fails 16 (of_group σ g) e s l) (λ l. group_past σ g s (omega (arith, right.sizes.shards_to))) (lt_or_le s 16)

  none_floor : group_floor σ held old g ≡ 0
  unfolding group_floor
  none_floor =
      sum_none (shards σ) (λ s. cond (eqb (subgroup σ s) g) (lacking σ held old s) 0)
      (λ s l. ap (λ (b : Bool). cond b (lacking σ held old s) 0) (sym (group_is σ g s l) ∙ empty s))

  none_valid : (masks : ℕ → ℕ) → group_valid σ held masks g ≡ true
  none_valid masks = group_valid_of σ held masks g (λ s o. clash o (empty s))

  pub reached_none : (n : ℕ) (o : List ℕ) → OwnersReached σ held old g n o n 0
  reached_none n o =
      let still = none_moves σ g empty old (owned_masks (owners_of o)) in
      record {
        start = owned_masks (owners_of o);
        first = record { valid = none_valid (owned_masks (owners_of o)); first = λ other v. inl (record { alike = λ s p. clash p (empty s) }) };
        rounds = stays;
        ended = inr (record { none = λ other v. omega (arith, still) });
        valid = none_valid (owned_masks (owners_of o));
        small = omega (arith, still);
        floors = sym none_floor;
      }

-- ---- one subgroup more

-- the masks so far with those of the owners
module _ (σ : List ℕ) (g : ℕ) (o masks : List ℕ) (right : Settings σ) where
  with_mix : SamePlan σ (mix σ g (owned_masks (owners_of o)) (masks_of masks)) (masks_of (masks_with σ g o masks))
  unfolding masks_with mask_with owned_by mix
  with_mix s l = sym (get_d_tabulate 16 (λ i. mask_with σ g o (get_or masks i 0) i) s 0 (omega (arith, right.sizes.shards_to)))

  with_own : AlikeInGroup σ g (owned_masks (owners_of o)) (masks_of (masks_with σ g o masks))
  with_own = record { at = λ s p. sym (mix_here σ g (owned_masks (owners_of o)) (masks_of masks) s p) ∙ with_mix s (group_shard σ g s p) }

blank_mask : (s : ℕ) → masks_of (replicate 16 0) s ≡ 0
blank_mask s =
    ⊎_elim (λ l. get_or-replicate 16 s 0 0 l) (λ l. get_or-eq_default (replicate 16 0) 0 {n = s} (omega (arith, length-replicate {A = ℕ} 16 0))) (lt_or_le s 16)

-- no subgroup yet
pub turns_start : (σ : List ℕ) (held : ℕ) (old : ℕ → ℕ) (n : ℕ) → ReachedSoFar σ held old n 0 (replicate 16 0) 0 0 n
turns_start σ held old n =
    record {
      start = masks_of (replicate 16 0);
      first = λ h l. absurd (omega arith);
      rounds = none (λ s l. refl);
      ended = inr (λ h l. absurd (omega arith));
      valid = λ h l. absurd (omega arith);
      counted = sym (sum_zero (group_moves σ old (masks_of (replicate 16 0))));
      floors = sym (sum_zero (group_floor σ held old));
      rest = λ s l. blank_mask s;
      sized = length-replicate {A = ℕ} 16 0;
      small = omega arith;
      low = omega arith;
    }

module _ {σ : List ℕ} {held : ℕ} {old : ℕ → ℕ} {n g total floor left : ℕ} {masks : List ℕ} (right : Settings σ) (inside : held < 2 ^ nodes σ)
    (st : ReachedSoFar σ held old n g masks total floor left) where
  -- the lowest without a valid placement
  pub turns_none : g < 4 → Impossible σ held g → LowestUnplaced σ held g
  turns_none l i = record { below = l; none = i; lower = λ h k. (masks_of masks, st.valid h k) }

  module _ {o : List ℕ} {gone add : ℕ} (u : OwnersReached σ held old g left o gone add) where
    moved_most : {new : List ℕ} → new ≡ masks_with σ g o masks → group_moves σ old (masks_of new) g ≤ 32
    moved_most e =
        subst (λ (q : List ℕ). group_moves σ old (masks_of q) g ≤ 32) (sym e) (omega (arith, moves_local (with_own σ g o masks right) old, u.small))

    -- the moves fit
    pub moved_fits : {new : List ℕ} {moved : ℕ} → new ≡ masks_with σ g o masks → moved ≡ group_moves σ old (masks_of new) g → moved ≤ 32
    moved_fits e m = omega (arith, moved_most e)

    ends : (gone ≡ 0) ⊎ ((h : ℕ) → h < g + 1 → NoneFewer σ held old (masks_of (masks_with σ g o masks)) h)
    ends =
        ⊎_elim (λ e. inl e)
        (λ here. ⊎_elim (λ e. inl (omega (arith, rounds_used u.rounds))) (λ lower. inr (λ h l. at h l here lower)) st.ended)
        u.ended
      where
        at : (h : ℕ) → h < g + 1 → NoneFewer σ held old (owned_masks (owners_of o)) g → ((k : ℕ) → k < g → NoneFewer σ held old (masks_of masks) k)
            → NoneFewer σ held old (masks_of (masks_with σ g o masks)) h
        at h l here lower =
            ⊎_elim (λ e. subst (NoneFewer σ held old (masks_of (masks_with σ g o masks))) (sym e) (none_local (with_own σ g o masks right) here))
            (λ e. none_local (with_alike σ g o masks right h e) (lower h (omega arith))) (eq_or_ne h g)

    allowed : (h : ℕ) → h < g + 1 → group_valid σ held (masks_of (masks_with σ g o masks)) h ≡ true
    allowed h l =
        ⊎_elim (λ e. subst (λ (k : ℕ). group_valid σ held (masks_of (masks_with σ g o masks)) k ≡ true) (sym e) (valid_local (with_own σ g o masks right) held u.valid))
        (λ e. valid_local (with_alike σ g o masks right h e) held (st.valid h (omega arith))) (eq_or_ne h g)

    begins : (h : ℕ) → h < g + 1 → FirstValid σ held (mix σ g u.start st.start) h
    begins h l =
        ⊎_elim (λ e. subst (FirstValid σ held (mix σ g u.start st.start)) (sym e) (first_local (mix_own σ g u.start st.start) u.first))
        (λ e. first_local (mix_other σ g u.start st.start h e) (st.first h (omega arith))) (eq_or_ne h g)

    -- one subgroup more
    pub turns_more : g < 4 → {new : List ℕ} {moved : ℕ} → new ≡ masks_with σ g o masks → moved ≡ group_moves σ old (masks_of new) g
        → ReachedSoFar σ held old n (g + 1) new (total + moved) (floor + add) gone
    turns_more l {new} {moved} e m =
        subst (λ (q : List ℕ). ReachedSoFar σ held old n (g + 1) q (total + moved) (floor + add) gone) (sym e)
        (record {
          start = mix σ g u.start st.start;
          first = begins;
          rounds = part_same (with_mix σ g o masks right) (part_group l st.ended (part_mixed g u.start st.rounds) u.rounds);
          ended = ends;
          valid = allowed;
          counted = with_total σ g o masks right old total moved st.counted counts;
          floors = omega (arith, st.floors, u.floors, sum_next g (group_floor σ held old));
          rest = with_rest σ g o masks st.rest;
          sized = with-length σ g o masks;
          small = omega (arith, st.small, moved_fits e m);
          low = omega (arith, st.low, u.floors, counts, floor_least σ held old g right inside (masks_of (masks_with σ g o masks)) (allowed g (omega arith)));
        })
      where
        counts : moved ≡ group_moves σ old (masks_of (masks_with σ g o masks)) g
        counts = m ∙ ap (λ (q : List ℕ). group_moves σ old (masks_of q) g) e

-- all four
module _ {σ : List ℕ} {held : ℕ} {old : ℕ → ℕ} {n total floor left : ℕ} {masks : List ℕ} (right : Settings σ) (inside : held < 2 ^ nodes σ)
    (st : ReachedSoFar σ held old n 4 masks total floor left) where
  pub turns_end : (gap : ℕ) → gap ≡ total - floor → LaidWithin σ held old n (record { placed = record { found = true; group = 0; masks = masks; total = total }; gap = gap })
  unfolding gap_of
  turns_end gap e =
      record {
        bettered = record { start = st.start; first = st.first; rounds = part_rounds st.rounds st.ended };
        total = st.counted;
        gap = omega (arith, e, st.counted, st.floors, floor_groups σ held old right inside);
        rest = st.rest;
        sized = st.sized;
        group = refl;
      }
