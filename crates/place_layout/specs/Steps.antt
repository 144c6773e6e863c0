-- From one subgroup's answer to the placement so far: start, one subgroup more, with shards or without, and none.
use Rattle.std.specs.Prelude.{◌≡◌, Bool, true, false, cond, List, ℕ, ◌+◌, ◌^◌, ◌≤◌, ◌<◌, length, get_or, replicate}
use Rattle.std.proofs.Common.{sym, ap, ◌∙◌, subst, ⊎_elim, arith}
use Rattle.std.proofs.lemmas.List.{length-replicate, get_or-replicate}
use Rattle.std.proofs.Math.ListN.{get_or-eq_default}
use Rattle.base_laws.specs.Bools.{clash, lt_or_le, eq_or_ne}
use Rattle.base_laws.specs.Tables.{get_d_tabulate, get_or_tabulate_past}
use Rattle.base_laws.specs.Definitions.{any_below}
use Rattle.base_laws.specs.Below.{any_fails}
use Rattle.base_sum_laws.specs.Definitions.{sum_below}
use Rattle.base_sum_laws.specs.Sums.{sum_zero}
use Rattle.base_sum_laws.proofs.Sums.{sum_next}
use Rattle.settings_values.specs.Definitions.{nodes, Settings}
use Rattle.place_groups.specs.Definitions.{group_moves, Impossible, Chosen, of_group}
use Rattle.search_laws.specs.Case.{Case}
use Rattle.search_laws.specs.Tables.{case_of}
use Rattle.search_laws.specs.Floor.{SheetFor}
use Rattle.search_total.specs.declared.Solution.{Solution}
use Rattle.search_total.specs.Post.{LeastAnswer}
use Rattle.place_groups.specs.Sheet.{sheet_of}
use Rattle.place_laws.specs.Cases.{group_past}
use Rattle.place_laws.proofs.Floor.{sheet_for}
use Rattle.place_laws.specs.Tables.{sets_table, needs_table, caps_table, costs_table, group_case, case_spare}
use Rattle.place_laws.proofs.Tables.{case_for, case_priced}
use Rattle.place_laws.proofs.Owners.{moves_small, impossible}
use Rattle.place_laws.specs.Choice.{chosen_local, none_moves, chosen_none}
use Rattle.place_laws.proofs.Choice.{first_chosen}
use Rattle.place_laws.specs.Definitions.{masks_of}
use Rattle.place_laws.specs.Adding.{owned_by, mask_with, masks_with, with-length}
use Rattle.place_laws.proofs.Adding.{with_masked, with_alike, with_rest, with_total}
use Rattle.place_layout.specs.declared.Placed.{Placed}
use Rattle.place_layout.specs.declared.Offer.{Offer}
use Rattle.place_layout.specs.Definitions.{PlacedAlone}
use Rattle.place_layout.specs.Post.{Unplaced, LaidSoFar}

-- equal tables make one case
case_is : (σ : List ℕ) (held : ℕ) (old : ℕ → ℕ) (g : ℕ) {sets needs caps costs : List ℕ} → sets ≡ sets_table σ → needs ≡ needs_table σ g → caps ≡ caps_table σ g
    → costs ≡ costs_table σ held old g → case_of sets needs caps costs 1 ≡ group_case σ held old g
case_is σ held old g p q r t = λ i. case_of (p i) (q i) (r i) (t i) 1

-- the search's answer on the subgroup's tables
pub answer_for : (σ : List ℕ) (held : ℕ) (old : ℕ → ℕ) (g : ℕ) (sets needs caps costs : List ℕ) {a : Solution}
    → sets ≡ sets_table σ → needs ≡ needs_table σ g → caps ≡ caps_table σ g → costs ≡ costs_table σ held old g
    → LeastAnswer (case_of sets needs caps costs 1) a → LeastAnswer (group_case σ held old g) a
answer_for σ held old g sets needs caps costs {a} p q r t w = subst (λ (K : Case). LeastAnswer K a) (case_is σ held old g p q r t) w

-- the sheet is one of the subgroup's tables
pub sheet_told : (σ : List ℕ) (held : ℕ) (old : ℕ → ℕ) (g : ℕ) (sets needs caps costs : List ℕ) (sheet : List (List ℕ)) → Settings σ → held < 2 ^ nodes σ
    → sets ≡ sets_table σ → needs ≡ needs_table σ g → caps ≡ caps_table σ g → costs ≡ costs_table σ held old g → sheet ≡ sheet_of σ held old
    → SheetFor (case_of sets needs caps costs 1) sheet
sheet_told σ held old g sets needs caps costs sheet right inside p q r t e =
    subst (λ (K : Case). SheetFor K sheet) (sym (case_is σ held old g p q r t))
    (subst (SheetFor (group_case σ held old g)) (sym e) (sheet_for σ held old g right inside))

-- nothing is placed
blank_mask : (s : ℕ) → masks_of (replicate 16 0) s ≡ 0
blank_mask s =
    ⊎_elim (λ l. get_or-replicate 16 s 0 0 l) (λ l. get_or-eq_default (replicate 16 0) 0 {n = s} (omega (arith, length-replicate {A = ℕ} 16 0))) (lt_or_le s 16)

-- beside nothing, only the subgroup's own shards have masks
with_nothing : (σ : List ℕ) (g : ℕ) (o : List ℕ) (s : ℕ) → of_group σ g s ≡ false → masks_of (masks_with σ g o (replicate 16 0)) s ≡ 0
unfolding masks_with mask_with
with_nothing σ g o s e =
    ⊎_elim (λ l. get_d_tabulate 16 (λ i. mask_with σ g o (get_or (replicate 16 0) i 0) i) s 0 l ∙ ap (λ (b : Bool). cond b (owned_by o s) (masks_of (replicate 16 0) s)) e ∙ blank_mask s)
    (λ l. get_or_tabulate_past 16 (λ i. mask_with σ g o (get_or (replicate 16 0) i 0) i) s 0 l) (lt_or_le s 16)

-- no subgroup yet
pub stage_start : {σ : List ℕ} {held : ℕ} {old : ℕ → ℕ} {p : Placed} → p.masks ≡ replicate 16 0 → p.total ≡ 0 → p.group ≡ 0 → LaidSoFar σ held old 0 p
stage_start {σ} {held} {old} {p} m t g =
    record {
      laid =
          record {
            chosen = λ h l. absurd (omega arith);
            total = t ∙ sym (sum_zero (group_moves σ old (masks_of p.masks)));
            rest = λ s l. ap (λ (w : List ℕ). masks_of w s) m ∙ blank_mask s;
            sized = ap (λ (w : List ℕ). length w) m ∙ length-replicate {A = ℕ} 16 0;
            group = g;
          };
      small = omega arith;
    }

-- a subgroup without shards more: nothing to place
pub stage_none : {σ : List ℕ} {held : ℕ} {old : ℕ → ℕ} {g : ℕ} {p r : Placed} → Settings σ → LaidSoFar σ held old g p → any_below 16 (of_group σ g) ≡ false
    → r.masks ≡ p.masks → r.total ≡ p.total → r.group ≡ 0 → LaidSoFar σ held old (g + 1) r
stage_none {σ} {held} {old} {g} {p} {r} right st e m t z =
    record {
      laid =
          record {
            chosen = λ h l. subst (λ (q : List ℕ). Chosen σ held old (masks_of q) h) (sym m) (each h l);
            total =
                t ∙ (omega (arith, st.laid.total, sum_next g (group_moves σ old (masks_of p.masks)), none_moves σ g empty old (masks_of p.masks))
                ∙ ap (λ (q : List ℕ). sum_below (g + 1) (group_moves σ old (masks_of q))) (sym m));
            rest = λ s l. ap (λ (q : List ℕ). masks_of q s) m ∙ st.laid.rest s l;
            sized = ap (λ (q : List ℕ). length q) m ∙ st.laid.sized;
            group = z;
          };
      small = omega (arith, st.small);
    }
  where
    empty : (s : ℕ) → of_group σ g s ≡ false
    empty s = ⊎_elim (λ l. any_fails 16 (of_group σ g) e s l) (λ l. group_past σ g s (omega (arith, right.sizes.shards_to))) (lt_or_le s 16)

    each : (h : ℕ) → h < g + 1 → Chosen σ held old (masks_of p.masks) h
    each h l =
        ⊎_elim (λ d. subst (Chosen σ held old (masks_of p.masks)) (sym d) (chosen_none σ g empty held old (masks_of p.masks)))
        (λ d. st.laid.chosen h (omega arith)) (eq_or_ne h g)

module _ {σ : List ℕ} {held : ℕ} {old : ℕ → ℕ} {g : ℕ} {p : Placed} {a : Solution}
    (right : Settings σ) (inside : held < 2 ^ nodes σ) (st : LaidSoFar σ held old g p) (w : LeastAnswer (group_case σ held old g) a) where
  pub moved_small : {masks : List ℕ} → a.exists ≡ true → masks ≡ masks_with σ g a.owners p.masks → group_moves σ old (masks_of masks) g ≤ 32
  moved_small e m =
      subst (λ (q : List ℕ). group_moves σ old (masks_of q) g ≤ 32) (sym m)
      (moves_small right inside (case_for σ held old g right) (with_masked σ g a.owners p.masks right) (w.found e).is.valid old)

  pub stage_more : {r : Placed} {moved : ℕ} → a.exists ≡ true → r.masks ≡ masks_with σ g a.owners p.masks → moved ≡ group_moves σ old (masks_of r.masks) g
      → r.total ≡ p.total + moved → r.group ≡ 0 → LaidSoFar σ held old (g + 1) r
  stage_more {r} {moved} e m d t z =
      record {
        laid =
            record {
              chosen = λ h l. subst (λ (q : List ℕ). Chosen σ held old (masks_of q) h) (sym m) (each h l);
              total = t ∙ (with_total σ g a.owners p.masks right old p.total moved st.laid.total counted ∙ ap (λ (q : List ℕ). sum_below (g + 1) (group_moves σ old (masks_of q))) (sym m));
              rest = λ s l. ap (λ (q : List ℕ). masks_of q s) m ∙ with_rest σ g a.owners p.masks st.laid.rest s l;
              sized = ap (λ (q : List ℕ). length q) m ∙ with-length σ g a.owners p.masks;
              group = z;
            };
        small = omega (arith, st.small, moved_small e m);
      }
    where
      counted : moved ≡ group_moves σ old (masks_of (masks_with σ g a.owners p.masks)) g
      counted = d ∙ ap (λ (q : List ℕ). group_moves σ old (masks_of q) g) m

      each : (h : ℕ) → h < g + 1 → Chosen σ held old (masks_of (masks_with σ g a.owners p.masks)) h
      each h l =
          ⊎_elim
          (λ d. subst (Chosen σ held old (masks_of (masks_with σ g a.owners p.masks))) (sym d) (first_chosen (case_for σ held old g right) right inside (case_spare σ held old g) (case_priced σ held old g) (with_masked σ g a.owners p.masks right) (w.found e)))
          (λ d. chosen_local (with_alike σ g a.owners p.masks right h d) (st.laid.chosen h (omega arith)))
          (eq_or_ne h g)

  pub none_here : {r : Placed} → g < 4 → a.exists ≡ false → r.group ≡ g → r.masks ≡ replicate 16 0 → r.total ≡ 0 → Unplaced σ held r
  none_here {r} l e d m t =
      record {
        lowest =
            record {
              below = omega arith;
              none = subst (λ (h : ℕ). Impossible σ held h) (sym d) (impossible right inside (case_for σ held old g right) (w.none e));
              lower = λ h k. (masks_of p.masks, (st.laid.chosen h (omega arith)).least.valid);
            };
        masks = m;
        total = t;
      }

-- ---- one subgroup alone

module _ {σ : List ℕ} {held : ℕ} {old : ℕ → ℕ} {g : ℕ} (right : Settings σ) where
  pub alone_none : {r : Offer} → any_below 16 (of_group σ g) ≡ false → r.found ≡ true → r.masks ≡ replicate 16 0 → r.moves ≡ 0 → PlacedAlone σ held old g r
  alone_none {r} e f m t =
      record {
        chosen = λ d. chosen_none σ g empty held old (masks_of r.masks);
        counted = λ d. t ∙ sym (none_moves σ g empty old (masks_of r.masks));
        others = λ s o. ap (λ (w : List ℕ). masks_of w s) m ∙ blank_mask s;
        sized = ap (λ (w : List ℕ). length w) m ∙ length-replicate {A = ℕ} 16 0;
        none = λ d. clash f d;
        blank = λ d. m;
        still = λ d. t;
      }
    where
      empty : (s : ℕ) → of_group σ g s ≡ false
      empty s = ⊎_elim (λ l. any_fails 16 (of_group σ g) e s l) (λ l. group_past σ g s (omega (arith, right.sizes.shards_to))) (lt_or_le s 16)

  module _ (inside : held < 2 ^ nodes σ) {a : Solution} (w : LeastAnswer (group_case σ held old g) a) where
    pub alone_unplaced : {r : Offer} → a.exists ≡ false → r.found ≡ false → r.masks ≡ replicate 16 0 → r.moves ≡ 0 → PlacedAlone σ held old g r
    alone_unplaced e f m t =
        record {
          chosen = λ d. clash d f;
          counted = λ d. clash d f;
          others = λ s o. ap (λ (w : List ℕ). masks_of w s) m ∙ blank_mask s;
          sized = ap (λ (w : List ℕ). length w) m ∙ length-replicate {A = ℕ} 16 0;
          none = λ d. impossible right inside (case_for σ held old g right) (w.none e);
          blank = λ d. m;
          still = λ d. t;
        }

    pub alone_placed : {r : Offer} → a.exists ≡ true → r.found ≡ true → r.masks ≡ masks_with σ g a.owners (replicate 16 0)
        → r.moves ≡ group_moves σ old (masks_of r.masks) g → PlacedAlone σ held old g r
    alone_placed e f m t =
        record {
          chosen = λ d.
              subst (λ (q : List ℕ). Chosen σ held old (masks_of q) g) (sym m)
              (first_chosen (case_for σ held old g right) right inside (case_spare σ held old g) (case_priced σ held old g) (with_masked σ g a.owners (replicate 16 0) right) (w.found e));
          counted = λ d. t;
          others = λ s o. ap (λ (q : List ℕ). masks_of q s) m ∙ with_nothing σ g a.owners s o;
          sized = ap (λ (q : List ℕ). length q) m ∙ with-length σ g a.owners (replicate 16 0);
          none = λ d. clash f d;
          blank = λ d. clash f d;
          still = λ d. clash f d;
        }
