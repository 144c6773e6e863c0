-- An accepted report leads to a sound state. Whatever becomes of the kept view and termination, they are sound, the new report
-- fits them and every report that fitted what was kept before still fits; the desk has the new report in its node's slot.
use Rattle.std.specs.Prelude.{ℕ, ◌<◌, ◌≤◌, false, ◌&&◌, List, ◌≡◌, refl, eqb, ltb, length, get_or}
use Rattle.std.proofs.Common.{arith, ⊎_elim, sym, ◌∙◌}
use Rattle.std.proofs.Math.Bool.{true, not}
use Rattle.std.proofs.Math.Logic.{inr}
use Rattle.std.proofs.Math.Path.{ap, subst⁻¹}
use borrow.Author.Tests.{eqb-true, leb-true, ltb-true, ltb-false}
use Rattle.base_laws.specs.Bools.{and_left, and_right, or-holds, of_not_true, eq_or_ne, cond_of}
use Rattle.base_laws.specs.Definitions.{has, with}
use Rattle.base_laws.specs.Masks.{has_with, with_lt, within_lt, lt_within}
use Rattle.settings_values.specs.Definitions.{nodes, Settings}
use Rattle.settings_values.specs.Laws.{settings_give}
use Rattle.base_ids.specs.Definitions.{none}
use Rattle.message_format.specs.declared.Form.TheVariants.{Report}
use Rattle.message_format.specs.declared.Contents.{Contents}
use Rattle.message_format.specs.Definitions.{view_ok, row6, row7, contents_of}
use Rattle.message_format.specs.Passed.{message_given}
use Rattle.report_views.specs.declared.Layout.{Layout}
use Rattle.report_views.specs.declared.Termination.{Termination}
use Rattle.report_views.specs.Definitions.{slot, slot_ok, view_sound, term_sound}
use Rattle.report_views.specs.Meets.{slot_given}
use Rattle.report_rows.specs.declared.latest.Latest.{Latest}
use Rattle.report_rows.specs.Definitions.{noted}
use Rattle.report_rows.specs.Laws.{latest_given, latest-test}
use Rattle.state_planner.specs.declared.State.{State}
use Rattle.state_planner.specs.Definitions.{sound, keeping, report_refusal, after_report}
use Rattle.report_kept.specs.declared.Kept.{Kept}
use Rattle.report_kept.specs.Definitions.{layout_of, termination_of, renewed}
use Rattle.report_desk.specs.Definitions.{desk_with}
use Rattle.message_reader.specs.Walks.{row5_gives}
use Rattle.message_reader.specs.Padding.{padded_contents, padded_passes}
use Rattle.state_laws.specs.Parts.{SoundState, sound_given, sound-test, SoundKept, kept_given, kept_test, kept_view, slots_of, gathering_is, marks_still, plan_still, ReportRows, report_given}
use Rattle.state_laws.specs.Keeping.{Passes, view_of_report, term_of_report}
use Rattle.state_laws.specs.Fitting.{Fits, slot_reported, reported_slot, greater_fits, added_fits, known_fits, own_masks, own_fits}
use Rattle.state_laws.specs.Desks.{desk_length, slot_own, slot_other}
use Rattle.state_laws.specs.Noting.{report_recalls}

-- view v with termination t can be kept after the report c where u with r was kept
record CanRenew (σ : List ℕ) (u : Layout) (r : Termination) (c : Contents) (v : Layout) (t : Termination) : Type 0 where
  view-sound : view_sound σ v ≡ true
  term-sound : term_sound σ v t ≡ true
  no_older : u.number.0 ≤ v.number.0
  fits : Fits σ v t c
  fits_still : (b : Contents) → Fits σ u r b → Fits σ v t b

module _ (σ : List ℕ) (x : State) (d w : List ℕ) (h : report_refusal σ x d w ≡ none) where
  pub taken : ReportRows σ x d w
  taken = report_given σ x d w h

  settings : Settings σ
  settings = settings_give σ taken.entered.settings-ok

  before : SoundState σ x d
  before = sound_given σ x d taken.entered.state_sound

  kept_before : SoundKept σ x.kept x.termination x.held
  kept_before = kept_given σ x.kept x.termination x.held before.kept-sound

  passes : Passes σ (contents_of w)
  unfolding contents_of
  passes = let m = message_given Report σ w taken.message_taken in record { head = m.head_passes; records = m.records_pass }

  node_below : get_or w 0 0 < nodes σ
  unfolding row6
  node_below = ltb-true (get_or w 0 0) (nodes σ) (message_given Report σ w taken.message_taken).head_passes.node_passes

  view_from : 1 ≤ (contents_of w).view.0
  unfolding row7 view_ok
  view_from = leb-true 1 (contents_of w).view.0 (and_left _ _ (and_left _ _ (and_left _ _ passes.head.view_passes)))

  -- a view is kept that is not below the report's
  view_kept : (contents_of w).view.0 ≤ x.kept.number.0 → view_sound σ x.kept ≡ true
  view_kept l = kept_view σ x.kept x.termination x.held kept_before (λ e. omega (arith, view_from))

  abbrev KeptAfter : Layout → Termination → Type 0
  KeptAfter = CanRenew σ x.kept x.termination (contents_of w)

  greater : x.kept.number.0 < (contents_of w).view.0 → KeptAfter (layout_of σ (contents_of w)) (termination_of σ (contents_of w))
  unfolding layout_of
  greater l =
      let few = settings.sizes.shards_to in
      record {
        view-sound = view_of_report σ (contents_of w) few passes;
        term-sound = term_of_report σ (contents_of w) few passes (layout_of σ (contents_of w)) refl;
        no_older = omega arith;
        fits = own_fits σ few (contents_of w) (layout_of σ (contents_of w)) (omega arith) (own_masks σ few (contents_of w));
        fits_still = λ b. greater_fits σ (layout_of σ (contents_of w)) (termination_of σ (contents_of w)) b x.kept x.termination l;
      }

  equal : x.kept.number.0 ≡ (contents_of w).view.0 → x.termination.made ≡ false → KeptAfter x.kept (termination_of σ (contents_of w))
  equal e unmade =
      let few = settings.sizes.shards_to in
      record {
        view-sound = view_kept (omega arith);
        term-sound = term_of_report σ (contents_of w) few passes x.kept e;
        no_older = omega arith;
        fits = own_fits σ few (contents_of w) x.kept (omega arith) taken.row12-holds;
        fits_still = λ b. added_fits σ x.kept (termination_of σ (contents_of w)) b x.termination unmade;
      }

  unchanged : (contents_of w).view.0 ≤ x.kept.number.0
      → (eqb x.kept.number.0 (contents_of w).view.0 && not x.termination.made) ≡ false → KeptAfter x.kept x.termination
  unchanged l e =
      record {
        view-sound = view_kept l;
        term-sound = kept_before.term-sound;
        no_older = omega arith;
        fits = known_fits σ x.kept x.termination (contents_of w) l taken.row12-holds taken.row13-holds e;
        fits_still = λ b f. f;
      }

  -- ---- the slots

  pub node_32 : get_or w 0 0 < 32
  node_32 = omega (arith, node_below, settings.sizes.nodes_to)

  pub words : length d ≡ 16384
  words = eqb-true (length d) 16384 taken.entered.lengths-ok

  pub message_words : length w ≤ 512
  message_words = let s = row5_gives w (message_given Report σ w taken.message_taken).words_pass in omega (arith, s.few, s.whole)

  -- what is remembered afterwards
  abbrev noticed : Latest
  noticed = noted x.latest (contents_of w).node.0 (contents_of w).view.0

  module _ (v : Layout) (t : Termination) (next : KeptAfter v t) where
    -- the reporting node's slot
    own_slot : slot_ok σ v t (desk_with d (get_or w 0 0) w) (get_or w 0 0) ≡ true
    unfolding contents_of
    own_slot =
        let same = padded_contents w message_words in
        reported_slot σ v t (desk_with d (get_or w 0 0) w) (get_or w 0 0)
        (rw (slot_own d w (get_or w 0 0) words node_32)
        (record {
          valid = padded_passes Report σ w taken.message_taken;
          own = ap (λ (c : Contents). c.node.0) same;
          fits = subst⁻¹ (Fits σ v t) same next.fits;
        }))

    -- another held node's slot
    other_slot : (m : ℕ) → m < 32 → (m ≡ get_or w 0 0 → ⊥) → has x.held m ≡ true → slot_ok σ v t (desk_with d (get_or w 0 0) w) m ≡ true
    other_slot m l other p =
        let r = slot_reported σ x.kept x.termination d m (slot_given σ x.kept x.termination x.held d before.slots-ok m l p) in
        reported_slot σ v t (desk_with d (get_or w 0 0) w) m
        (rw (slot_other d w (get_or w 0 0) words node_32 m l other)
        (record { valid = r.valid; own = r.own; fits = next.fits_still (contents_of (slot d m)) r.fits }))

    held_slot : (m : ℕ) → m < 32 → has (with x.held (get_or w 0 0)) m ≡ true → slot_ok σ v t (desk_with d (get_or w 0 0) w) m ≡ true
    held_slot m l p =
        ⊎_elim (λ e. subst⁻¹ (λ (n : ℕ). slot_ok σ v t (desk_with d (get_or w 0 0) w) n ≡ true) e own_slot)
        (λ e.
        other_slot m l e
        (⊎_elim (λ q. q) (λ q. absurd (e (sym (eqb-true (get_or w 0 0) m q))))
        (or-holds (has x.held m) (eqb (get_or w 0 0) m) (sym (has_with x.held (get_or w 0 0) m) ∙ p))))
        (eq_or_ne m (get_or w 0 0))

    -- the state that keeps v and t
    next_sound : sound σ (keeping x v t (with x.held (contents_of w).node.0) noticed) (desk_with d (get_or w 0 0) w) ≡ true
    unfolding keeping contents_of
    next_sound =
        let more = with x.held (get_or w 0 0) in
        let g = gathering_is x.phase taken.entered.in-phase in
        sound-test σ (keeping x v t more noticed) (desk_with d (get_or w 0 0) w)
        (record {
          kept-sound =
              kept_test σ v t more
              (record {
                view_kept = inr next.view-sound;
                term-sound = next.term-sound;
                held_within =
                    lt_within (nodes σ) more
                    (with_lt (nodes σ) x.held (get_or w 0 0) (within_lt (nodes σ) x.held kept_before.held_within) node_below);
              });
          slots-ok = slots_of σ v t more (desk_with d (get_or w 0 0) w) held_slot;
          marks-sound = marks_still x.phase x.held more x.fetched x.prepared g before.marks-sound;
          latest-sound =
              latest-test σ v.number.0 more (desk_with d (get_or w 0 0) w) noticed
              (report_recalls x.held d w x.latest words message_words node_32 taken.row18-holds σ x.kept.number.0 v.number.0 node_below
              next.no_older next.fits.no_later (latest_given σ x.kept.number.0 x.held d x.latest before.latest-sound));
          plan-fits =
              plan_still x.phase σ x.kept v x.termination t x.held more d (desk_with d (get_or w 0 0) w) x.plan g before.plan-fits;
        })

  pub report_sound : sound σ (after_report σ x (contents_of w)) (desk_with d (get_or w 0 0) w) ≡ true
  unfolding after_report renewed
  report_sound =
      cond_of leads (ltb x.kept.number.0 (contents_of w).view.0)
      (λ e. next_sound _ _ (greater (ltb-true x.kept.number.0 (contents_of w).view.0 e)))
      (λ e.
      cond_of leads (eqb x.kept.number.0 (contents_of w).view.0 && not x.termination.made)
      (λ f.
      next_sound _ _
      (equal (eqb-true _ _ (and_left (eqb x.kept.number.0 (contents_of w).view.0) (not x.termination.made) f))
      (of_not_true x.termination.made (and_right (eqb x.kept.number.0 (contents_of w).view.0) (not x.termination.made) f))))
      (λ f. next_sound _ _ (unchanged (ltb-false x.kept.number.0 (contents_of w).view.0 e) f)))
    where
      leads : Kept → Type 0
      leads k =
          sound σ (keeping x k.view k.termination (with x.held (contents_of w).node.0) noticed) (desk_with d (get_or w 0 0) w) ≡ true

  -- and the desk keeps its length
  pub report-desk : length (desk_with d (get_or w 0 0) w) ≡ 16384
  report-desk = desk_length d w (get_or w 0 0) words node_32
