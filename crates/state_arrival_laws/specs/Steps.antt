-- One accepted report: what it hands back, and what holds of every state and desk that one leads to.
use Rattle.std.specs.Prelude.{ℕ, ◌<◌, ◌≤◌, Bool, true, false, ◌||◌, List, ◌≡◌, length}
use Rattle.std.proofs.Common.{arith, ⊎_elim, sym, ◌∙◌}
use Rattle.std.proofs.Math.Path.{refl, ap, subst⁻¹}
use Rattle.std.proofs.Math.ListN.{get_or}
use borrow.Author.Tests.{eqb-true, eq-eqb, ne_eqb, leb-true}
use Rattle.base_laws.specs.Bools.{or_right}
use Rattle.base_laws.specs.Definitions.{has, padded}
use Rattle.base_laws.specs.Masks.{has_with}
use Rattle.base_laws.specs.Tables.{length_tabulate}
use Rattle.settings_values.specs.Definitions.{Settings}
use Rattle.settings_values.specs.Laws.{settings_give}
use Rattle.base_ids.specs.Definitions.{none, accepted}
use Rattle.message_format.specs.declared.Form.TheVariants.{Report}
use Rattle.message_format.specs.Definitions.{contents_of, message_refusal}
use Rattle.report_views.specs.Definitions.{slot}
use Rattle.report_rows.specs.Definitions.{latest_at, row18, noted_at, noted}
use Rattle.report_rows.specs.Laws.{noted_own, noted_other}
use Rattle.report_kept.specs.Laws.{message_node}
use Rattle.report_desk.specs.Definitions.{desk_with}
use Rattle.state_planner.specs.declared.State.{State}
use Rattle.state_planner.specs.declared.Outcome.{Outcome}
use Rattle.state_planner.specs.Definitions.{sound, keeping, report_refusal, after_report, reported, desk_after}
use Rattle.state_planner.specs.EventLaws.{outcome_accepted}
use Rattle.state_laws.specs.Parts.{ReportRows, report_given}
use Rattle.state_laws.specs.Desks.{slot_own, slot_other}
use Rattle.state_laws.specs.AfterReport.{report_sound, report-desk}
use Rattle.state_arrival_laws.specs.Arrivals as arrivals
use Rattle.state_arrival_laws.specs.Arrivals.{AllTaken, sender, OneOf}
use Rattle.state_arrival_laws.specs.Messages.{not_none, head_or}

-- what an accepted report leaves
pub record SteadyAfter (σ : List ℕ) (x : State) (d : List ℕ) : Type 0 where
  pub settings : Settings σ
  pub state_sound : sound σ x d ≡ true
  pub words : length d ≡ 16384
  pub sized : length x.latest.views ≡ 32

-- nothing is added to a
or_none : (a : Bool) {b : Bool} → b ≡ false → (a || b) ≡ a
or_none true e = refl
or_none false e = e

module _ (σ : List ℕ) (x : State) (d w : List ℕ) (h : report_refusal σ x d w ≡ none) where
  taken : ReportRows σ x d w
  taken = report_given σ x d w h

  settings_right : Settings σ
  settings_right = settings_give σ taken.entered.settings-ok

  pub message_valid : message_refusal Report σ w ≡ none
  message_valid = taken.message_taken

  sender_below : sender w < 32
  sender_below = message_node σ w settings_right message_valid

  desk_words : length d ≡ 16384
  desk_words = eqb-true (length d) 16384 taken.entered.lengths-ok

  -- what it hands back
  pub state_next : (reported σ x d w).state ≡ after_report σ x (contents_of w)
  unfolding reported
  state_next = ap (λ (o : Outcome). o.state) (outcome_accepted (report_refusal σ x d w) x (after_report σ x (contents_of w)) (ap accepted h))

  pub desk_next : desk_after σ x d w ≡ desk_with d (sender w) w
  unfolding desk_after
  desk_next = rw (ap accepted h)

  next_steady : SteadyAfter σ (after_report σ x (contents_of w)) (desk_with d (sender w) w)
  unfolding after_report keeping noted
  next_steady =
      record {
        settings = settings_right;
        state_sound = report_sound σ x d w h;
        words = report-desk σ x d w h;
        sized = length_tabulate 32 (noted_at x.latest (contents_of w).node.0 (contents_of w).view.0);
      }

  pub report_steady : SteadyAfter σ (reported σ x d w).state (desk_after σ x d w)
  report_steady =
      subst⁻¹ (λ (y : State). SteadyAfter σ y (desk_after σ x d w)) state_next
      (subst⁻¹ (λ (e : List ℕ). SteadyAfter σ (after_report σ x (contents_of w)) e) desk_next next_steady)

  -- ---- its node is held, the others as they were

  pub held_own : has (reported σ x d w).state.held (sender w) ≡ true
  unfolding after_report keeping contents_of
  held_own =
      ap (λ (y : State). has y.held (sender w)) state_next
      ∙ (has_with x.held (sender w) (sender w) ∙ or_right (has x.held (sender w)) (eq-eqb (sender w) (sender w) refl))

  pub held_other : (n : ℕ) → n ≡ n → (n ≡ sender w → ⊥) → has (reported σ x d w).state.held n ≡ has x.held n
  unfolding after_report keeping contents_of
  held_other n i free =
      ap (λ (y : State). has y.held n) state_next
      ∙ (has_with x.held (sender w) n ∙ or_none (has x.held n) (ne_eqb (sender w) n (λ e. free (sym e))))

  -- ---- its view is remembered as its node's

  pub latest_own : latest_at (reported σ x d w).state.latest (sender w) ≡ get_or w 1 0
  unfolding after_report keeping contents_of row18
  latest_own =
      let l : latest_at x.latest (sender w) ≤ get_or w 1 0 = leb-true _ _ taken.row18-holds in
      ap (λ (y : State). latest_at y.latest (sender w)) state_next ∙ (noted_own x.latest (sender w) (get_or w 1 0) sender_below ∙ omega arith)

  pub latest_other : (n : ℕ) → n < 32 → (n ≡ sender w → ⊥) → latest_at (reported σ x d w).state.latest n ≡ latest_at x.latest n
  unfolding after_report keeping contents_of
  latest_other n l free =
      ap (λ (y : State). latest_at y.latest n) state_next ∙ noted_other x.latest (sender w) (get_or w 1 0) n l free

  -- ---- it stands in its node's slot

  pub slot_written : slot (desk_after σ x d w) (sender w) ≡ padded 512 w
  slot_written = ap (λ (e : List ℕ). slot e (sender w)) desk_next ∙ slot_own d w (sender w) desk_words sender_below

  pub slot_kept : (n : ℕ) → n < 32 → (n ≡ sender w → ⊥) → slot (desk_after σ x d w) n ≡ slot d n
  slot_kept n l free = ap (λ (e : List ℕ). slot e n) desk_next ∙ slot_other d w (sender w) desk_words sender_below n l free

-- ---- all of them

module _ (σ : List ℕ) where
  pub all_steady : {x : State} {d : List ℕ} {ws : List (List ℕ)} {y : State} {e : List ℕ} → AllTaken σ x d ws y e → SteadyAfter σ x d → SteadyAfter σ y e
  all_steady (arrivals.none_left x d) s = s
  all_steady (arrivals.taking x d w ws y e h r) s = all_steady r (report_steady σ x d w h)

  pub all_valid : {x : State} {d : List ℕ} {ws : List (List ℕ)} {y : State} {e : List ℕ} → AllTaken σ x d ws y e → (w : List ℕ) → OneOf w ws
      → message_refusal Report σ w ≡ none
  all_valid (arrivals.none_left x d) u a = absurd (not_none u a)
  all_valid (arrivals.taking x d w ws y e h r) u a =
      ⊎_elim (λ q. subst⁻¹ (λ (v : List ℕ). message_refusal Report σ v ≡ none) q (message_valid σ x d w h)) (λ b. all_valid r u b) (head_or u w ws a)

  -- the phase, the marks and the plan stay
  pub all_rest : {x : State} {d : List ℕ} {ws : List (List ℕ)} {y : State} {e : List ℕ} → AllTaken σ x d ws y e
      → y ≡ keeping x y.kept y.termination y.held y.latest
  unfolding keeping after_report
  all_rest (arrivals.none_left x d) = refl
  all_rest (arrivals.taking x d w ws y e h r) =
      all_rest r ∙ ap (λ (z : State). keeping z y.kept y.termination y.held y.latest) (state_next σ x d w h)
