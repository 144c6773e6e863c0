-- The report event from its parts: what comes back where rows 1 to 4 refuse, where the report's own rows do, and where none does; and the
-- desk after each.
use Rattle.std.specs.Prelude.{ℕ, ◌<◌, ◌≤◌, Bool, true, false, cond, not, List, ◌≡◌, refl, length, Result, Ok, Err, is_err}
use Rattle.std.proofs.Common.{sym, ◌∙◌}
use Rattle.std.proofs.Math.Path.{ap}
use Rattle.std.proofs.Math.ListN.{get_or}
use borrow.Author.Tests.{eq-eqb, ne_eqb, not-true, not-false}
use Rattle.base_laws.specs.Definitions.{with}
use Rattle.base_bytes.specs.Definitions.{bytes_of}
use Rattle.base_lent.specs.Definitions.{words_in}
use Rattle.settings_values.specs.Definitions.{Settings}
use Rattle.base_ids.specs.declared.Refusal.{Refusal}
use Rattle.base_ids.specs.Definitions.{accepted, or_refusal}
use Rattle.base_ids.specs.Refusals.{accepted_none, first_right, rows_refused, rows_followed}
use Rattle.message_format.specs.Definitions.{contents_of}
use Rattle.report_rows.specs.Definitions.{noted}
use Rattle.report_kept.specs.declared.Received.{Received}
use Rattle.report_kept.specs.Definitions.{refusal_beside, renewed}
use Rattle.report_kept.specs.Reports.{takes_in, taken_in}
use Rattle.report_kept.specs.Laws.{in-refusal, in_taken, taken_node, taken_words, taken_few}
use Rattle.report_desk.specs.Definitions.{desk_with}
use Rattle.state_planner.specs.declared.State.{State}
use Rattle.state_planner.specs.declared.Outcome.{Outcome}
use Rattle.state_planner.specs.Definitions.{keeping, desk_ok, entry_refusal, report_refusal, refusing, accepting, after_report, reported, desk_after, desk_left}
use Rattle.report_views.specs.Definitions.{is_gathering}
use Rattle.state_planner.specs.Events.{is_accepted, outcome_step}
use Rattle.state_planner.specs.EventLaws.{settles_refused, settles_accepted, answer_accepts, given_is}

-- r: the report beside what is kept and remembered
module _ (σ : List ℕ) (x : State) (w : List ℕ) (r : Received) (e : r ≡ taken_in σ x.kept x.termination x.latest w) where
  refusal_is : r.refusal ≡ refusal_beside σ x.kept x.termination x.latest w
  refusal_is = ap (λ (y : Received). y.refusal) e ∙ in-refusal σ x.kept x.termination x.latest w

  module _ (h : r.refusal.code ≡ 0) where
    beside : accepted (refusal_beside σ x.kept x.termination x.latest w) ≡ true
    beside = sym (ap accepted refusal_is) ∙ eq-eqb r.refusal.code 0 h

    taken_is : r ≡ takes_in (contents_of w) (renewed σ x.kept x.termination (contents_of w))
    taken_is = e ∙ in_taken σ x.kept x.termination x.latest w beside

    pub reporter_below : Settings σ → r.node.0 < 32
    unfolding contents_of
    reporter_below right =
        let same : r.node.0 ≡ get_or w 0 0 = ap (λ (y : Received). y.node.0) taken_is in
        rw same (taken_node σ x.kept x.termination x.latest w beside right)

    -- the next state
    next_is : (y : State) → y ≡ keeping x r.kept r.termination (with x.held r.node.0) (noted x.latest r.node.0 r.view.0)
        → y ≡ after_report σ x (contents_of w)
    unfolding after_report
    next_is y f =
        f
        ∙ ap (λ (k : Received). keeping x k.kept k.termination (with x.held k.node.0) (noted x.latest k.node.0 k.view.0)) taken_is

-- g: the phase is gathering; e: the refusal of rows 1 to 4
module _ (σ : List ℕ) (x : State) (d w : List ℕ) (g : Bool) (phase : g ≡ is_gathering x.phase) (e : Refusal) (entry : e ≡ entry_refusal (desk_ok d) σ x d g) where
  entry_is : e ≡ entry_refusal (desk_ok d) σ x d (is_gathering x.phase)
  entry_is = entry ∙ ap (entry_refusal (desk_ok d) σ x d) phase

  pub entry_refuses : (e.code ≡ 0 → ⊥) → refusing x e ≡ reported σ x d w
  unfolding reported report_refusal
  entry_refuses h = settles_refused (rows_refused entry_is _ (ne_eqb e.code 0 h)) x (after_report σ x (contents_of w)) h

  pub entry_gives : (e.code ≡ 0 → ⊥) → Err e ≡ or_refusal (report_refusal σ x d w) (after_report σ x (contents_of w))
  unfolding reported
  entry_gives h = ap outcome_step (entry_refuses h) ∙ given_is (report_refusal σ x d w) x (after_report σ x (contents_of w))

  -- r: the report beside what is kept and remembered
  module _ (h : e.code ≡ 0) (r : Received) (f : r ≡ taken_in σ x.kept x.termination x.latest w) where
    report_is : r.refusal ≡ report_refusal σ x d w
    unfolding report_refusal
    report_is = rows_followed entry_is (refusal_is σ x w r f) (eq-eqb e.code 0 h)

    pub beside_refuses : (r.refusal.code ≡ 0 → ⊥) → refusing x r.refusal ≡ reported σ x d w
    unfolding reported
    beside_refuses k = settles_refused report_is x (after_report σ x (contents_of w)) k

    pub taken_reports : r.refusal.code ≡ 0 → (y : State)
        → y ≡ keeping x r.kept r.termination (with x.held r.node.0) (noted x.latest r.node.0 r.view.0)
        → accepting y ≡ reported σ x d w
    unfolding reported
    taken_reports k y q =
        ap accepting (next_is σ x w r f k y q) ∙ settles_accepted report_is x (after_report σ x (contents_of w)) k

    pub beside_gives : (r.refusal.code ≡ 0 → ⊥) → Err r.refusal ≡ or_refusal (report_refusal σ x d w) (after_report σ x (contents_of w))
    unfolding reported
    beside_gives k = ap outcome_step (beside_refuses k) ∙ given_is (report_refusal σ x d w) x (after_report σ x (contents_of w))

    pub taken_gives : r.refusal.code ≡ 0 → (y : State)
        → y ≡ keeping x r.kept r.termination (with x.held r.node.0) (noted x.latest r.node.0 r.view.0)
        → Ok y ≡ or_refusal (report_refusal σ x d w) (after_report σ x (contents_of w))
    unfolding reported
    taken_gives k y q = ap outcome_step (taken_reports k y q) ∙ given_is (report_refusal σ x d w) x (after_report σ x (contents_of w))

-- ---- the desk

module _ (σ : List ℕ) (x : State) (b w : List ℕ) where
  -- what a report leaves: the desk's words, and its bytes
  abbrev pub ToldDesk : List ℕ → Type 0
  ToldDesk c = (words_in c ≡ desk_after σ x (words_in b) w) × (c ≡ desk_left σ x b w)

  -- a refused report leaves the desk
  leaves_desk : accepted (report_refusal σ x (words_in b) w) ≡ false → ToldDesk b
  unfolding desk_after desk_left
  leaves_desk h = (rw h, rw h)

  pub refusal_leaves : (r : Refusal) → r ≡ entry_refusal (desk_ok (words_in b)) σ x (words_in b) (is_gathering x.phase) → (r.code ≡ 0 → ⊥) → ToldDesk b
  unfolding report_refusal
  refusal_leaves r e h =
      leaves_desk (sym (ap accepted (rows_refused e (refusal_beside σ x.kept x.termination x.latest w) (ne_eqb r.code 0 h))) ∙ ne_eqb r.code 0 h)

  -- o: what the event hands back
  module _ (o : Outcome) (e : o ≡ reported σ x (words_in b) w) where
    answer_is : is_accepted o.answer ≡ accepted (report_refusal σ x (words_in b) w)
    unfolding reported
    answer_is = answer_accepts (report_refusal σ x (words_in b) w) x (after_report σ x (contents_of w)) e

    pub answer_leaves : is_accepted o.answer ≡ false → ToldDesk b
    answer_leaves h = leaves_desk (sym answer_is ∙ h)

    module _ (h : is_accepted o.answer ≡ true) where
      passes : accepted (refusal_beside σ x.kept x.termination x.latest w) ≡ true
      unfolding report_refusal
      passes = ap accepted (first_right _ _ (accepted_none (report_refusal σ x (words_in b) w) (sym answer_is ∙ h)))

      pub reporter_told : 1 ≤ length w
      reporter_told = taken_words σ x.kept x.termination x.latest w passes

      pub report_small : length w ≤ 512
      report_small = taken_few σ x.kept x.termination x.latest w passes

      pub reporter_named : Settings σ → get_or w 0 0 < 32
      reporter_named = taken_node σ x.kept x.termination x.latest w passes

      pub stored_desk : (c : List ℕ)
          → (words_in c ≡ desk_with (words_in b) (get_or w 0 0) w) × (c ≡ bytes_of (desk_with (words_in b) (get_or w 0 0) w)) → ToldDesk c
      unfolding desk_after desk_left
      stored_desk c f = (f.0 ∙ rw (sym answer_is, h), f.1 ∙ rw (sym answer_is, h))

  -- o: what the event gives
  module _ (o : Result State Refusal) (e : o ≡ or_refusal (report_refusal σ x (words_in b) w) (after_report σ x (contents_of w))) where
    is_told : is_err o ≡ not (accepted (report_refusal σ x (words_in b) w))
    unfolding or_refusal
    is_told = ap is_err e ∙ go (accepted (report_refusal σ x (words_in b) w))
      where
        go : (q : Bool) → is_err (cond q (Ok (after_report σ x (contents_of w))) (Err (report_refusal σ x (words_in b) w))) ≡ not q
        go true = refl
        go false = refl

    pub left_refused : is_err o ≡ true → is_accepted (reported σ x (words_in b) w).answer ≡ false
    left_refused h = answer_is (reported σ x (words_in b) w) refl ∙ not-true _ (sym is_told ∙ h)

    pub left_accepted : is_err o ≡ false → is_accepted (reported σ x (words_in b) w).answer ≡ true
    left_accepted h = answer_is (reported σ x (words_in b) w) refl ∙ not-false _ (sym is_told ∙ h)
