-- Each row is what decide answers for the state with that mask held and each node remembered at its report's view; it is 0 or one of 2 to 5,
-- and there is one outcome. From what readiness and decide promise alone.
use Rattle.std.specs.Prelude.{ℕ, ◌-◌, ◌^◌, ◌<◌, ◌≤◌, Bool, true, cond, not, ◌&&◌, List, ◌⊎◌, ◌≡◌, eqb, leb, length, get_or}
use Rattle.std.proofs.Math.Logic.{inl, inr, ⊎_elim}
use Rattle.std.proofs.Math.Path.{refl, ap}
use Rattle.std.proofs.Common.{sym, ◌∙◌, subst, arith, pow_pos, eqb-true, leb-true}
use Rattle.std.proofs.lemmas.Bool.{eqb-false}
use Rattle.base_laws.specs.Bools.{either, and_left, and_right, of_not_true}
use Rattle.base_laws.specs.Definitions.{has}
use Rattle.base_laws.specs.Masks.{lt_within, has_below, has_full, has_past}
use Rattle.base_laws.specs.Tables.{get_d_tabulate}
use Rattle.base_ids.specs.declared.View.{View}
use Rattle.base_ids.specs.Definitions.{none, accepted}
use Rattle.base_ids.specs.Refusals.{accepted_none, unless_ok, unless_rest, unless_none, first_left, first_right}
use Rattle.settings_values.specs.Definitions.{nodes, settings_ok}
use Rattle.settings_values.specs.Laws.{settings_give}
use Rattle.report_views.specs.declared.Quorum.{Quorum}
use Rattle.report_views.specs.declared.Quorum.TheVariants.{Met, Short}
use Rattle.report_views.specs.declared.Reason.{Reason}
use Rattle.report_views.specs.declared.Reason.TheVariants.{NoPlacement}
use Rattle.report_views.specs.Meets.{slot_given}
use Rattle.report_views.specs.Definitions.{number_of, mask_at, slots_ok, is_gathering}
use Rattle.report_views.specs.Shorthands.{view_of}
use Rattle.report_rows.specs.Definitions.{latest_at, latest_sound}
use Rattle.report_rows.specs.Laws.{latest-test}
use Rattle.plan_masks.specs.Counting.{counted_of, slots_fewer, quorum_given}
use Rattle.plan_masks.specs.Definitions.{Numbered}
use Rattle.plan_masks.specs.Numbered.{in-range, refuted}
use Rattle.plan_masks.specs.Rows.{rows_one}
use Rattle.state_planner.specs.declared.State.{State}
use Rattle.state_planner.specs.declared.Decision.{Decision}
use Rattle.state_planner.specs.declared.Decided.{Decided}
use Rattle.state_planner.specs.Definitions.{sound, keeping, desk_ok, entry_refusal, decide_refusal, Decides}
use Rattle.state_laws.specs.Parts.{SoundState, sound_given, sound-test, kept_given, kept_test, kept_view, gathering_is, marks_still, plan_still, entry_given}
use Rattle.state_laws.specs.Carried.{reported_views}
use Rattle.state_readiness.specs.declared.ReadyRows.{ReadyRows}
use Rattle.state_readiness.specs.Definitions.{ready, slots_refusal, size_refusal, ready_refusal, desk_says, Readies}
use Rattle.state_readiness.specs.Steps.{among_all, given_all}

-- the state with h held, and each node remembered at its report's view
unfoldable pub as_held : List ℕ → State → List ℕ → ℕ → State
as_held σ x d h = keeping x x.kept x.termination h (reported_views (2 ^ nodes σ - 1) d)

-- the number that stands for a decision: 0 for a plan, else the wait's
abbrev pub SaysNumber : Decision → ℕ → Type 0
SaysNumber a k = ((a ≡ Decision.Planned) × (k ≡ 0)) ⊎ ((reason : Reason) × (a ≡ Decision.Wait reason) × (k ≡ number_of reason))

-- ---- what it means that nothing is refused

pub record ReadyGiven (limits : Bool) (σ : List ℕ) (x : State) (d : List ℕ) : Type 0 where
  pub settings-ok : settings_ok σ ≡ true
  pub desk-ok : desk_ok d ≡ true
  pub parts : SoundState σ x d
  pub in-phase : is_gathering x.phase ≡ true
  pub few : nodes σ ≤ 10
  pub in-limits : limits ≡ true
  pub kept : x.kept.number.0 ≡ 0 → ⊥
  pub slots : slots_ok σ x.kept x.termination (2 ^ nodes σ - 1) d ≡ true

pub ready_given : (limits : Bool) (σ : List ℕ) (x : State) (d : List ℕ) → accepted (ready_refusal limits σ x d) ≡ true → ReadyGiven limits σ x d
unfolding ready_refusal decide_refusal size_refusal slots_refusal ready
ready_given limits σ x d taken =
    let h = accepted_none (ready_refusal limits σ x d) taken in
    let size = leb (nodes σ) 10 in
    let all = ready σ x.kept x.termination d in
    let e = entry_given (desk_ok d) σ x d (is_gathering x.phase) (first_left (decide_refusal σ x d) (size_refusal limits σ x d) h) in
    let s : size_refusal limits σ x d ≡ none = first_right (decide_refusal σ x d) (size_refusal limits σ x d) h in
    let small = unless_ok (size && limits) 21 (slots_refusal σ x d) s in
    let fine : all ≡ true = unless_ok all 22 none (unless_rest (size && limits) 21 (slots_refusal σ x d) s) in
    let view = not (eqb x.kept.number.0 0) in
    record {
      settings-ok = e.settings-ok;
      desk-ok = e.lengths-ok;
      parts = sound_given σ x d e.state_sound;
      in-phase = e.in-phase;
      few = leb-true (nodes σ) 10 (and_left size limits small);
      in-limits = and_right size limits small;
      kept = eqb-false x.kept.number.0 0 (of_not_true (eqb x.kept.number.0 0) (and_left view _ fine));
      slots = and_right view _ fine;
    }

-- ---- the state of a row is sound, and decide takes it

reported-at : (held : ℕ) (d : List ℕ) (n : ℕ) → n < 32 → latest_at (reported_views held d) n ≡ cond (has held n) (view_of d n) 0
reported-at held d n l = ap (λ (w : View). w.0) (get_d_tabulate 32 (λ k. record { 0 = cond (has held k) (view_of d k) 0 }) n (record { 0 = 0 }) l)

module _ (limits : Bool) (σ : List ℕ) (x : State) (d : List ℕ) (g : ReadyGiven limits σ x d) (h : ℕ) (l : h < 2 ^ nodes σ) where
  held_slots : slots_ok σ x.kept x.termination h d ≡ true
  held_slots = slots_fewer σ x.kept x.termination (2 ^ nodes σ - 1) h d (among_all (nodes σ) h l) g.slots

  own_view : (n : ℕ) → n < 32 → has h n ≡ true → latest_at (reported_views (2 ^ nodes σ - 1) d) n ≡ view_of d n
  own_view n m p = reported-at (2 ^ nodes σ - 1) d n m ∙ rw (has_full (nodes σ) n (has_below h (nodes σ) n l p))

  none_above : (n : ℕ) → n < 32 → nodes σ ≤ n → latest_at (reported_views (2 ^ nodes σ - 1) d) n ≡ 0
  none_above n m p =
      reported-at (2 ^ nodes σ - 1) d n m ∙ rw (has_past (2 ^ nodes σ - 1) (nodes σ) n (let z : 0 < 2 ^ nodes σ = pow_pos (nodes σ) in omega arith) p)

  held_latest : latest_sound σ x.kept.number.0 h d (reported_views (2 ^ nodes σ - 1) d) ≡ true
  held_latest =
      latest-test σ x.kept.number.0 h d (reported_views (2 ^ nodes σ - 1) d)
      (record {
        from_report = λ n m p. omega (arith, own_view n m p);
        to_kept = λ n m p. omega (arith, own_view n m p, (slot_given σ x.kept x.termination h d held_slots n m p).no_later);
        none_past = none_above;
      })

  pub held_sound : sound σ (as_held σ x d h) d ≡ true
  unfolding as_held keeping
  held_sound =
      let k = kept_given σ x.kept x.termination x.held g.parts.kept-sound in
      let o = gathering_is x.phase g.in-phase in
      sound-test σ (as_held σ x d h) d
      (record {
        kept-sound = kept_test σ x.kept x.termination h
            (record {
              view_kept = inr (kept_view σ x.kept x.termination x.held k g.kept);
              term-sound = k.term-sound;
              held_within = lt_within (nodes σ) h l;
            });
        slots-ok = held_slots;
        marks-sound = marks_still x.phase x.held h x.fetched x.prepared o g.parts.marks-sound;
        latest-sound = held_latest;
        plan-fits = plan_still x.phase σ x.kept x.kept x.termination x.termination x.held h d d x.plan o g.parts.plan-fits;
      })

  pub held_decided : accepted (decide_refusal σ (as_held σ x d h) d) ≡ true
  unfolding decide_refusal entry_refusal as_held keeping
  held_decided =
      ap accepted
      (unless_none (desk_ok d) 1 _ g.desk-ok
      (unless_none (settings_ok σ) 2 _ g.settings-ok (unless_none (sound σ (as_held σ x d h) d) 3 _ held_sound (unless_none (is_gathering x.phase) 4 none g.in-phase refl))))

  -- decide's answer and the row are one number
  pub row_says : (k : ℕ) → Numbered σ h (desk_says σ x d h) k → (r : Decided) → Decides σ (as_held σ x d h) d r → SaysNumber r.decision k
  unfolding as_held keeping number_of
  row_says k n r decides = by (desk_says σ x d h) refl
    where
      by : (q : Quorum) → desk_says σ x d h ≡ q → SaysNumber r.decision k
      by (Short reason) e =
          inr (reason, ap (λ (o : Decided). o.decision) (decides.waits held_decided reason e), n.waits reason e)
      by Met e =
          ⊎_elim
          (λ w.
          ⊎_elim (λ p. inl (ap (λ (o : Decided). o.decision) w.given, p.0))
          (λ p. absurd (refuted σ h (λ i m. (mask_at w.plan.layout, (w.plans.chosen i m).least.valid)) p.1)) (n.met e))
          (λ s.
          ⊎_elim (λ p. absurd (refuted σ h p.1 (s.group, s.lowest)))
          (λ p. inr (NoPlacement s.group, ap (λ (o : Decided). o.decision) s.given, p.0)) (n.met e))
          (decides.answers held_decided e)

-- ---- readiness

module _ (limits : Bool) (σ : List ℕ) (x : State) (d : List ℕ) (r : ReadyRows) (readies : Readies limits σ x d r) where
  module _ (taken : accepted (ready_refusal limits σ x d) ≡ true) (h : ℕ) (l : h < 2 ^ nodes σ) where
    -- the row of a mask is what decide answers with the mask held
    pub row_is_decide : (s : Decided) → Decides σ (as_held σ x d h) d s → SaysNumber s.decision (get_or r.rows h 0)
    row_is_decide s decides =
        row_says limits σ x d (ready_given limits σ x d taken) h l (get_or r.rows h 0) ((readies.told taken).each h l) s decides

    -- it is 0, or one of waits 2 to 5
    pub row_in_range : (get_or r.rows h 0 ≡ 0) ⊎ ((2 ≤ get_or r.rows h 0) × (get_or r.rows h 0 ≤ 5))
    row_in_range =
        let g = ready_given limits σ x d taken in
        let right = settings_give σ g.settings-ok in
        let c = counted_of σ x.kept x.termination (2 ^ nodes σ - 1) d in
        let same = quorum_given σ x.kept x.termination (2 ^ nodes σ - 1) h d c.masks right l
        (given_all σ x.kept x.termination d right (eqb-true (length d) 16384 g.desk-ok) g.slots c refl h l) in
        in-range σ x.kept h c.masks (get_or r.rows h 0) g.kept
        (subst (λ (q : Quorum). Numbered σ h q (get_or r.rows h 0)) (sym same) ((readies.told taken).each h l))

  -- there is one outcome
  pub readies_one : (s : ReadyRows) → Readies limits σ x d s → r ≡ s
  readies_one s other = λ i. record { refusal = refusals i; rows = rows i }
    where
      refusals : r.refusal ≡ s.refusal
      refusals = readies.answers ∙ sym other.answers

      rows : r.rows ≡ s.rows
      rows =
          ⊎_elim (λ t. rows_one σ (desk_says σ x d) r.rows s.rows (readies.told t) (other.told t))
          (λ f. readies.blank f ∙ sym (other.blank f)) (either (accepted (ready_refusal limits σ x d)))
