-- A row for each clause of when previews are refused and of what they hand back: with the clause left out or turned round the row would be
-- false. The states are document 01's: case A's gathering and ordered, and the fresh one.
use Rattle.std.specs.Prelude.{ℕ, true, false, List, [], ◌≡◌, refl}
use Rattle.std.proofs.Common.{sym, ap, ◌∙◌}
use Rattle.base_laws.specs.Definitions.{all_below, has, tabulate}
use Rattle.base_laws.specs.Bools.{clash, no_true, no_false}
use Rattle.base_laws.specs.Masks.{has_zero, ext_all}
use Rattle.base_ids.specs.declared.Refusal.{Refusal}
use Rattle.base_ids.specs.Definitions.{none, refused, accepted, unless, first_of}
use Rattle.base_ids.specs.Refusals.{accepted_none}
use Rattle.settings_values.specs.Definitions.{cap, sizes_ok, nodes_ok, shard_ok, shards_ok, settings_ok}
use Rattle.message_format.specs.Definitions.{view_ok, shard_apart, row10_at, row10}
use Rattle.report_views.specs.declared.Reason.TheVariants.{NoHolder}
use Rattle.report_views.specs.Definitions.{slots_ok, layout_tidy, layout_blank, view_sound, term_sound_at, term_sound, nothing_kept, kept_sound, marks_sound, plan_blank, plan_fits}
use Rattle.report_rows.specs.Definitions.{no_latest, recalled, latest_sound}
use Rattle.history_cases.specs.Runs.{case_settings, desk, view7}
use Rattle.history_cases.proofs.Cases.{cases}
use Rattle.plan_masks.specs.Numbered.{short_met}
use Rattle.state_rows.specs.Definitions.{node_refusal}
use Rattle.state_planner.specs.declared.State.{State}
use Rattle.state_planner.specs.declared.Decision.TheVariants.{Planned, Wait, Refused}
use Rattle.state_planner.specs.declared.Decided.{Decided}
use Rattle.state_planner.specs.Definitions.{sound, fresh, holding, marked, entry_refusal, event_refusal, decide_refusal, still}
use Rattle.state_preview.specs.declared.Warning.{Warning}
use Rattle.state_preview.specs.Definitions.{preview_refusal, Previews, Warns}
use Rattle.state_preview.specs.Laws.{is_wait, copied, copy_taken}
use Rattle.state_cases.specs.Start.{gathered}
use Rattle.state_cases.specs.Taken.{taken}
use Rattle.state_cases.specs.Events.{ordered_a, refusal_clauses}

-- case A: nodes 0 to 5 are held
abbrev six_held : State
six_held = gathered view7 63

-- the fresh state with a mark: unsound
abbrev marking : State
marking = marked fresh fresh.phase 1 0

pub record PreviewRows : Type 0 where
  -- the desk's length, the settings, the state, the phase, the node
  pub short_desk : preview_refusal case_settings six_held [] 5 ≡ refused 1
  pub wrong_settings : preview_refusal [] marking desk 5 ≡ refused 2
  pub unsound : preview_refusal case_settings marking desk 7 ≡ refused 3
  pub ordered : preview_refusal case_settings ordered_a desk 7 ≡ refused 4
  pub beyond : preview_refusal case_settings six_held desk 7 ≡ refused 6
  pub absent : preview_refusal case_settings six_held desk 6 ≡ refused 14
  pub held : preview_refusal case_settings six_held desk 5 ≡ none
  -- beside a refusal the state, and no node
  pub handed-back : {p : Decided} → Previews case_settings six_held desk 6 p → p ≡ still six_held (Refused (refused 14))
  pub none_told : {r : Warning} → Warns case_settings ordered_a desk r → r ≡ record { refusal = refused 4; lost = 0 }
  -- case A without node 5 is case F: shard 2 has no holder. The copy alone has dropped it, and remembers what it reported
  pub waits : {p : Decided} → Previews case_settings six_held desk 5 p → p ≡ still (holding six_held 31) (Wait (NoHolder (record { 0 = 2 })))
  pub lost : {r : Warning} → Warns case_settings six_held desk r → (r.refusal ≡ none) × (has r.lost 5 ≡ true)
  -- nobody is held, so nobody is lost
  pub nobody : {r : Warning} → Warns case_settings fresh desk r → r ≡ record { refusal = none; lost = 0 }
  -- a wait is one
  pub plan_waits : is_wait Planned ≡ false
  pub wait_waits : is_wait (Wait (NoHolder (record { 0 = 2 }))) ≡ true
  pub refused_waits : is_wait (Refused (refused 14)) ≡ false

marking_unsound : sound case_settings marking desk ≡ false
unfolding all_below tabulate view_ok shard_apart row10_at row10 slots_ok layout_tidy layout_blank view_sound term_sound_at term_sound nothing_kept kept_sound marks_sound plan_blank plan_fits no_latest recalled latest_sound fresh marked sound
marking_unsound = refl

-- rows 1 to 4 are decide's
first_rows : (σ : List ℕ) (x : State) (d : List ℕ) (n : ℕ) {k : Refusal} → decide_refusal σ x d ≡ k
    → preview_refusal σ x d n ≡ first_of k (node_refusal σ n (has x.held n))
unfolding preview_refusal event_refusal decide_refusal
first_rows σ x d n e = ap (λ (r : Refusal). first_of r (node_refusal σ n (has x.held n))) e

marking_refused : decide_refusal case_settings marking desk ≡ refused 3
unfolding desk all_below sizes_ok nodes_ok cap shard_ok shards_ok settings_ok unless entry_refusal decide_refusal
marking_refused = rw marking_unsound

unset_refused : decide_refusal [] marking desk ≡ refused 2
unfolding desk sizes_ok settings_ok unless entry_refusal decide_refusal
unset_refused = refl

six_absent : preview_refusal case_settings six_held desk 6 ≡ refused 14
unfolding first_of unless node_refusal
six_absent = first_rows case_settings six_held desk 6 refusal_clauses.decide_taken

six-held : preview_refusal case_settings six_held desk 5 ≡ none
unfolding first_of unless node_refusal
six-held = first_rows case_settings six_held desk 5 refusal_clauses.decide_taken

six_waits : {p : Decided} → Previews case_settings six_held desk 5 p → p ≡ still (holding six_held 31) (Wait (NoHolder (record { 0 = 2 })))
unfolding holding
six_waits w =
    let t = ap accepted six-held in
    (copied case_settings six_held desk 5 w t).waits (ap accepted (copy_taken case_settings six_held desk 5 t)) (NoHolder (record { 0 = 2 })) cases.f

-- a warning is its refusal and its mask
warning_is : {r q : Warning} → r.refusal ≡ q.refusal → r.lost ≡ q.lost → r ≡ q
warning_is a b = λ i. record { refusal = a i; lost = b i }

pub preview_rows : PreviewRows
unfolding fresh first_of unless node_refusal is_wait
preview_rows =
    record {
      short_desk = first_rows case_settings six_held [] 5 refusal_clauses.decide_desk;
      wrong_settings = first_rows [] marking desk 5 unset_refused;
      unsound = first_rows case_settings marking desk 7 marking_refused;
      ordered = first_rows case_settings ordered_a desk 7 refusal_clauses.decide_ordered;
      beyond = first_rows case_settings six_held desk 7 refusal_clauses.decide_taken;
      absent = six_absent;
      held = six-held;
      handed-back = λ {p} w. w.refused (ap accepted six_absent) ∙ ap (λ (r : Refusal). still six_held (Refused r)) six_absent;
      none_told = λ {r} w. warning_is (w.answers ∙ refusal_clauses.decide_ordered) (w.blank (ap accepted refusal_clauses.decide_ordered));
      waits = six_waits;
      lost = λ {r} w. (
        w.answers ∙ refusal_clauses.decide_taken,
        no_false (has r.lost 5) (λ h.
            short_met (NoHolder (record { 0 = 2 })) (sym cases.f ∙ ((w.told (ap accepted refusal_clauses.decide_taken)).plans 5 refl h).quorum)),
      );
      nobody = λ {r} w.
          warning_is (w.answers ∙ accepted_none (decide_refusal case_settings fresh desk) taken.d)
          (ext_all r.lost 0 (λ n. no_true (has r.lost n) (λ h. clash ((w.told taken.d).waits n h).0 (has_zero n)) ∙ sym (has_zero n)));
      plan_waits = refl;
      wait_waits = refl;
      refused_waits = refl;
    }
