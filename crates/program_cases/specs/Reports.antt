-- What the blocks of document 01's runs lead to, and that decide refuses none of it.
use Rattle.std.specs.Prelude.{ℕ, true, List, [], ◌∷◌, ◌≡◌, refl, replicate}
use Rattle.std.proofs.Common.{ap, ◌∙◌}
use Rattle.base_laws.specs.Definitions.{all_below, any_below, lowest, tabulate, padded}
use Rattle.settings_values.specs.Definitions.{cap, sizes_ok, nodes_ok, shard_ok, shards_ok, settings_ok}
use Rattle.base_ids.specs.Definitions.{accepted, unless, unless_at, first_of}
use Rattle.message_format.specs.Definitions.{place, following, row5, row8, precedes, shards_where, row6, view_ok, row7, kind_ok, plain, kind_at, shard_at, surplus, sequence_at, complete, shard_apart, row10_at, row10, is_position, view_fits, legal, row11_at, body_word, body_of, contents_of, records_refusal, head_refusal, message_refusal}
use Rattle.report_views.specs.Definitions.{same_view, row12, same_termination, row13}
use Rattle.report_rows.specs.Definitions.{no_latest, row18, noted}
use Rattle.report_kept.specs.Definitions.{kept_refusal, refusal_beside, layout_of, termination_of, renewed}
use Rattle.report_desk.specs.Definitions.{desk_with}
use Rattle.history_cases.specs.Runs.{case_settings, settings_with, case_report, no_runs, run1, desk, view7, six_members}
use Rattle.state_planner.specs.declared.State.{State}
use Rattle.state_planner.specs.Definitions.{fresh, keeping, decide_refusal, after_report}
use Rattle.state_cases.specs.Start.{gathered, report_of_six}
use Rattle.program_run.specs.Definitions.{Underway, at_start, after}
use Rattle.program_run_laws.proofs.Reaches.{decide_none}
use Rattle.program_run_laws.specs.Accepted.{state_after, desk_of, all_accepted}
use Rattle.program_run_laws.proofs.Accepted.{run_leads}

-- the reports of case A: nodes 0 to 2, 0 to 4, and all
abbrev pub first_three : List (List ℕ) → List (List ℕ)
first_three more = case_report 0 no_runs ∷ case_report 1 (run1 7 5) ∷ case_report 2 no_runs ∷ more

abbrev pub first_five : List (List ℕ) → List (List ℕ)
first_five more = first_three (case_report 3 no_runs ∷ case_report 4 (run1 7 4) ∷ more)

abbrev pub all_six : List (List ℕ)
all_six = first_five (case_report 5 no_runs ∷ [])

-- the reports of case C: members 0 to 5
abbrev pub three_of_six : List (List ℕ) → List (List ℕ)
three_of_six more = report_of_six 0 ∷ report_of_six 1 ∷ report_of_six 2 ∷ more

abbrev pub empty_desk : List ℕ
empty_desk = replicate 16384 0

-- the settings are right, every report is accepted, and the state after them
record Come (σ : List ℕ) (ws : List (List ℕ)) (x : State) : Type 0 where
  right : settings_ok σ ≡ true
  taken : all_accepted σ fresh ws ≡ true
  state : state_after σ fresh ws ≡ x

-- cases A to F and I
record CasesCome : Type 0 where
  a : Come case_settings all_six (gathered view7 63)
  b : Come case_settings (first_three []) (gathered view7 7)
  c : Come case_settings (three_of_six []) (gathered six_members 7)
  d : Come case_settings [] fresh
  e : Come (settings_with 7 2) all_six (gathered view7 63)
  f : Come case_settings (first_five []) (gathered view7 31)
  i : Come (settings_with 4 3) all_six (gathered view7 63)

comes : CasesCome
unfolding sizes_ok nodes_ok cap shard_ok shards_ok settings_ok state_after all_accepted fresh keeping all_below any_below lowest tabulate padded unless unless_at first_of place following row5 row8 precedes shards_where row6 view_ok row7 kind_ok plain kind_at shard_at surplus sequence_at complete shard_apart row10_at row10 is_position view_fits legal row11_at body_word body_of contents_of records_refusal head_refusal message_refusal same_view row12 same_termination row13 row18 kept_refusal refusal_beside layout_of termination_of renewed no_latest noted after_report
comes =
    record {
      a = record { right = refl; taken = refl; state = refl };
      b = record { right = refl; taken = refl; state = refl };
      c = record { right = refl; taken = refl; state = refl };
      d = record { right = refl; taken = refl; state = refl };
      e = record { right = refl; taken = refl; state = refl };
      f = record { right = refl; taken = refl; state = refl };
      i = record { right = refl; taken = refl; state = refl };
    }

-- the desk of cases A, E and I
desk-of-six : desk_of empty_desk all_six ≡ desk
unfolding desk_of desk_with padded tabulate desk
desk-of-six = refl

-- ---- what the blocks lead to

module _ {σ : List ℕ} {ws : List (List ℕ)} {x : State} where
  leads : Come σ ws x → after at_start (σ ∷ ws) ≡ Underway σ x (desk_of empty_desk ws)
  leads c = run_leads σ ws c.right c.taken ∙ ap (λ (y : State). Underway σ y (desk_of empty_desk ws)) c.state

  -- decide refuses nothing there
  decides : Come σ ws x → accepted (decide_refusal σ x (desk_of empty_desk ws)) ≡ true
  decides c = ap accepted (decide_none (σ ∷ ws) σ x (desk_of empty_desk ws) (leads c))

-- with the desk of case A
with_desk : {σ : List ℕ} {x : State} → Come σ all_six x → after at_start (σ ∷ all_six) ≡ Underway σ x desk
with_desk {σ} {x} c = leads c ∙ ap (Underway σ x) desk-of-six

pub leads_a : after at_start (case_settings ∷ all_six) ≡ Underway case_settings (gathered view7 63) desk
leads_a = with_desk comes.a

pub leads_b : after at_start (case_settings ∷ first_three []) ≡ Underway case_settings (gathered view7 7) (desk_of empty_desk (first_three []))
leads_b = leads comes.b

pub leads_c : after at_start (case_settings ∷ three_of_six []) ≡ Underway case_settings (gathered six_members 7) (desk_of empty_desk (three_of_six []))
leads_c = leads comes.c

pub leads_d : after at_start (case_settings ∷ []) ≡ Underway case_settings fresh (desk_of empty_desk [])
leads_d = leads comes.d

pub leads_e : after at_start (settings_with 7 2 ∷ all_six) ≡ Underway (settings_with 7 2) (gathered view7 63) desk
leads_e = with_desk comes.e

pub leads_f : after at_start (case_settings ∷ first_five []) ≡ Underway case_settings (gathered view7 31) (desk_of empty_desk (first_five []))
leads_f = leads comes.f

pub leads_i : after at_start (settings_with 4 3 ∷ all_six) ≡ Underway (settings_with 4 3) (gathered view7 63) desk
leads_i = with_desk comes.i

-- decide refuses none of these
pub record CasesTaken : Type 0 where
  pub b : accepted (decide_refusal case_settings (gathered view7 7) (desk_of empty_desk (first_three []))) ≡ true
  pub c : accepted (decide_refusal case_settings (gathered six_members 7) (desk_of empty_desk (three_of_six []))) ≡ true
  pub d : accepted (decide_refusal case_settings fresh (desk_of empty_desk [])) ≡ true
  pub f : accepted (decide_refusal case_settings (gathered view7 31) (desk_of empty_desk (first_five []))) ≡ true

pub taken : CasesTaken
taken = record { b = decides comes.b; c = decides comes.c; d = decides comes.d; f = decides comes.f }
