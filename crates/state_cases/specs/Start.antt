-- The states that document 01's runs start from, and the desk of case C.
use Rattle.std.specs.Prelude.{ℕ, cond, List, [], ◌∷◌, ◌++◌, replicate}
use Rattle.base_laws.specs.Definitions.{has, tabulate}
use Rattle.report_views.specs.declared.Layout.{Layout}
use Rattle.report_views.specs.declared.Phase.TheVariants.{Gathering}
use Rattle.history_cases.specs.Runs.{case_report, no_runs, run1, slot_of, six_slots}
use Rattle.report_views.specs.Definitions.{no_termination, no_plan}
use Rattle.report_rows.specs.declared.latest.Latest.{Latest}
use Rattle.state_planner.specs.declared.State.{State}

-- these nodes have reported the view of this number, and no others any
abbrev pub reported_at : ℕ → ℕ → Latest
reported_at number held = record { views = tabulate 32 (λ n. record { 0 = cond (has held n) number 0 }) }

-- gathering: a kept view without a termination, and the held nodes, which have reported it
abbrev pub gathered : Layout → ℕ → State
gathered v held =
    record {
      phase = Gathering;
      kept = v;
      termination = no_termination;
      held = held;
      fetched = 0;
      prepared = 0;
      plan = no_plan;
      latest = reported_at v.number.0 held;
    }

-- a report of view 7 of case C: members 0 to 5, empty logs
abbrev pub report_of_six : ℕ → List ℕ
report_of_six node =
    node ∷ 7 ∷ 63 ∷ 1 ∷ 256 ∷ 5 ∷ 0 ∷ 2 ∷ 257 ∷ 18 ∷ 0 ∷ 3 ∷ 258 ∷ 32 ∷ 0 ∷ 0 ∷ []

-- the desk of case C: nodes 0 to 3 report
unfoldable pub desk_of_six : List ℕ
desk_of_six =
    slot_of (report_of_six 0) ++ slot_of (report_of_six 1) ++ slot_of (report_of_six 2) ++ slot_of (report_of_six 3)
    ++ replicate 14336 0

-- the desk of case A with a report of node 6 too
unfoldable pub desk_of_seven : List ℕ
desk_of_seven =
    six_slots (case_report 1 (run1 7 5)) (case_report 3 no_runs) (case_report 4 (run1 7 4)) (case_report 5 no_runs)
    (slot_of (case_report 6 no_runs) ++ replicate 12800 0)
