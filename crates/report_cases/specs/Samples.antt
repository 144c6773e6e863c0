-- What document 01's runs start from: settings, kept view, and a desk with the reports.
use Rattle.std.specs.Prelude.{ℕ, ◌-◌, List, [], ◌∷◌, ◌++◌, length, replicate}
use Rattle.message_format.specs.declared.Contents.{Contents}
use Rattle.report_views.specs.declared.Layout.{Layout}

-- settings with a least group size and the needs of the three shards
abbrev pub settings_with : ℕ → ℕ → List ℕ
settings_with least need0 =
    7 ∷ 3 ∷ least ∷ 3 ∷ 0 ∷ 0 ∷ 1 ∷ 1 ∷ 1 ∷ 2 ∷ 2 ∷ need0 ∷ 3 ∷ 1 ∷ []

abbrev pub case_settings : List ℕ
case_settings = settings_with 4 2

-- a report with the view of the runs under some number, and no termination; runs are its records of kind 3
abbrev pub report_under : ℕ → ℕ → List ℕ → List ℕ
report_under view node runs =
    node ∷ view ∷ 127 ∷ 1 ∷ 256 ∷ 5 ∷ 0 ∷ 2 ∷ 257 ∷ 82 ∷ 0 ∷ 3 ∷ 258 ∷ 32 ∷ 0 ∷ runs

-- a report of view 7
abbrev pub case_report : ℕ → List ℕ → List ℕ
case_report node runs = report_under 7 node runs

-- no runs, a run of shard 1, and two of them
abbrev pub no_runs : List ℕ
no_runs = 0 ∷ []

abbrev pub run1 : ℕ → ℕ → List ℕ
run1 view count = 4 ∷ 769 ∷ view ∷ count ∷ 0 ∷ []

abbrev pub two_runs1 : ℕ → ℕ → ℕ → ℕ → List ℕ
two_runs1 view count view' count' = 4 ∷ 769 ∷ view ∷ count ∷ 5 ∷ 769 ∷ view' ∷ count' ∷ 0 ∷ []

-- the slot of a message: the message, then zeros
abbrev pub slot_of : List ℕ → List ℕ
slot_of w = w ++ replicate (512 - length w) 0

-- the slots of nodes 0 to 5, before the rest of a desk; those of shard 0 have empty logs
abbrev pub six_slots : List ℕ → List ℕ → List ℕ → List ℕ → List ℕ → List ℕ
six_slots report1 report3 report4 report5 rest =
    slot_of (case_report 0 no_runs) ++ slot_of report1 ++ slot_of (case_report 2 no_runs) ++ slot_of report3 ++ slot_of report4
    ++ slot_of report5
    ++ rest

-- a desk on which nodes 0 to 5 have reported
abbrev pub desk_with_reports : List ℕ → List ℕ → List ℕ → List ℕ → List ℕ
desk_with_reports report1 report3 report4 report5 = six_slots report1 report3 report4 report5 (replicate 13312 0)

-- the desk of case A: logs are empty but for shard 1 of nodes 1 and 4
unfoldable pub desk : List ℕ
desk = desk_with_reports (case_report 1 (run1 7 5)) (case_report 3 no_runs) (case_report 4 (run1 7 4)) (case_report 5 no_runs)

-- its slots of nodes 0 to 5 alone
unfoldable pub case_slots : List ℕ
case_slots = six_slots (case_report 1 (run1 7 5)) (case_report 3 no_runs) (case_report 4 (run1 7 4)) (case_report 5 no_runs) []

-- view 7 of the runs
abbrev pub view7 : Layout
view7 = record { number = record { 0 = 7 }; members = 127; masks = 5 ∷ 82 ∷ 32 ∷ replicate 13 0 }

-- a view of six members
abbrev pub six_members : Layout
six_members = record { number = record { 0 = 7 }; members = 63; masks = 5 ∷ 18 ∷ 32 ∷ replicate 13 0 }

-- contents with two runs of shard 0, or one, or none
abbrev pub log_of : ℕ → List ℕ → Contents
log_of len runs =
    record { node = record { 0 = 0 }; view = record { 0 = 7 }; members = 1; len = len; body = runs }
