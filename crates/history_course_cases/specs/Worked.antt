-- A worked course of nodes 0 to 2, which all carry the one shard in view 1 and have logged its first 1, 3 and 2 updates. Nodes 0 and 2 are
-- restarted and given up when node 0 has fetched; then nodes 0 and 1 are restarted, log view 2 and store under it; then all three come back,
-- node 2 with view 1, and a termination is kept. Every duty is met on the way, and the plan has what was settled at the beginning.
use Rattle.std.specs.Prelude.{ℕ, ◌<◌, Bool, true, not, ◌&&◌, ◌||◌, List, [], ◌∷◌, ◌++◌, ◌≡◌, refl, eqb, get_or, replicate}
use Rattle.std.proofs.Common.{arith}
use Rattle.std.specs.Int.Count.{ones, ones_in}
use Rattle.base_laws.specs.Definitions.{all_below, any_below, lowest, has, pair_not_after, tabulate}
use Rattle.settings_values.specs.Definitions.{settings_ok}
use Rattle.base_ids.specs.Definitions.{not_after, unless, unless_at, first_of}
use Rattle.base_ids.specs.declared.Position.{Position}
use Rattle.message_format.specs.Definitions.{place, following, row5, row8, precedes, shards_where, row6, view_ok, row7, kind_ok, plain, kind_at, shard_at, surplus, sequence_at, complete, shard_apart, row10_at, row10, is_position, view_fits, legal, row11_at, body_word, body_of, contents_of, records_refusal, head_refusal, message_refusal}
use Rattle.report_views.specs.declared.Layout.{Layout}
use Rattle.report_views.specs.declared.Termination.{Termination}
use Rattle.report_views.specs.Definitions.{no_termination, pos, start, end_of, reaches, holds, has_update, runs_from, runs_of, slot, report_of, holds_at, mask_at, same_view, row12, same_termination, row13, term_kept, slot_ok, slots_ok, candidate, greatest, best, target, able, holder}
use Rattle.report_views.specs.Meets.{QuorumMet}
use Rattle.report_views.specs.Updates.{updates_after, updates_in, those_of}
use Rattle.report_log_laws.specs.Stretches.{among}
use Rattle.place_groups.specs.Definitions.{group_valid, group_moves}
use Rattle.history_laws.specs.Definitions.{History}
use Rattle.history_cases.specs.Runs.{slot_of}
use Rattle.history_cases.specs.Told.{told_by, reports_test}
use Rattle.history_cases.specs.Supposing.{view_of_all, report_of_all}
use Rattle.history_course_laws.specs.Course.{Orderly, Settled, PlannedView, Covers, GivenUp, cut_for, as_ordered}
use Rattle.history_course_laws.specs.Ever.{Restart, Course}
use Rattle.history_course_laws.specs.Counting.{first_orderly}
use Rattle.history_course_cases.specs.Steps.{of_every, same_log, orderly_of, settled_of, next_of, met_of, none_ended, covers_of, plan_from, planned_log, planned_of, ordered_of, remembered_of, given_up_of}

-- three nodes of three failure sets; the shard needs two of them and may have all three
abbrev pub course_settings : List ℕ
course_settings = 3 ∷ 3 ∷ 2 ∷ 1 ∷ 0 ∷ 1 ∷ 2 ∷ 196610 ∷ []

-- a report of a view with the shard's mask; what follows are its runs
abbrev pub report_of_shard : ℕ → ℕ → ℕ → ℕ → List ℕ → List ℕ
report_of_shard node number members mask rest = slot_of (node ∷ number ∷ members ∷ 1 ∷ 256 ∷ mask ∷ 0 ∷ rest)

-- one run, and two
abbrev pub run_of : ℕ → ℕ → List ℕ
run_of v c = 2 ∷ 768 ∷ v ∷ c ∷ 0 ∷ []

abbrev pub runs_up_to : ℕ → ℕ → ℕ → ℕ → List ℕ
runs_up_to u a v c = 2 ∷ 768 ∷ u ∷ a ∷ 3 ∷ 768 ∷ v ∷ c ∷ 0 ∷ []

-- runs of views 1 and 2, after a termination at update 1 of view 2
abbrev pub ended_runs : ℕ → List ℕ
ended_runs c = 2 ∷ 512 ∷ 2 ∷ 1 ∷ 3 ∷ 768 ∷ 1 ∷ 3 ∷ 4 ∷ 768 ∷ 2 ∷ c ∷ 0 ∷ []

-- ---- at the beginning

unfoldable pub desk_at_first : List ℕ
desk_at_first = report_of_all 0 1 7 1 ++ report_of_all 1 1 7 3 ++ report_of_all 2 1 7 2 ++ replicate 14848 0

abbrev pub first_views : List Layout
first_views = view_of_all 1 7 ∷ []

abbrev pub at_first : History
at_first = told_by first_views (7 ∷ []) desk_at_first

pub orderly_first : Orderly at_first
orderly_first = first_orderly (view_of_all 1 7) at_first.logged at_first.updated

-- all members have logged update 1
pub settled_first : Settled at_first 0 (pos 1 1)
unfolding desk_at_first all_below any_below lowest tabulate place following body_word body_of contents_of reaches holds slot report_of
settled_first = settled_of at_first 0 (pos 1 1) refl

-- ---- nodes 0 and 2 are restarted: node 2 is the holder, and both are placed

pub slots_first : slots_ok course_settings (view_of_all 1 7) no_termination 5 desk_at_first ≡ true
unfolding desk_at_first all_below any_below lowest tabulate unless unless_at first_of place following row5 row8 precedes shards_where row6 view_ok row7 kind_ok plain kind_at shard_at surplus sequence_at complete shard_apart row10_at row10 is_position view_fits legal row11_at body_word body_of contents_of records_refusal head_refusal message_refusal slot report_of same_view row12 same_termination row13 term_kept slot_ok slots_ok
slots_first = refl

pub target_first : target (view_of_all 1 7) no_termination 5 desk_at_first 0 ≡ pos 1 2
unfolding desk_at_first all_below any_below lowest tabulate pair_not_after place following body_word body_of contents_of end_of slot report_of candidate greatest best target
target_first = refl

pub holder_first : holder (view_of_all 1 7) no_termination 5 desk_at_first 0 ≡ 2
unfolding desk_at_first all_below any_below lowest tabulate pair_not_after place following body_word body_of contents_of end_of slot report_of candidate greatest best target reaches holds has_update able holder
holder_first = refl

pub met_first : QuorumMet course_settings (view_of_all 1 7) no_termination 5 desk_at_first
unfolding ones ones_in
met_first =
    met_of course_settings (view_of_all 1 7) no_termination 5 desk_at_first 2
    refl (omega arith) (omega arith) (omega arith) (omega arith) holder_first

pub reports_first : reports_test course_settings first_views (7 ∷ []) desk_at_first 5 [] ≡ true
unfolding desk_at_first all_below slot report_of contents_of body_of body_word tabulate place following lowest any_below
reports_first = refl

pub next_first : PlannedView course_settings (view_of_all 1 7) 5 (view_of_all 2 5)
unfolding all_below
next_first = next_of course_settings (view_of_all 1 7) 5 (view_of_all 2 5) refl refl refl

abbrev pub given_up_plan : Restart 1 at_first
given_up_plan =
    plan_from course_settings first_views (7 ∷ []) desk_at_first (view_of_all 1 7) no_termination 5 (view_of_all 2 5)
    (omega arith) (omega arith) (omega arith) slots_first met_first next_first [] reports_first
    (none_ended course_settings no_termination at_first refl)

abbrev pub first_log : List (List Position)
first_log = (pos 1 1 ∷ pos 1 2 ∷ []) ∷ []

log_first : all_below 1 (λ s. same_log (planned_log given_up_plan s) (get_or first_log s [])) ≡ true
unfolding desk_at_first all_below any_below lowest tabulate pair_not_after place following body_word body_of contents_of slot report_of runs_from runs_of updates_after updates_in those_of same_log
log_first = planned_of given_up_plan refl (pos 1 1 ∷ pos 1 2 ∷ []) (pos 1 2) 2 target_first holder_first refl

-- it is given up when node 0 has fetched update 2 and nobody has logged view 2
unfoldable pub desk_given_up : List ℕ
desk_given_up = report_of_all 0 1 7 2 ++ report_of_all 1 1 7 3 ++ report_of_all 2 1 7 2 ++ replicate 14848 0

abbrev pub after_given_up : History
after_given_up = told_by first_views (7 ∷ []) desk_given_up

pub given_up : GivenUp course_settings (view_of_all 1 7) no_termination 5 desk_at_first (view_of_all 2 5) at_first after_given_up
unfolding desk_at_first desk_given_up all_below any_below lowest tabulate place following body_word body_of contents_of slot report_of runs_from runs_of updates_after updates_in among of_every same_log
given_up = given_up_of first_views (7 ∷ []) desk_at_first given_up_plan first_log log_first 1 desk_given_up refl refl

-- ---- nodes 0 and 1 are restarted: node 1 is the holder, node 0 keeps two updates and fetches the third

pub slots_second : slots_ok course_settings (view_of_all 1 7) no_termination 3 desk_given_up ≡ true
unfolding desk_given_up all_below any_below lowest tabulate unless unless_at first_of place following row5 row8 precedes shards_where row6 view_ok row7 kind_ok plain kind_at shard_at surplus sequence_at complete shard_apart row10_at row10 is_position view_fits legal row11_at body_word body_of contents_of records_refusal head_refusal message_refusal slot report_of same_view row12 same_termination row13 term_kept slot_ok slots_ok
slots_second = refl

pub target_second : target (view_of_all 1 7) no_termination 3 desk_given_up 0 ≡ pos 1 3
unfolding desk_given_up all_below any_below lowest tabulate pair_not_after place following body_word body_of contents_of end_of slot report_of candidate greatest best target
target_second = refl

pub holder_second : holder (view_of_all 1 7) no_termination 3 desk_given_up 0 ≡ 1
unfolding desk_given_up all_below any_below lowest tabulate pair_not_after place following body_word body_of contents_of end_of slot report_of candidate greatest best target reaches holds has_update able holder
holder_second = refl

pub met_second : QuorumMet course_settings (view_of_all 1 7) no_termination 3 desk_given_up
unfolding ones ones_in
met_second =
    met_of course_settings (view_of_all 1 7) no_termination 3 desk_given_up 1
    refl (omega arith) (omega arith) (omega arith) (omega arith) holder_second

pub reports_second : reports_test course_settings first_views (7 ∷ []) desk_given_up 3 [] ≡ true
unfolding desk_given_up all_below slot report_of contents_of body_of body_word tabulate place following lowest any_below
reports_second = refl

pub next_second : PlannedView course_settings (view_of_all 1 7) 3 (view_of_all 2 3)
unfolding all_below
next_second = next_of course_settings (view_of_all 1 7) 3 (view_of_all 2 3) refl refl refl

abbrev pub carried_plan : Restart 1 after_given_up
carried_plan =
    plan_from course_settings first_views (7 ∷ []) desk_given_up (view_of_all 1 7) no_termination 3 (view_of_all 2 3)
    (omega arith) (omega arith) (omega arith) slots_second met_second next_second [] reports_second
    (none_ended course_settings no_termination after_given_up refl)

abbrev pub second_log : List (List Position)
second_log = (pos 1 1 ∷ pos 1 2 ∷ pos 1 3 ∷ []) ∷ []

log_second : all_below 1 (λ s. same_log (planned_log carried_plan s) (get_or second_log s [])) ≡ true
unfolding desk_given_up all_below any_below lowest tabulate pair_not_after place following body_word body_of contents_of slot report_of runs_from runs_of updates_after updates_in those_of same_log
log_second = planned_of carried_plan refl (pos 1 1 ∷ pos 1 2 ∷ pos 1 3 ∷ []) (pos 1 3) 1 target_second holder_second refl

-- it is carried out: both have logged view 2
unfoldable pub desk_carried : List ℕ
desk_carried = report_of_shard 0 2 3 3 (run_of 1 3) ++ report_of_shard 1 2 3 3 (run_of 1 3) ++ report_of_all 2 1 7 2 ++ replicate 14848 0

abbrev pub later_views : List Layout
later_views = view_of_all 1 7 ∷ view_of_all 2 3 ∷ []

abbrev pub after_carried : History
after_carried = told_by later_views (7 ∷ 3 ∷ []) desk_carried

pub ordered_second : (s : ℕ) → s < 1 → (n : ℕ) → n < 32 → has (mask_at (view_of_all 2 3) s) n ≡ true → has 3 n ≡ true
    → (q : Position) → holds_at desk_carried s q n ≡ as_ordered (view_of_all 1 7) no_termination 3 desk_given_up n s q
unfolding desk_carried all_below any_below lowest tabulate place following body_word body_of contents_of slot report_of runs_from runs_of updates_after updates_in among of_every same_log
ordered_second = ordered_of carried_plan second_log log_second 3 desk_carried refl

pub remembered_second : (n i : ℕ) → i < 1 → has (get_or (7 ∷ []) i 0) n ≡ true → has (get_or (7 ∷ 3 ∷ []) i 0) n ≡ true
unfolding all_below
remembered_second = remembered_of (7 ∷ []) (7 ∷ 3 ∷ []) 1 refl

-- ---- the service runs: both store update 1 of view 2, node 1 also update 2, and a termination ends the shard at update 1

unfoldable pub desk_served : List ℕ
desk_served = report_of_shard 0 2 3 3 (ended_runs 1) ++ report_of_shard 1 2 3 3 (ended_runs 2) ++ report_of_all 2 1 7 2 ++ replicate 14848 0

abbrev pub after_run : History
after_run = told_by later_views (7 ∷ 3 ∷ []) desk_served

pub orderly_run : Orderly after_run
unfolding all_below any_below ones ones_in
orderly_run = orderly_of after_run (3 ∷ []) refl refl refl

-- ---- all come back

abbrev pub end_of_run : Termination
end_of_run = record { made = true; positions = pos 2 1 ∷ replicate 15 start }

-- node 2, which has view 1, is held and not placed
abbrev pub third_view : Layout
third_view = record { number = record { 0 = 3 }; members = 7; masks = 3 ∷ replicate 15 0 }

pub slots_last : slots_ok course_settings (view_of_all 2 3) end_of_run 7 desk_served ≡ true
unfolding desk_served all_below any_below lowest tabulate unless unless_at first_of place following row5 row8 precedes shards_where row6 view_ok row7 kind_ok plain kind_at shard_at surplus sequence_at complete shard_apart row10_at row10 is_position view_fits legal row11_at body_word body_of contents_of records_refusal head_refusal message_refusal slot report_of same_view row12 same_termination row13 term_kept slot_ok slots_ok
slots_last = refl

pub target_last : target (view_of_all 2 3) end_of_run 7 desk_served 0 ≡ pos 2 1
unfolding desk_served all_below any_below lowest tabulate pair_not_after place following body_word body_of contents_of end_of slot report_of candidate greatest best target
target_last = refl

pub holder_last : holder (view_of_all 2 3) end_of_run 7 desk_served 0 ≡ 1
unfolding desk_served all_below any_below lowest tabulate pair_not_after place following body_word body_of contents_of end_of slot report_of candidate greatest best target reaches holds has_update able holder
holder_last = refl

pub met_last : QuorumMet course_settings (view_of_all 2 3) end_of_run 7 desk_served
unfolding ones ones_in
met_last = met_of course_settings (view_of_all 2 3) end_of_run 7 desk_served 1 refl (omega arith) (omega arith) (omega arith) (omega arith) holder_last

pub reports_last : reports_test course_settings later_views (7 ∷ 3 ∷ []) desk_served 7 (1 ∷ 1 ∷ 0 ∷ []) ≡ true
unfolding desk_served all_below slot report_of contents_of body_of body_word tabulate place following lowest any_below
reports_last = refl

pub next_last : PlannedView course_settings (view_of_all 2 3) 7 third_view
unfolding all_below
next_last = next_of course_settings (view_of_all 2 3) 7 third_view refl refl refl

-- the termination ends the shard where node 0's log ends
pub covers_last : Covers course_settings end_of_run after_run
unfolding desk_served pair_not_after all_below any_below lowest tabulate place following body_word body_of contents_of slot report_of runs_from runs_of updates_after updates_in among of_every same_log
covers_last = covers_of course_settings end_of_run later_views (7 ∷ 3 ∷ []) desk_served 0 (omega arith) refl

abbrev pub last_plan : Restart 1 after_run
last_plan =
    plan_from course_settings later_views (7 ∷ 3 ∷ []) desk_served (view_of_all 2 3) end_of_run 7 third_view (omega arith) (omega arith) (omega arith)
    slots_last met_last next_last (1 ∷ 1 ∷ 0 ∷ []) reports_last covers_last

abbrev pub last_log : List (List Position)
last_log = (pos 1 1 ∷ pos 1 2 ∷ pos 1 3 ∷ pos 2 1 ∷ []) ∷ []

-- ---- the course

-- the mask is a valid placement of the last plan, and without moves
abbrev pub unmoved : ℕ → Bool
unmoved m = group_valid course_settings 7 (λ s. m) 0 && eqb (group_moves course_settings (λ s. 3) (λ s. m) 0) 0

pub record CourseRows : Type 0 where
  -- the settings are right; of a placement by the masks of nodes 0 to 2 each plan has the only valid one, or the only one without a move
  pub settings : settings_ok course_settings ≡ true
  pub placed_first : (group_valid course_settings 5 (λ s. 5) 0 && all_below 8 (λ m. eqb m 5 || not (group_valid course_settings 5 (λ s. m) 0))) ≡ true
  pub placed_second : (group_valid course_settings 3 (λ s. 3) 0 && all_below 8 (λ m. eqb m 3 || not (group_valid course_settings 3 (λ s. m) 0))) ≡ true
  pub placed_last : (unmoved 3 && all_below 8 (λ m. eqb m 3 || not (unmoved m))) ≡ true
  -- the history at the beginning is orderly, and update 1 is settled
  pub orderly : Orderly at_first
  pub settled : Settled at_first 0 (pos 1 1)
  -- from there the course leads to the last plan
  pub course : Course 1 at_first after_run
  pub plan : Restart 1 after_run
  -- which has update 1 of view 1, by the theorem
  pub kept : (not_after (pos 1 1) (target (view_of_all 2 3) end_of_run 7 desk_served 0) ≡ true)
      × (holds_at desk_served 0 (pos 1 1) (holder (view_of_all 2 3) end_of_run 7 desk_served 0) ≡ true)
  -- and what was stored under view 2
  pub stored : (not_after (pos 2 1) (target (view_of_all 2 3) end_of_run 7 desk_served 0) ≡ true)
      × (holds_at desk_served 0 (pos 2 1) (holder (view_of_all 2 3) end_of_run 7 desk_served 0) ≡ true)
  -- computed: the holder of each plan, the target and the log that it gives every placed node
  pub holder_first : holder (view_of_all 1 7) no_termination 5 desk_at_first 0 ≡ 2
  pub holder_second : holder (view_of_all 1 7) no_termination 3 desk_given_up 0 ≡ 1
  pub cut_second : cut_for (view_of_all 1 7) no_termination 3 desk_given_up 0 0 ≡ pos 1 2
  pub target_second : target (view_of_all 1 7) no_termination 3 desk_given_up 0 ≡ pos 1 3
  pub holder_last : holder (view_of_all 2 3) end_of_run 7 desk_served 0 ≡ 1
  pub target_last : target (view_of_all 2 3) end_of_run 7 desk_served 0 ≡ pos 2 1
  pub log_last : all_below 1 (λ s. same_log (planned_log last_plan s) (get_or last_log s [])) ≡ true
