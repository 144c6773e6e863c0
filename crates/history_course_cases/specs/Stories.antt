-- Four ways in which a service that logs a plan's view as soon as it can, or fetches into the logs that it reports, loses an update or waits
-- for ever. The first, the second and the third stand here; the fourth, a view that hides what is stored after it, is
-- Duties.succeeded-needed.
use Rattle.std.specs.Prelude.{ℕ, zero, suc, ◌-◌, ◌^◌, ◌<◌, ◌≤◌, true, false, List, [], ◌∷◌, ◌++◌, ◌≡◌, refl, get_or, replicate}
use Rattle.std.proofs.Common.{sym, ◌∙◌, subst, arith}
use Rattle.std.specs.Int.Count.{ones, ones_in}
use Rattle.base_laws.specs.Bools.{clash}
use Rattle.base_laws.specs.Definitions.{all_below, any_below, lowest, has, pair_not_after, tabulate}
use Rattle.settings_values.specs.Definitions.{nodes}
use Rattle.base_ids.specs.Order.{order_views}
use Rattle.base_ids.specs.Definitions.{none, refused, unless, unless_at, first_of}
use Rattle.base_ids.specs.declared.Position.{Position}
use Rattle.message_format.specs.declared.Form.TheVariants.{Report}
use Rattle.message_format.specs.Definitions.{place, following, row5, row8, precedes, shards_where, row6, view_ok, row7, kind_ok, plain, kind_at, shard_at, surplus, sequence_at, complete, shard_apart, row10_at, row10, is_position, view_fits, legal, row11_at, body_word, body_of, contents_of, records_refusal, head_refusal, message_refusal}
use Rattle.message_format.specs.Passed.{message_given}
use Rattle.report_views.specs.declared.Layout.{Layout}
use Rattle.report_views.specs.declared.Quorum.TheVariants.{Met, Short}
use Rattle.report_views.specs.declared.Reason.TheVariants.{NoHolder}
use Rattle.report_views.specs.Definitions.{no_termination, pos, end_of, reaches, holds, has_update, runs_from, runs_of, slot, report_of, holds_at, mask_at, same_view, row12, same_termination, row13, term_kept, slot_ok, slots_ok, candidate, greatest, best, target, able, holder, majority, first_unheld, quorum_of, number_of}
use Rattle.report_views.specs.LogLaws.{holds_end}
use Rattle.report_log_laws.specs.Ends.{end_legal}
use Rattle.report_views.specs.Meets.{QuorumMet}
use Rattle.report_views.specs.Updates.{updates_after, updates_in, those_of}
use Rattle.report_log_laws.specs.Stretches.{among}
use Rattle.history_laws.specs.Definitions.{History, KeepsRule, True, number_at}
use Rattle.history_cases.specs.Told.{told_by, implies, implies_at, rule_of, full_of, true_test, true_somewhere, reports_test, reports_of}
use Rattle.history_course_laws.specs.Course.{Succeeded, Orderly, Settled, Serves, PlannedView, CarriedOut, GivenUp, as_ordered}
use Rattle.history_course_laws.specs.Ever.{Restart, Course, here, running, carrying}
use Rattle.history_course_laws.specs.Counting.{first_orderly}
use Rattle.history_course_cases.specs.Steps.{of_every, same_log, orderly_of, not_succeeded, next_of, met_of, none_ended, plan_from, told_of, planned_log, planned_of, ordered_of, remembered_of, given_up_of, keeps_of}
use Rattle.history_course_cases.specs.Worked.{course_settings, report_of_shard, run_of, runs_up_to}
use Rattle.history_course_cases.specs.Duties.{settings_for, view_with, no_run, LoggedByAll}

-- ---- a stray view: nodes 0 to 4 have view 2. Nodes 2 to 4 are restarted, node 2 alone has logged their view 3 when all stop. Nodes 0, 1 and 3
-- make another view 3 and store under it. Then nodes 2 and 4 come back.

unfoldable pub desk_of_five : List ℕ
desk_of_five =
    report_of_shard 0 2 31 6 no_run ++ report_of_shard 1 2 31 6 (run_of 2 1) ++ report_of_shard 2 2 31 6 (run_of 2 1) ++ report_of_shard 3 2 31 6 no_run
    ++ report_of_shard 4 2 31 6 no_run
    ++ replicate 13824 0

-- nodes 0, 1 and 3 have the other view 3, node 2 the stray one
unfoldable pub desk_of_both : List ℕ
desk_of_both =
    report_of_shard 0 3 11 10 no_run ++ report_of_shard 1 3 11 10 (run_of 2 1) ++ report_of_shard 2 3 28 20 (run_of 2 1) ++ report_of_shard 3 3 11 10 (run_of 2 1)
    ++ report_of_shard 4 2 31 6 no_run
    ++ replicate 13824 0

unfoldable pub desk_both_stored : List ℕ
desk_both_stored =
    report_of_shard 0 3 11 10 no_run ++ report_of_shard 1 3 11 10 (runs_up_to 2 1 3 1) ++ report_of_shard 2 3 28 20 (run_of 2 1)
    ++ report_of_shard 3 3 11 10 (runs_up_to 2 1 3 1)
    ++ report_of_shard 4 2 31 6 no_run
    ++ replicate 13824 0

abbrev pub five_views : List Layout
five_views = view_with 2 31 6 ∷ []

abbrev pub other_views : List Layout
other_views = view_with 2 31 6 ∷ view_with 3 11 10 ∷ []

abbrev pub stray_views : List Layout
stray_views = view_with 2 31 6 ∷ view_with 3 28 20 ∷ []

abbrev pub five_before : History
five_before = told_by five_views (31 ∷ []) desk_of_five

abbrev pub other_after : History
other_after = told_by other_views (31 ∷ 11 ∷ []) desk_of_both

abbrev pub other_stored : History
other_stored = told_by other_views (31 ∷ 11 ∷ []) desk_both_stored

-- what nodes 2 and 4 know
abbrev pub stray_known : History
stray_known = told_by stray_views (31 ∷ 4 ∷ []) desk_both_stored

pub next_stray : PlannedView (settings_for 2) (view_with 2 31 6) 28 (view_with 3 28 20)
unfolding all_below
next_stray = next_of (settings_for 2) (view_with 2 31 6) 28 (view_with 3 28 20) refl refl refl

pub slots_other : slots_ok (settings_for 2) (view_with 2 31 6) no_termination 11 desk_of_five ≡ true
unfolding desk_of_five all_below any_below lowest tabulate unless unless_at first_of place following row5 row8 precedes shards_where row6 view_ok row7 kind_ok plain kind_at shard_at surplus sequence_at complete shard_apart row10_at row10 is_position view_fits legal row11_at body_word body_of contents_of records_refusal head_refusal message_refusal slot report_of same_view row12 same_termination row13 term_kept slot_ok slots_ok
slots_other = refl

pub target_other : target (view_with 2 31 6) no_termination 11 desk_of_five 0 ≡ pos 2 1
unfolding desk_of_five all_below any_below lowest tabulate pair_not_after place following body_word body_of contents_of end_of slot report_of candidate greatest best target
target_other = refl

pub holder_other : holder (view_with 2 31 6) no_termination 11 desk_of_five 0 ≡ 1
unfolding desk_of_five all_below any_below lowest tabulate pair_not_after place following body_word body_of contents_of end_of slot report_of candidate greatest best target reaches holds has_update able holder
holder_other = refl

pub met_other : QuorumMet (settings_for 2) (view_with 2 31 6) no_termination 11 desk_of_five
unfolding ones ones_in
met_other =
    met_of (settings_for 2) (view_with 2 31 6) no_termination 11 desk_of_five 1
    refl (omega arith) (omega arith) (omega arith) (omega arith) holder_other

pub reports_other : reports_test (settings_for 2) five_views (31 ∷ []) desk_of_five 11 [] ≡ true
unfolding desk_of_five all_below slot report_of contents_of body_of body_word tabulate place following lowest any_below
reports_other = refl

pub next_other : PlannedView (settings_for 2) (view_with 2 31 6) 11 (view_with 3 11 10)
unfolding all_below
next_other = next_of (settings_for 2) (view_with 2 31 6) 11 (view_with 3 11 10) refl refl refl

abbrev pub other_plan : Restart 1 five_before
other_plan =
    plan_from (settings_for 2) five_views (31 ∷ []) desk_of_five (view_with 2 31 6) no_termination 11 (view_with 3 11 10)
    (omega arith) (omega arith) (omega arith) slots_other met_other next_other [] reports_other
    (none_ended (settings_for 2) no_termination five_before refl)

log_other : all_below 1 (λ s. same_log (planned_log other_plan s) (get_or ((pos 2 1 ∷ []) ∷ []) s [])) ≡ true
unfolding desk_of_five all_below any_below lowest tabulate pair_not_after place following body_word body_of contents_of slot report_of runs_from runs_of updates_after updates_in those_of same_log
log_other = planned_of other_plan refl (pos 2 1 ∷ []) (pos 2 1) 1 target_other holder_other refl

ordered_other : (s : ℕ) → s < 1 → (n : ℕ) → n < 32 → has (mask_at (view_with 3 11 10) s) n ≡ true → has 11 n ≡ true
    → (q : Position) → holds_at desk_of_both s q n ≡ as_ordered (view_with 2 31 6) no_termination 11 desk_of_five n s q
unfolding desk_of_both all_below any_below lowest tabulate place following body_word body_of contents_of slot report_of runs_from runs_of updates_after updates_in among of_every same_log
ordered_other = ordered_of other_plan ((pos 2 1 ∷ []) ∷ []) log_other 11 desk_of_both refl

pub carried_other : CarriedOut (settings_for 2) (view_with 2 31 6) no_termination 11 desk_of_five (view_with 3 11 10) five_before other_after
unfolding ones ones_in all_below
carried_other =
    record {
      views = refl;
      remembered = remembered_of (31 ∷ []) (31 ∷ 11 ∷ []) 1 refl;
      by = 11;
      logs = λ n l h. h;
      most = omega arith;
      ordered = ordered_other;
    }

keeps_other : (s : ℕ) → s < 1 → (p : Position) → Settled other_after s p → Settled other_stored s p
unfolding desk_of_both desk_both_stored all_below any_below lowest tabulate place following body_word body_of contents_of slot report_of runs_from runs_of updates_after updates_in among of_every same_log
keeps_other = keeps_of 1 other_views (31 ∷ 11 ∷ []) desk_of_both other_views (31 ∷ 11 ∷ []) desk_both_stored 1 (omega arith) refl

pub served_other : Serves 1 other_after other_stored
unfolding ones ones_in all_below any_below
served_other = record { begun = full_of other_after 1 refl; standing = orderly_of other_stored (11 ∷ []) refl refl refl; keeps = keeps_other }

logged_other : implies (has 10) (λ n. holds_at desk_both_stored 0 (pos 3 1) n) ≡ true
unfolding desk_both_stored all_below any_below lowest tabulate place following body_word body_of contents_of reaches holds slot report_of
logged_other = refl

slots_back : slots_ok (settings_for 2) (view_with 3 28 20) no_termination 20 desk_both_stored ≡ true
unfolding desk_both_stored all_below any_below lowest tabulate unless unless_at first_of place following row5 row8 precedes shards_where row6 view_ok row7 kind_ok plain kind_at shard_at surplus sequence_at complete shard_apart row10_at row10 is_position view_fits legal row11_at body_word body_of contents_of records_refusal head_refusal message_refusal slot report_of same_view row12 same_termination row13 term_kept slot_ok slots_ok
slots_back = refl

target_back : target (view_with 3 28 20) no_termination 20 desk_both_stored 0 ≡ pos 2 1
unfolding desk_both_stored all_below any_below lowest tabulate pair_not_after place following body_word body_of contents_of end_of slot report_of candidate greatest best target
target_back = refl

holder_back : holder (view_with 3 28 20) no_termination 20 desk_both_stored 0 ≡ 2
unfolding desk_both_stored all_below any_below lowest tabulate pair_not_after place following body_word body_of contents_of end_of slot report_of candidate greatest best target reaches holds has_update able holder
holder_back = refl

met_back : QuorumMet (settings_for 2) (view_with 3 28 20) no_termination 20 desk_both_stored
unfolding ones ones_in
met_back =
    met_of (settings_for 2) (view_with 3 28 20) no_termination 20 desk_both_stored 2
    refl (omega arith) (omega arith) (omega arith) (omega arith) holder_back

reports_back : reports_test (settings_for 2) stray_views (31 ∷ 4 ∷ []) desk_both_stored 20 (0 ∷ 0 ∷ 1 ∷ 0 ∷ 0 ∷ []) ≡ true
unfolding desk_both_stored all_below slot report_of contents_of body_of body_word tabulate place following lowest any_below
reports_back = refl

own_2 : (report_of desk_both_stored 2).node.0 ≡ 2
unfolding desk_both_stored slot report_of contents_of
own_2 = refl

-- node 2's report is of no view of the list
none_of_list : any_below 2 (true_test (settings_for 2) other_views (31 ∷ 11 ∷ []) desk_both_stored 2) ≡ false
unfolding desk_both_stored all_below slot report_of contents_of body_of body_word tabulate place following lowest any_below
none_of_list = refl

pub record StrayKept : Type 0 where
  -- from the orderly history of view 2, of which both views 3 are the next, the other one is carried out and served as the duties say
  pub orderly : Orderly five_before
  pub stray : PlannedView (settings_for 2) (view_with 2 31 6) 28 (view_with 3 28 20)
  pub course : Course 1 five_before other_stored
  pub logged : LoggedByAll other_stored (pos 3 1)
  -- nodes 2 and 4 report truly what they know: the stray view 3 is kept, with 2 of its 3 members
  pub reports : (n : ℕ) → n < 32 → has 20 n ≡ true → True (settings_for 2) stray_known (report_of desk_both_stored n)
  pub slots : slots_ok (settings_for 2) (view_with 3 28 20) no_termination 20 desk_both_stored ≡ true
  pub met : QuorumMet (settings_for 2) (view_with 3 28 20) no_termination 20 desk_both_stored
  -- and the plan has not the update that was stored under the other
  pub goal : target (view_with 3 28 20) no_termination 20 desk_both_stored 0 ≡ pos 2 1
  pub lost : holds_at desk_both_stored 0 (pos 3 1) (holder (view_with 3 28 20) no_termination 20 desk_both_stored 0) ≡ false
  -- which no duty allows: node 2's report is not true of the history that was served, since it has not forgotten the stray view
  pub untrue : True (settings_for 2) other_stored (report_of desk_both_stored 2) → ⊥
  -- nor does a history list both
  pub twice : KeepsRule (told_by (view_with 2 31 6 ∷ view_with 3 28 20 ∷ view_with 3 11 10 ∷ []) (31 ∷ 4 ∷ 11 ∷ []) desk_both_stored) → ⊥

pub stray_kept : StrayKept
unfolding desk_both_stored all_below any_below lowest tabulate place following body_word body_of contents_of reaches holds slot report_of
stray_kept =
    record {
      orderly = first_orderly (view_with 2 31 6) five_before.logged five_before.updated;
      stray = next_stray;
      course = running other_after other_stored (carrying five_before other_after here other_plan carried_other) served_other;
      logged = implies_at (has 10) (λ n. holds_at desk_both_stored 0 (pos 3 1) n) logged_other;
      reports = reports_of (settings_for 2) stray_views (31 ∷ 4 ∷ []) desk_both_stored 20 (0 ∷ 0 ∷ 1 ∷ 0 ∷ 0 ∷ []) reports_back;
      slots = slots_back;
      met = met_back;
      goal = target_back;
      lost = told_of desk_both_stored (pos 3 1) false holder_back refl;
      untrue = λ r. clash (true_somewhere (settings_for 2) other_views (31 ∷ 11 ∷ []) desk_both_stored 2 own_2 r) none_of_list;
      twice = λ r. let z = r.rises 1 2 (omega arith) (omega arith) in absurd (omega arith);
    }

-- ---- a power cut: nodes 0 to 2 are restarted, the shard stays on nodes 0 and 1, and node 2 alone has logged view 2. All come back.

unfoldable pub desk_prepared : List ℕ
desk_prepared = report_of_shard 0 1 7 3 (run_of 1 1) ++ report_of_shard 1 1 7 3 (run_of 1 1) ++ report_of_shard 2 2 7 3 no_run ++ replicate 14848 0

abbrev pub prepared_views : List Layout
prepared_views = view_with 1 7 3 ∷ view_with 2 7 3 ∷ []

abbrev pub prepared_by_one : History
prepared_by_one = told_by prepared_views (7 ∷ 4 ∷ []) desk_prepared

slots_prepared : slots_ok course_settings (view_with 2 7 3) no_termination 7 desk_prepared ≡ true
unfolding desk_prepared all_below any_below lowest tabulate unless unless_at first_of place following row5 row8 precedes shards_where row6 view_ok row7 kind_ok plain kind_at shard_at surplus sequence_at complete shard_apart row10_at row10 is_position view_fits legal row11_at body_word body_of contents_of records_refusal head_refusal message_refusal slot report_of same_view row12 same_termination row13 term_kept slot_ok slots_ok
slots_prepared = refl

reports_prepared : reports_test course_settings prepared_views (7 ∷ 4 ∷ []) desk_prepared 7 (0 ∷ 0 ∷ 1 ∷ []) ≡ true
unfolding desk_prepared all_below slot report_of contents_of body_of body_word tabulate place following lowest any_below
reports_prepared = refl

next_prepared : PlannedView course_settings (view_with 1 7 3) 7 (view_with 2 7 3)
unfolding all_below
next_prepared = next_of course_settings (view_with 1 7 3) 7 (view_with 2 7 3) refl refl refl

pub record NoneReports : Type 0 where
  -- view 2 is that of a plan from view 1, and all nodes of the settings report truly
  pub next : PlannedView course_settings (view_with 1 7 3) 7 (view_with 2 7 3)
  pub rule : KeepsRule prepared_by_one
  pub every : 2 ^ nodes course_settings - 1 ≡ 7
  pub reports : (n : ℕ) → n < 32 → has 7 n ≡ true → True course_settings prepared_by_one (report_of desk_prepared n)
  pub slots : slots_ok course_settings (view_with 2 7 3) no_termination 7 desk_prepared ≡ true
  -- no member of shard 0 has the kept view: wait 4, for shard 0
  pub waits : quorum_of course_settings (view_with 2 7 3) no_termination 7 desk_prepared ≡ Short (NoHolder (record { 0 = 0 }))
  pub number : number_of (NoHolder (record { 0 = 0 })) ≡ 4
  -- nodes 0 and 1 alone would do
  pub fewer : quorum_of course_settings (view_with 1 7 3) no_termination 3 desk_prepared ≡ Met
  -- what is missing: more than half of view 1 has logged no later one, so view 2 is to be forgotten
  pub first : Succeeded prepared_by_one 0 → ⊥

pub none_reports : NoneReports
unfolding desk_prepared ones ones_in all_below any_below lowest tabulate pair_not_after place following body_word body_of contents_of end_of reaches holds has_update slot report_of candidate greatest best target able holder majority first_unheld quorum_of number_of
none_reports =
    record {
      next = next_prepared;
      rule = rule_of prepared_by_one refl refl;
      every = refl;
      reports = reports_of course_settings prepared_views (7 ∷ 4 ∷ []) desk_prepared 7 (0 ∷ 0 ∷ 1 ∷ []) reports_prepared;
      slots = slots_prepared;
      waits = refl;
      number = refl;
      fewer = refl;
      first = not_succeeded prepared_by_one 0 3 (omega arith) (omega arith) refl;
    }

-- ---- a stale machine: node 0 has view 1 and the others view 2, under which an update is stored. Nodes 0, 2 and 3 are restarted and given up
-- when node 0 has fetched the update.

unfoldable pub desk_of_stale : List ℕ
desk_of_stale =
    report_of_shard 0 1 15 3 (run_of 1 1) ++ report_of_shard 1 2 14 6 (runs_up_to 1 1 2 1)
    ++ report_of_shard 2 2 14 6 (runs_up_to 1 1 2 1) ++ report_of_shard 3 2 14 6 no_run
    ++ replicate 14336 0

unfoldable pub desk_ahead : List ℕ
desk_ahead =
    report_of_shard 0 1 15 3 (runs_up_to 1 1 2 1) ++ report_of_shard 1 2 14 6 (runs_up_to 1 1 2 1)
    ++ report_of_shard 2 2 14 6 (runs_up_to 1 1 2 1) ++ report_of_shard 3 2 14 6 no_run
    ++ replicate 14336 0

abbrev pub stale_views : List Layout
stale_views = view_with 1 15 3 ∷ view_with 2 14 6 ∷ []

abbrev pub stale_before : History
stale_before = told_by stale_views (15 ∷ 14 ∷ []) desk_of_stale

abbrev pub stale_ahead : History
stale_ahead = told_by stale_views (15 ∷ 14 ∷ []) desk_ahead

pub slots_stale : slots_ok (settings_for 2) (view_with 2 14 6) no_termination 13 desk_of_stale ≡ true
unfolding desk_of_stale all_below any_below lowest tabulate unless unless_at first_of place following row5 row8 precedes shards_where row6 view_ok row7 kind_ok plain kind_at shard_at surplus sequence_at complete shard_apart row10_at row10 is_position view_fits legal row11_at body_word body_of contents_of records_refusal head_refusal message_refusal slot report_of same_view row12 same_termination row13 term_kept slot_ok slots_ok
slots_stale = refl

pub target_stale : target (view_with 2 14 6) no_termination 13 desk_of_stale 0 ≡ pos 2 1
unfolding desk_of_stale all_below any_below lowest tabulate pair_not_after place following body_word body_of contents_of end_of slot report_of candidate greatest best target
target_stale = refl

pub holder_stale : holder (view_with 2 14 6) no_termination 13 desk_of_stale 0 ≡ 2
unfolding desk_of_stale all_below any_below lowest tabulate pair_not_after place following body_word body_of contents_of end_of slot report_of candidate greatest best target reaches holds has_update able holder
holder_stale = refl

pub met_stale : QuorumMet (settings_for 2) (view_with 2 14 6) no_termination 13 desk_of_stale
unfolding ones ones_in
met_stale =
    met_of (settings_for 2) (view_with 2 14 6) no_termination 13 desk_of_stale 2
    refl (omega arith) (omega arith) (omega arith) (omega arith) holder_stale

pub reports_stale : reports_test (settings_for 2) stale_views (15 ∷ 14 ∷ []) desk_of_stale 13 (0 ∷ 0 ∷ 1 ∷ 1 ∷ []) ≡ true
unfolding desk_of_stale all_below slot report_of contents_of body_of body_word tabulate place following lowest any_below
reports_stale = refl

pub next_stale : PlannedView (settings_for 2) (view_with 2 14 6) 13 (view_with 3 13 5)
unfolding all_below
next_stale = next_of (settings_for 2) (view_with 2 14 6) 13 (view_with 3 13 5) refl refl refl

abbrev pub stale_plan : Restart 1 stale_before
stale_plan =
    plan_from (settings_for 2) stale_views (15 ∷ 14 ∷ []) desk_of_stale (view_with 2 14 6) no_termination 13 (view_with 3 13 5)
    (omega arith) (omega arith) (omega arith) slots_stale met_stale next_stale (0 ∷ 0 ∷ 1 ∷ 1 ∷ []) reports_stale
    (none_ended (settings_for 2) no_termination stale_before refl)

log_stale : all_below 1 (λ s. same_log (planned_log stale_plan s) (get_or ((pos 1 1 ∷ pos 2 1 ∷ []) ∷ []) s [])) ≡ true
unfolding desk_of_stale all_below any_below lowest tabulate pair_not_after place following body_word body_of contents_of slot report_of runs_from runs_of updates_after updates_in those_of same_log
log_stale = planned_of stale_plan refl (pos 1 1 ∷ pos 2 1 ∷ []) (pos 2 1) 2 target_stale holder_stale refl

given_up_stale : GivenUp (settings_for 2) (view_with 2 14 6) no_termination 13 desk_of_stale (view_with 3 13 5) stale_before stale_ahead
unfolding desk_of_stale desk_ahead all_below any_below lowest tabulate place following body_word body_of contents_of slot report_of runs_from runs_of updates_after updates_in among of_every same_log
given_up_stale = given_up_of stale_views (15 ∷ 14 ∷ []) desk_of_stale stale_plan ((pos 1 1 ∷ pos 2 1 ∷ []) ∷ []) log_stale 1 desk_ahead refl refl

reports_ahead : reports_test (settings_for 2) stale_views (15 ∷ 14 ∷ []) desk_ahead 1 [] ≡ true
unfolding desk_ahead all_below slot report_of contents_of body_of body_word tabulate place following lowest any_below
reports_ahead = refl

has_ahead : holds_at desk_ahead 0 (pos 2 1) 0 ≡ true
unfolding desk_ahead all_below any_below lowest tabulate place following body_word body_of contents_of reaches holds slot report_of
has_ahead = refl

-- the runs of a report that is accepted are of no later view than its own
no_run_above : (σ x : List ℕ) → message_refusal Report σ x ≡ none → (s : ℕ) → s < 256 → (p : Position)
    → holds (contents_of x).body (contents_of x).len s p ≡ true → p.view.0 ≤ (contents_of x).view.0
unfolding contents_of
no_run_above σ x accepted s small p h =
    let passed = (message_given Report σ x accepted).records_pass in
    let end : Position = end_of (body_of x) s (following x) in
    omega (
      arith,
      order_views p end (holds_end (get_or x 0 0) (body_of x) (following x) passed.sequence_passes s p h),
      (end_legal σ (get_or x 0 0) (get_or x 1 0) (get_or x 2 0) (body_of x) (following x) passed s small).no_later,
    )

-- node 0's latest view is the first
first_of_stale : (i : ℕ) → i < 2 → has (get_or (15 ∷ 14 ∷ []) i 0) 0 ≡ true → number_at stale_ahead i ≡ 1
first_of_stale zero l h = refl
first_of_stale (suc zero) l h = clash h refl
first_of_stale (suc (suc i)) l h = absurd (omega arith)

pub record StaleRefused : Type 0 where
  -- a plan from true reports, given up as the duties say
  pub orderly : Orderly stale_before
  pub plan : Restart 1 stale_before
  pub given_up : GivenUp (settings_for 2) (view_with 2 14 6) no_termination 13 desk_of_stale (view_with 3 13 5) stale_before stale_ahead
  -- node 0's true report is refused by number 11
  pub report : True (settings_for 2) stale_ahead (report_of desk_ahead 0)
  pub refusal : message_refusal Report (settings_for 2) (slot desk_ahead 0) ≡ refused 11
  -- and no true report of node 0 is accepted
  pub never : (x : List ℕ) → (contents_of x).node.0 ≡ 0 → True (settings_for 2) stale_ahead (contents_of x)
      → message_refusal Report (settings_for 2) x ≡ none → ⊥

never_ahead : (x : List ℕ) → (contents_of x).node.0 ≡ 0 → True (settings_for 2) stale_ahead (contents_of x)
    → message_refusal Report (settings_for 2) x ≡ none → ⊥
never_ahead x own r accepted =
    let logged : has (get_or (15 ∷ 14 ∷ []) r.at 0) 0 ≡ true = subst (λ (n : ℕ). has (get_or (15 ∷ 14 ∷ []) r.at 0) n ≡ true) own r.logged in
    let told : holds_at desk_ahead 0 (pos 2 1) 0 ≡ holds (contents_of x).body (contents_of x).len 0 (pos 2 1) =
    subst (λ (n : ℕ). holds_at desk_ahead 0 (pos 2 1) n ≡ holds (contents_of x).body (contents_of x).len 0 (pos 2 1)) own
    (r.updates 0 (omega arith) (pos 2 1)) in
    omega (
      arith,
      no_run_above (settings_for 2) x accepted 0 (omega arith) (pos 2 1) (sym told ∙ has_ahead),
      r.same.number,
      first_of_stale r.at r.listed logged,
    )

pub stale_refused : StaleRefused
unfolding desk_ahead ones ones_in all_below any_below lowest tabulate unless unless_at first_of place following row5 row8 precedes shards_where row6 view_ok row7 kind_ok plain kind_at shard_at surplus sequence_at complete shard_apart row10_at row10 is_position view_fits legal row11_at body_word body_of contents_of records_refusal head_refusal message_refusal slot report_of same_view row12 same_termination row13 term_kept slot_ok slots_ok
stale_refused =
    record {
      orderly = orderly_of stale_before (14 ∷ []) refl refl refl;
      plan = stale_plan;
      given_up = given_up_stale;
      report = reports_of (settings_for 2) stale_views (15 ∷ 14 ∷ []) desk_ahead 1 [] reports_ahead 0 (omega arith) refl;
      refusal = refl;
      never = never_ahead;
    }
