-- A worked course of nodes 0 to 2, which all carry the one shard in view 1 and have logged its first 1, 3 and 2 updates. Nodes 0 and 2 are
-- restarted and given up when node 0 has fetched; then nodes 0 and 1 are restarted, log view 2 and store under it; then all three come back,
-- node 2 with view 1, and a termination is kept. Every duty is met on the way, and the plan has what was settled at the beginning.
use Rattle.std.specs.Prelude.{ℕ, ◌<◌, true, [], ◌∷◌, ◌≡◌, refl}
use Rattle.std.proofs.Common.{arith}
use Rattle.std.specs.Int.Count.{ones, ones_in}
use Rattle.base_laws.specs.Definitions.{all_below, any_below, lowest, count_below, has, pair_not_after, tabulate}
use Rattle.base_sum_laws.specs.Definitions.{sum_below}
use Rattle.settings_values.specs.Definitions.{sizes_ok, nodes_ok, cap, shard_ok, shards_ok, settings_ok}
use Rattle.message_format.specs.Definitions.{place, following, shard_apart, body_word, body_of, contents_of}
use Rattle.report_views.specs.Definitions.{no_termination, pos, reaches, holds, runs_from, runs_of, slot, report_of, runs_to, shared_after, cut_from}
use Rattle.report_views.specs.Updates.{updates_after, updates_in, those_of}
use Rattle.report_log_laws.specs.Stretches.{among}
use Rattle.place_groups.specs.Definitions.{meets_set, sets_in, shard_valid, group_valid_at, group_valid, group_moves_at, group_moves}
use Rattle.history_laws.specs.Definitions.{Full}
use Rattle.history_cases.specs.Supposing.{view_of_all}
use Rattle.history_course_laws.specs.Course.{Settled, Serves, CarriedOut}
use Rattle.history_course_laws.specs.Ever.{Course, here, running, carrying, giving_up}
use Rattle.history_course_laws.proofs.Ever.{never_lost, logged_lasts}
use Rattle.history_course_laws.specs.Counting.{counted_carried, counted_full}
use Rattle.history_course_cases.specs.Steps.{of_every, same_log, settled_of, cut_of, planned_of, keeps_of}
use Rattle.history_course_cases.specs.Worked.{course_settings, at_first, orderly_first, settled_first, holder_first, given_up_plan, desk_given_up, after_given_up, given_up, target_second, holder_second, next_second, carried_plan, desk_carried, later_views, after_carried, ordered_second, remembered_second, desk_served, after_run, orderly_run, target_last, holder_last, last_plan, CourseRows}

pub carried : CarriedOut course_settings (view_of_all 1 7) no_termination 3 desk_given_up (view_of_all 2 3) after_given_up after_carried
carried =
    counted_carried course_settings (view_of_all 1 7) no_termination 3 desk_given_up carried_plan.met (view_of_all 2 3) next_second
    after_given_up after_carried refl remembered_second ordered_second 3 (λ n l h. h) refl

full_second : Full after_carried 1
full_second =
    counted_full course_settings (view_of_all 1 7) no_termination 3 desk_given_up carried_plan.met (view_of_all 2 3) next_second
    after_given_up after_carried refl remembered_second ordered_second 3 (λ n l h. h) refl

pub served : Serves 1 after_carried after_run
unfolding desk_carried desk_served all_below any_below lowest tabulate place following body_word body_of contents_of slot report_of runs_from runs_of updates_after updates_in among of_every same_log
served =
    record {
      begun = full_second;
      standing = orderly_run;
      keeps = keeps_of 1 later_views (7 ∷ 3 ∷ []) desk_carried later_views (7 ∷ 3 ∷ []) desk_served 0 (omega arith) refl;
    }

-- ---- the course

abbrev pub worked_course : Course 1 at_first after_run
worked_course =
    running after_carried after_run
    (carrying after_given_up after_carried (giving_up at_first after_given_up here given_up_plan given_up) carried_plan carried) served

-- all members of the shard have logged update 1 at the beginning
all_first : (n : ℕ) → n < 32 → has 7 n ≡ true → at_first.updated n 0 (pos 1 1) ≡ true
all_first n l m = settled_first.all n l m m

-- what both have stored in the run
settled_run : Settled after_run 0 (pos 2 1)
unfolding desk_served all_below any_below lowest tabulate place following body_word body_of contents_of reaches holds slot report_of
settled_run = settled_of after_run 0 (pos 2 1) refl

pub course_rows : CourseRows
unfolding desk_given_up desk_served sizes_ok nodes_ok cap shard_ok shards_ok settings_ok meets_set sets_in shard_valid group_valid_at group_valid group_moves_at group_moves count_below sum_below ones ones_in all_below any_below lowest tabulate pair_not_after place following body_word body_of contents_of slot report_of runs_from runs_of updates_after updates_in those_of same_log runs_to shared_after cut_from shard_apart
course_rows =
    record {
      settings = refl;
      placed_first = refl;
      placed_second = refl;
      placed_last = refl;
      orderly = orderly_first;
      settled = settled_first;
      course = worked_course;
      plan = last_plan;
      kept = logged_lasts orderly_first 0 (omega arith) (pos 1 1) all_first worked_course last_plan;
      stored = never_lost served.standing 0 (omega arith) (pos 2 1) settled_run here last_plan;
      holder_first = holder_first;
      holder_second = holder_second;
      cut_second = cut_of (view_of_all 1 7) no_termination 3 desk_given_up 0 target_second holder_second refl;
      target_second = target_second;
      holder_last = holder_last;
      target_last = target_last;
      log_last = planned_of last_plan refl (pos 1 1 ∷ pos 1 2 ∷ pos 1 3 ∷ pos 2 1 ∷ []) (pos 2 1) 1 target_last holder_last refl;
    }
