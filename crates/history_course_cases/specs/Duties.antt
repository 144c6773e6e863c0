-- Each duty is needed: an example in which all but that one are met, and an update that all members of the shard have logged is not in the
-- next plan.
use Rattle.std.specs.Prelude.{ℕ, ◌*◌, ◌<◌, true, false, ◌&&◌, List, [], ◌∷◌, ◌++◌, ◌≡◌, refl, length, get_or, replicate}
use Rattle.std.proofs.Common.{⊎_elim, ◌∙◌, arith}
use Rattle.std.specs.Int.Bits.{bit_and}
use Rattle.std.specs.Int.Count.{ones, ones_in}
use Rattle.base_laws.specs.Bools.{clash}
use Rattle.base_laws.specs.Definitions.{all_below, any_below, lowest, has, count, pair_not_after, tabulate}
use Rattle.base_ids.specs.Definitions.{not_after, unless, unless_at, first_of}
use Rattle.base_ids.specs.declared.Position.{Position}
use Rattle.message_format.specs.Definitions.{place, following, row5, row8, precedes, shards_where, row6, view_ok, row7, kind_ok, plain, kind_at, shard_at, surplus, sequence_at, complete, shard_apart, row10_at, row10, is_position, view_fits, legal, row11_at, body_word, body_of, contents_of, records_refusal, head_refusal, message_refusal}
use Rattle.report_views.specs.declared.Layout.{Layout}
use Rattle.report_views.specs.Definitions.{no_termination, pos, start, end_of, reaches, holds, has_update, runs_from, runs_of, slot, report_of, holds_at, mask_at, same_view, row12, same_termination, row13, term_kept, slot_ok, slots_ok, candidate, greatest, best, target, able, holder, runs_to, shared_after, cut_from}
use Rattle.report_views.specs.Meets.{QuorumMet}
use Rattle.report_views.specs.Updates.{updates_after, updates_in, those_of}
use Rattle.report_log_laws.specs.Stretches.{among}
use Rattle.history_laws.specs.Definitions.{History, KeepsRule, Full, view_at}
use Rattle.history_cases.specs.Told.{told_by, implies, implies_at, rule_of, full_of, reports_test}
use Rattle.history_course_laws.specs.Course.{last_of, Succeeded, Orderly, Settled, PlannedView, CarriedOut, GivenUp, cut_for, as_ordered}
use Rattle.history_course_laws.specs.Ever.{Restart}
use Rattle.history_course_laws.specs.Counting.{first_orderly}
use Rattle.history_course_cases.specs.Steps.{of_every, same_log, orderly_of, succeeded_of, not_succeeded, next_of, met_of, none_ended, plan_from, told_of, cut_of, planned_log, planned_of, asked_of, ordered_of, remembered_of, others_alike, kept_alike, not_carried, keeps_of}
use Rattle.history_course_cases.specs.Worked.{report_of_shard, run_of, runs_up_to}

-- six nodes, of which 0, 1 and 4 are of one failure set and 2, 3 and 5 of the other, and the word of the one shard: 2, if it needs nodes
-- of both, 131073, if it needs one node and may have two
abbrev pub settings_for : ℕ → List ℕ
settings_for word = 6 ∷ 2 ∷ 2 ∷ 1 ∷ 0 ∷ 0 ∷ 1 ∷ 1 ∷ 0 ∷ 1 ∷ word ∷ []

-- a view whose shard some of the members carry
abbrev pub view_with : ℕ → ℕ → ℕ → Layout
view_with number members mask = record { number = record { 0 = number }; members = members; masks = mask ∷ replicate 15 0 }

-- no runs
abbrev pub no_run : List ℕ
no_run = 0 ∷ []

-- the last view's members of the shard have logged the update
abbrev pub LoggedByAll : History → Position → Type 0
LoggedByAll H p = (n : ℕ) → n < 32 → has (mask_at (view_at H (last_of H)) 0) n ≡ true → H.updated n 0 p ≡ true

-- ---- succeeded: nodes 0 to 2 have logged view 1, nodes 3 to 5 view 2 of nodes 0, 1 and 3 to 5, and view 3 of their own, under which nodes
-- 3 and 4 have stored an update. Then nodes 0 and 2 come back. So a view that 3 of its 5 members have logged, none of them a member of the
-- view before, hides what is stored after it.

unfoldable pub stranded_desk : List ℕ
stranded_desk =
    report_of_shard 0 1 7 5 (run_of 1 1) ++ report_of_shard 1 1 7 5 no_run
    ++ report_of_shard 2 1 7 5 (run_of 1 1) ++ report_of_shard 3 3 56 24 (runs_up_to 1 1 3 1)
    ++ report_of_shard 4 3 56 24 (runs_up_to 1 1 3 1)
    ++ report_of_shard 5 3 56 24 no_run
    ++ replicate 13312 0

abbrev pub stranded_views : List Layout
stranded_views = view_with 1 7 5 ∷ view_with 2 59 9 ∷ view_with 3 56 24 ∷ []

abbrev pub stranded : History
stranded = told_by stranded_views (7 ∷ 56 ∷ 56 ∷ []) stranded_desk

pub slots_stranded : slots_ok (settings_for 2) (view_with 1 7 5) no_termination 5 stranded_desk ≡ true
unfolding stranded_desk all_below any_below lowest tabulate unless unless_at first_of place following row5 row8 precedes shards_where row6 view_ok row7 kind_ok plain kind_at shard_at surplus sequence_at complete shard_apart row10_at row10 is_position view_fits legal row11_at body_word body_of contents_of records_refusal head_refusal message_refusal slot report_of same_view row12 same_termination row13 term_kept slot_ok slots_ok
slots_stranded = refl

pub target_stranded : target (view_with 1 7 5) no_termination 5 stranded_desk 0 ≡ pos 1 1
unfolding stranded_desk all_below any_below lowest tabulate pair_not_after place following body_word body_of contents_of end_of slot report_of candidate greatest best target
target_stranded = refl

pub holder_stranded : holder (view_with 1 7 5) no_termination 5 stranded_desk 0 ≡ 0
unfolding stranded_desk all_below any_below lowest tabulate pair_not_after place following body_word body_of contents_of end_of slot report_of candidate greatest best target reaches holds has_update able holder
holder_stranded = refl

pub met_stranded : QuorumMet (settings_for 2) (view_with 1 7 5) no_termination 5 stranded_desk
unfolding ones ones_in
met_stranded =
    met_of (settings_for 2) (view_with 1 7 5) no_termination 5 stranded_desk 0
    refl (omega arith) (omega arith) (omega arith) (omega arith) holder_stranded

pub reports_stranded : reports_test (settings_for 2) stranded_views (7 ∷ 56 ∷ 56 ∷ []) stranded_desk 5 [] ≡ true
unfolding stranded_desk all_below slot report_of contents_of body_of body_word tabulate place following lowest any_below
reports_stranded = refl

pub next_stranded : PlannedView (settings_for 2) (view_with 1 7 5) 5 (view_with 2 5 5)
unfolding all_below
next_stranded = next_of (settings_for 2) (view_with 1 7 5) 5 (view_with 2 5 5) refl refl refl

abbrev pub stranded_plan : Restart 1 stranded
stranded_plan =
    plan_from (settings_for 2) stranded_views (7 ∷ 56 ∷ 56 ∷ []) stranded_desk (view_with 1 7 5) no_termination 5 (view_with 2 5 5)
    (omega arith) (omega arith) (omega arith) slots_stranded met_stranded next_stranded [] reports_stranded
    (none_ended (settings_for 2) no_termination stranded refl)

pub record SucceededNeeded : Type 0 where
  -- the rule of views holds, and the last view and the update were logged by all members
  pub rule : KeepsRule stranded
  pub full : Full stranded 2
  pub logged : LoggedByAll stranded (pos 3 1)
  -- 3 of the 5 members of view 2 have logged it, none of view 1
  pub most : 2 * count (bit_and 56 59) ≡ 6
  pub members : count 59 ≡ 5
  pub none : bit_and 56 7 ≡ 0
  -- view 2 is succeeded, view 1 is not
  pub second : Succeeded stranded 1
  pub first : Succeeded stranded 0 → ⊥
  -- the next plan starts from view 1 and has not the update
  pub plan : Restart 1 stranded
  pub goal : target (view_with 1 7 5) no_termination 5 stranded_desk 0 ≡ pos 1 1
  pub lost : holds_at stranded_desk 0 (pos 3 1) (holder (view_with 1 7 5) no_termination 5 stranded_desk 0) ≡ false

logged_stranded : implies (has 24) (λ n. holds_at stranded_desk 0 (pos 3 1) n) ≡ true
unfolding stranded_desk all_below any_below lowest tabulate place following body_word body_of contents_of reaches holds slot report_of
logged_stranded = refl

pub succeeded_needed : SucceededNeeded
unfolding stranded_desk ones ones_in all_below any_below lowest tabulate place following body_word body_of contents_of reaches holds slot report_of
succeeded_needed =
    record {
      rule = rule_of stranded refl refl;
      full = full_of stranded 2 refl;
      logged = implies_at (has 24) (λ n. holds_at stranded_desk 0 (pos 3 1) n) logged_stranded;
      most = refl;
      members = refl;
      none = refl;
      second = succeeded_of stranded 1 56 refl;
      first = not_succeeded stranded 0 5 (omega arith) (omega arith) refl;
      plan = stranded_plan;
      goal = target_stranded;
      lost = told_of stranded_desk (pos 3 1) false holder_stranded refl;
    }

-- ---- most: nodes 0 and 1 of view 1 carry the shard. Nodes 0, 2 and 3 are restarted, the shard is on node 0 alone, which logs view 2 and
-- stores an update. Then nodes 1 to 3 come back.

unfoldable pub desk_of_four : List ℕ
desk_of_four =
    report_of_shard 0 1 15 3 (run_of 1 1) ++ report_of_shard 1 1 15 3 (run_of 1 1)
    ++ report_of_shard 2 1 15 3 no_run ++ report_of_shard 3 1 15 3 no_run ++ replicate 14336 0

abbrev pub four_views : List Layout
four_views = view_with 1 15 3 ∷ []

abbrev pub four_before : History
four_before = told_by four_views (15 ∷ []) desk_of_four

pub slots_four : slots_ok (settings_for 131073) (view_with 1 15 3) no_termination 13 desk_of_four ≡ true
unfolding desk_of_four all_below any_below lowest tabulate unless unless_at first_of place following row5 row8 precedes shards_where row6 view_ok row7 kind_ok plain kind_at shard_at surplus sequence_at complete shard_apart row10_at row10 is_position view_fits legal row11_at body_word body_of contents_of records_refusal head_refusal message_refusal slot report_of same_view row12 same_termination row13 term_kept slot_ok slots_ok
slots_four = refl

pub target_four : target (view_with 1 15 3) no_termination 13 desk_of_four 0 ≡ pos 1 1
unfolding desk_of_four all_below any_below lowest tabulate pair_not_after place following body_word body_of contents_of end_of slot report_of candidate greatest best target
target_four = refl

pub holder_four : holder (view_with 1 15 3) no_termination 13 desk_of_four 0 ≡ 0
unfolding desk_of_four all_below any_below lowest tabulate pair_not_after place following body_word body_of contents_of end_of slot report_of candidate greatest best target reaches holds has_update able holder
holder_four = refl

pub met_four : QuorumMet (settings_for 131073) (view_with 1 15 3) no_termination 13 desk_of_four
unfolding ones ones_in
met_four =
    met_of (settings_for 131073) (view_with 1 15 3) no_termination 13 desk_of_four 0
    refl (omega arith) (omega arith) (omega arith) (omega arith) holder_four

pub reports_four : reports_test (settings_for 131073) four_views (15 ∷ []) desk_of_four 13 [] ≡ true
unfolding desk_of_four all_below slot report_of contents_of body_of body_word tabulate place following lowest any_below
reports_four = refl

unfoldable pub desk_of_one : List ℕ
desk_of_one =
    report_of_shard 0 2 13 1 (runs_up_to 1 1 2 1) ++ report_of_shard 1 1 15 3 (run_of 1 1)
    ++ report_of_shard 2 1 15 3 no_run ++ report_of_shard 3 1 15 3 no_run ++ replicate 14336 0

abbrev pub one_views : List Layout
one_views = view_with 1 15 3 ∷ view_with 2 13 1 ∷ []

-- node 0 alone has logged view 2
abbrev pub one_after : History
one_after = told_by one_views (15 ∷ 1 ∷ []) desk_of_four

-- and stored an update
abbrev pub one_stored : History
one_stored = told_by one_views (15 ∷ 1 ∷ []) desk_of_one

pub next_one : PlannedView (settings_for 131073) (view_with 1 15 3) 13 (view_with 2 13 1)
unfolding all_below
next_one = next_of (settings_for 131073) (view_with 1 15 3) 13 (view_with 2 13 1) refl refl refl

abbrev pub one_plan : Restart 1 four_before
one_plan =
    plan_from (settings_for 131073) four_views (15 ∷ []) desk_of_four (view_with 1 15 3) no_termination 13 (view_with 2 13 1)
    (omega arith) (omega arith) (omega arith) slots_four met_four next_one [] reports_four
    (none_ended (settings_for 131073) no_termination four_before refl)

pub slots_others : slots_ok (settings_for 131073) (view_with 1 15 3) no_termination 14 desk_of_one ≡ true
unfolding desk_of_one all_below any_below lowest tabulate unless unless_at first_of place following row5 row8 precedes shards_where row6 view_ok row7 kind_ok plain kind_at shard_at surplus sequence_at complete shard_apart row10_at row10 is_position view_fits legal row11_at body_word body_of contents_of records_refusal head_refusal message_refusal slot report_of same_view row12 same_termination row13 term_kept slot_ok slots_ok
slots_others = refl

pub target_others : target (view_with 1 15 3) no_termination 14 desk_of_one 0 ≡ pos 1 1
unfolding desk_of_one all_below any_below lowest tabulate pair_not_after place following body_word body_of contents_of end_of slot report_of candidate greatest best target
target_others = refl

pub holder_others : holder (view_with 1 15 3) no_termination 14 desk_of_one 0 ≡ 1
unfolding desk_of_one all_below any_below lowest tabulate pair_not_after place following body_word body_of contents_of end_of slot report_of candidate greatest best target reaches holds has_update able holder
holder_others = refl

pub met_others : QuorumMet (settings_for 131073) (view_with 1 15 3) no_termination 14 desk_of_one
unfolding ones ones_in
met_others =
    met_of (settings_for 131073) (view_with 1 15 3) no_termination 14 desk_of_one 1
    refl (omega arith) (omega arith) (omega arith) (omega arith) holder_others

pub reports_others : reports_test (settings_for 131073) one_views (15 ∷ 1 ∷ []) desk_of_one 14 [] ≡ true
unfolding desk_of_one all_below slot report_of contents_of body_of body_word tabulate place following lowest any_below
reports_others = refl

pub next_others : PlannedView (settings_for 131073) (view_with 1 15 3) 14 (view_with 2 14 2)
unfolding all_below
next_others = next_of (settings_for 131073) (view_with 1 15 3) 14 (view_with 2 14 2) refl refl refl

abbrev pub others_plan : Restart 1 one_stored
others_plan =
    plan_from (settings_for 131073) one_views (15 ∷ 1 ∷ []) desk_of_one (view_with 1 15 3) no_termination 14 (view_with 2 14 2)
    (omega arith) (omega arith) (omega arith) slots_others met_others next_others [] reports_others
    (none_ended (settings_for 131073) no_termination one_stored refl)

log_one : all_below 1 (λ s. same_log (planned_log one_plan s) (get_or ((pos 1 1 ∷ []) ∷ []) s [])) ≡ true
unfolding desk_of_four all_below any_below lowest tabulate pair_not_after place following body_word body_of contents_of slot report_of runs_from runs_of updates_after updates_in those_of same_log
log_one = planned_of one_plan refl (pos 1 1 ∷ []) (pos 1 1) 0 target_four holder_four refl

pub record MostNeeded : Type 0 where
  -- an orderly history and a plan; all of a restart that is carried out but that more than half of the kept view's members log its view
  pub orderly : Orderly four_before
  pub plan : Restart 1 four_before
  pub views : one_after.views ≡ four_before.views ++ view_with 2 13 1 ∷ []
  pub remembered : (n i : ℕ) → i < length four_before.views → four_before.logged n i ≡ true → one_after.logged n i ≡ true
  pub logs : (n : ℕ) → n < 32 → has 1 n ≡ true → one_after.logged n 1 ≡ true
  pub ordered : (s : ℕ) → s < 1 → (n : ℕ) → n < 32 → has (mask_at (view_with 2 13 1) s) n ≡ true → one_after.logged n 1 ≡ true
      → (q : Position) → one_after.updated n s q ≡ as_ordered (view_with 1 15 3) no_termination 13 desk_of_four n s q
  pub few : CarriedOut (settings_for 131073) (view_with 1 15 3) no_termination 13 desk_of_four (view_with 2 13 1) four_before one_after → ⊥
  -- a run that keeps what is settled, before all members have logged the view
  pub begun : Full one_after 1 → ⊥
  pub keeps : (s : ℕ) → s < 1 → (p : Position) → Settled one_after s p → Settled one_stored s p
  pub logged : LoggedByAll one_stored (pos 2 1)
  -- the next plan makes a second view 2 and has not the update
  pub again : Restart 1 one_stored
  pub goal : target (view_with 1 15 3) no_termination 14 desk_of_one 0 ≡ pos 1 1
  pub lost : holds_at desk_of_one 0 (pos 2 1) (holder (view_with 1 15 3) no_termination 14 desk_of_one 0) ≡ false

ordered_one : (s : ℕ) → s < 1 → (n : ℕ) → n < 32 → has (mask_at (view_with 2 13 1) s) n ≡ true → has 1 n ≡ true
    → (q : Position) → holds_at desk_of_four s q n ≡ as_ordered (view_with 1 15 3) no_termination 13 desk_of_four n s q
unfolding desk_of_four all_below any_below lowest tabulate place following body_word body_of contents_of slot report_of runs_from runs_of updates_after updates_in among of_every same_log
ordered_one = ordered_of one_plan ((pos 1 1 ∷ []) ∷ []) log_one 1 desk_of_four refl

keeps_one : (s : ℕ) → s < 1 → (p : Position) → Settled one_after s p → Settled one_stored s p
unfolding desk_of_four desk_of_one all_below any_below lowest tabulate place following body_word body_of contents_of slot report_of runs_from runs_of updates_after updates_in among of_every same_log
keeps_one = keeps_of 1 one_views (15 ∷ 1 ∷ []) desk_of_four one_views (15 ∷ 1 ∷ []) desk_of_one 0 (omega arith) refl

logged_one : implies (has 1) (λ n. holds_at desk_of_one 0 (pos 2 1) n) ≡ true
unfolding desk_of_one all_below any_below lowest tabulate place following body_word body_of contents_of reaches holds slot report_of
logged_one = refl

pub most_needed : MostNeeded
unfolding desk_of_four desk_of_one ones ones_in all_below any_below lowest tabulate place following body_word body_of contents_of reaches holds slot report_of
most_needed =
    record {
      orderly = first_orderly (view_with 1 15 3) four_before.logged four_before.updated;
      plan = one_plan;
      views = refl;
      remembered = remembered_of (15 ∷ []) (15 ∷ 1 ∷ []) 1 refl;
      logs = λ n l h. h;
      ordered = ordered_one;
      few = not_carried one_plan one_after 14 (omega arith) refl;
      begun = λ f. clash (f.all 2 (omega arith) refl) refl;
      keeps = keeps_one;
      logged = implies_at (has 1) (λ n. holds_at desk_of_one 0 (pos 2 1) n) logged_one;
      again = others_plan;
      goal = target_others;
      lost = told_of desk_of_one (pos 2 1) false holder_others refl;
    }

-- ---- ordered: the same nodes are restarted, the shard is on nodes 0 and 2, and node 2 logs view 2 without what it is to fetch. Then nodes 2
-- and 3 come back.

unfoldable pub desk_unfetched : List ℕ
desk_unfetched =
    report_of_shard 0 2 13 5 (run_of 1 1) ++ report_of_shard 1 1 15 3 (run_of 1 1)
    ++ report_of_shard 2 2 13 5 no_run ++ report_of_shard 3 2 13 5 no_run ++ replicate 14336 0

abbrev pub unfetched_views : List Layout
unfetched_views = view_with 1 15 3 ∷ view_with 2 13 5 ∷ []

abbrev pub unfetched : History
unfetched = told_by unfetched_views (15 ∷ 13 ∷ []) desk_unfetched

pub next_four : PlannedView (settings_for 131073) (view_with 1 15 3) 13 (view_with 2 13 5)
unfolding all_below
next_four = next_of (settings_for 131073) (view_with 1 15 3) 13 (view_with 2 13 5) refl refl refl

abbrev pub four_plan : Restart 1 four_before
four_plan =
    plan_from (settings_for 131073) four_views (15 ∷ []) desk_of_four (view_with 1 15 3) no_termination 13 (view_with 2 13 5)
    (omega arith) (omega arith) (omega arith) slots_four met_four next_four [] reports_four
    (none_ended (settings_for 131073) no_termination four_before refl)

pub slots_unfetched : slots_ok (settings_for 131073) (view_with 2 13 5) no_termination 12 desk_unfetched ≡ true
unfolding desk_unfetched all_below any_below lowest tabulate unless unless_at first_of place following row5 row8 precedes shards_where row6 view_ok row7 kind_ok plain kind_at shard_at surplus sequence_at complete shard_apart row10_at row10 is_position view_fits legal row11_at body_word body_of contents_of records_refusal head_refusal message_refusal slot report_of same_view row12 same_termination row13 term_kept slot_ok slots_ok
slots_unfetched = refl

pub target_unfetched : target (view_with 2 13 5) no_termination 12 desk_unfetched 0 ≡ start
unfolding desk_unfetched all_below any_below lowest tabulate pair_not_after place following body_word body_of contents_of end_of slot report_of candidate greatest best target
target_unfetched = refl

pub holder_unfetched : holder (view_with 2 13 5) no_termination 12 desk_unfetched 0 ≡ 2
unfolding desk_unfetched all_below any_below lowest tabulate pair_not_after place following body_word body_of contents_of end_of slot report_of candidate greatest best target reaches holds has_update able holder
holder_unfetched = refl

pub met_unfetched : QuorumMet (settings_for 131073) (view_with 2 13 5) no_termination 12 desk_unfetched
unfolding ones ones_in
met_unfetched =
    met_of (settings_for 131073) (view_with 2 13 5) no_termination 12 desk_unfetched 2
    refl (omega arith) (omega arith) (omega arith) (omega arith) holder_unfetched

pub reports_unfetched : reports_test (settings_for 131073) unfetched_views (15 ∷ 13 ∷ []) desk_unfetched 12 (0 ∷ 0 ∷ 1 ∷ 1 ∷ []) ≡ true
unfolding desk_unfetched all_below slot report_of contents_of body_of body_word tabulate place following lowest any_below
reports_unfetched = refl

pub next_unfetched : PlannedView (settings_for 131073) (view_with 2 13 5) 12 (view_with 3 12 4)
unfolding all_below
next_unfetched = next_of (settings_for 131073) (view_with 2 13 5) 12 (view_with 3 12 4) refl refl refl

abbrev pub unfetched_plan : Restart 1 unfetched
unfetched_plan =
    plan_from (settings_for 131073) unfetched_views (15 ∷ 13 ∷ []) desk_unfetched (view_with 2 13 5) no_termination 12 (view_with 3 12 4)
    (omega arith) (omega arith) (omega arith) slots_unfetched met_unfetched next_unfetched (0 ∷ 0 ∷ 1 ∷ 1 ∷ []) reports_unfetched
    (none_ended (settings_for 131073) no_termination unfetched refl)

pub record OrderedNeeded : Type 0 where
  -- an orderly history, in which all members of the shard have logged the update, and a plan
  pub orderly : Orderly four_before
  pub logged : LoggedByAll four_before (pos 1 1)
  pub plan : Restart 1 four_before
  -- all of a restart that is carried out but that node 2's log is what its order says
  pub views : unfetched.views ≡ four_before.views ++ view_with 2 13 5 ∷ []
  pub remembered : (n i : ℕ) → i < length four_before.views → four_before.logged n i ≡ true → unfetched.logged n i ≡ true
  pub logs : (n : ℕ) → n < 32 → has 13 n ≡ true → unfetched.logged n 1 ≡ true
  pub most : count 15 < 2 * count (bit_and 13 15)
  pub unordered : CarriedOut (settings_for 131073) (view_with 1 15 3) no_termination 13 desk_of_four (view_with 2 13 5) four_before unfetched → ⊥
  -- the history after it is orderly, and all members have logged the view
  pub standing : Orderly unfetched
  pub full : Full unfetched 1
  -- the next plan empties the log
  pub again : Restart 1 unfetched
  pub goal : target (view_with 2 13 5) no_termination 12 desk_unfetched 0 ≡ start
  pub lost : holds_at desk_unfetched 0 (pos 1 1) (holder (view_with 2 13 5) no_termination 12 desk_unfetched 0) ≡ false

log_four : all_below 1 (λ s. same_log (planned_log four_plan s) (get_or ((pos 1 1 ∷ []) ∷ []) s [])) ≡ true
unfolding desk_of_four all_below any_below lowest tabulate pair_not_after place following body_word body_of contents_of slot report_of runs_from runs_of updates_after updates_in those_of same_log
log_four = planned_of four_plan refl (pos 1 1 ∷ []) (pos 1 1) 0 target_four holder_four refl

logged_four : implies (has 3) (λ n. holds_at desk_of_four 0 (pos 1 1) n) ≡ true
unfolding desk_of_four all_below any_below lowest tabulate place following body_word body_of contents_of reaches holds slot report_of
logged_four = refl

lacks_four : holds_at desk_unfetched 0 (pos 1 1) 2 ≡ false
unfolding desk_unfetched all_below any_below lowest tabulate place following body_word body_of contents_of reaches holds slot report_of
lacks_four = refl

unordered_four : CarriedOut (settings_for 131073) (view_with 1 15 3) no_termination 13 desk_of_four (view_with 2 13 5) four_before unfetched → ⊥
unfolding among
unordered_four c =
    clash
    (c.ordered 0 (omega arith) 2 (omega arith) refl refl (pos 1 1)
    ∙ asked_of four_plan ((pos 1 1 ∷ []) ∷ []) log_four 0 (omega arith) 2 (omega arith) refl (pos 1 1))
    lacks_four

pub ordered_needed : OrderedNeeded
unfolding desk_of_four desk_unfetched ones ones_in all_below any_below lowest tabulate place following body_word body_of contents_of reaches holds slot report_of among
ordered_needed =
    record {
      orderly = first_orderly (view_with 1 15 3) four_before.logged four_before.updated;
      logged = implies_at (has 3) (λ n. holds_at desk_of_four 0 (pos 1 1) n) logged_four;
      plan = four_plan;
      views = refl;
      remembered = remembered_of (15 ∷ []) (15 ∷ 13 ∷ []) 1 refl;
      logs = λ n l h. h;
      most = omega arith;
      unordered = unordered_four;
      standing = orderly_of unfetched (13 ∷ []) refl refl refl;
      full = full_of unfetched 1 refl;
      again = unfetched_plan;
      goal = target_unfetched;
      lost = told_of desk_unfetched (pos 1 1) false holder_unfetched refl;
    }

-- ---- updated: the logs of nodes 0 and 1 part after update 2 of view 5, and both have the two updates of view 6. They are restarted, and
-- given up when node 1's log is cut and nothing fetched. Then nodes 1 and 2 come back.

unfoldable pub desk_parted : List ℕ
desk_parted = report_of_shard 0 7 7 3 (runs_up_to 5 3 6 2) ++ report_of_shard 1 7 7 3 (runs_up_to 5 2 6 2) ++ report_of_shard 2 7 7 3 no_run ++ replicate 14848 0

unfoldable pub desk_cut : List ℕ
desk_cut = report_of_shard 0 7 7 3 (runs_up_to 5 3 6 2) ++ report_of_shard 1 7 7 3 (run_of 5 2) ++ report_of_shard 2 7 7 3 no_run ++ replicate 14848 0

abbrev pub parted_views : List Layout
parted_views = view_with 7 7 3 ∷ []

abbrev pub parted : History
parted = told_by parted_views (7 ∷ []) desk_parted

abbrev pub half_done : History
half_done = told_by parted_views (7 ∷ []) desk_cut

pub slots_parted : slots_ok (settings_for 131073) (view_with 7 7 3) no_termination 3 desk_parted ≡ true
unfolding desk_parted all_below any_below lowest tabulate unless unless_at first_of place following row5 row8 precedes shards_where row6 view_ok row7 kind_ok plain kind_at shard_at surplus sequence_at complete shard_apart row10_at row10 is_position view_fits legal row11_at body_word body_of contents_of records_refusal head_refusal message_refusal slot report_of same_view row12 same_termination row13 term_kept slot_ok slots_ok
slots_parted = refl

pub target_parted : target (view_with 7 7 3) no_termination 3 desk_parted 0 ≡ pos 6 2
unfolding desk_parted all_below any_below lowest tabulate pair_not_after place following body_word body_of contents_of end_of slot report_of candidate greatest best target
target_parted = refl

pub holder_parted : holder (view_with 7 7 3) no_termination 3 desk_parted 0 ≡ 0
unfolding desk_parted all_below any_below lowest tabulate pair_not_after place following body_word body_of contents_of end_of slot report_of candidate greatest best target reaches holds has_update able holder
holder_parted = refl

pub met_parted : QuorumMet (settings_for 131073) (view_with 7 7 3) no_termination 3 desk_parted
unfolding ones ones_in
met_parted =
    met_of (settings_for 131073) (view_with 7 7 3) no_termination 3 desk_parted 0
    refl (omega arith) (omega arith) (omega arith) (omega arith) holder_parted

pub reports_parted : reports_test (settings_for 131073) parted_views (7 ∷ []) desk_parted 3 [] ≡ true
unfolding desk_parted all_below slot report_of contents_of body_of body_word tabulate place following lowest any_below
reports_parted = refl

pub next_parted : PlannedView (settings_for 131073) (view_with 7 7 3) 3 (view_with 8 3 3)
unfolding all_below
next_parted = next_of (settings_for 131073) (view_with 7 7 3) 3 (view_with 8 3 3) refl refl refl

abbrev pub parted_plan : Restart 1 parted
parted_plan =
    plan_from (settings_for 131073) parted_views (7 ∷ []) desk_parted (view_with 7 7 3) no_termination 3 (view_with 8 3 3)
    (omega arith) (omega arith) (omega arith) slots_parted met_parted next_parted [] reports_parted
    (none_ended (settings_for 131073) no_termination parted refl)

pub slots_cut : slots_ok (settings_for 131073) (view_with 7 7 3) no_termination 6 desk_cut ≡ true
unfolding desk_cut all_below any_below lowest tabulate unless unless_at first_of place following row5 row8 precedes shards_where row6 view_ok row7 kind_ok plain kind_at shard_at surplus sequence_at complete shard_apart row10_at row10 is_position view_fits legal row11_at body_word body_of contents_of records_refusal head_refusal message_refusal slot report_of same_view row12 same_termination row13 term_kept slot_ok slots_ok
slots_cut = refl

pub target_cut : target (view_with 7 7 3) no_termination 6 desk_cut 0 ≡ pos 5 2
unfolding desk_cut all_below any_below lowest tabulate pair_not_after place following body_word body_of contents_of end_of slot report_of candidate greatest best target
target_cut = refl

pub holder_cut : holder (view_with 7 7 3) no_termination 6 desk_cut 0 ≡ 1
unfolding desk_cut all_below any_below lowest tabulate pair_not_after place following body_word body_of contents_of end_of slot report_of candidate greatest best target reaches holds has_update able holder
holder_cut = refl

pub met_cut : QuorumMet (settings_for 131073) (view_with 7 7 3) no_termination 6 desk_cut
unfolding ones ones_in
met_cut =
    met_of (settings_for 131073) (view_with 7 7 3) no_termination 6 desk_cut 1
    refl (omega arith) (omega arith) (omega arith) (omega arith) holder_cut

pub reports_cut : reports_test (settings_for 131073) parted_views (7 ∷ []) desk_cut 6 [] ≡ true
unfolding desk_cut all_below slot report_of contents_of body_of body_word tabulate place following lowest any_below
reports_cut = refl

pub next_cut : PlannedView (settings_for 131073) (view_with 7 7 3) 6 (view_with 8 6 2)
unfolding all_below
next_cut = next_of (settings_for 131073) (view_with 7 7 3) 6 (view_with 8 6 2) refl refl refl

abbrev pub cut_plan : Restart 1 half_done
cut_plan =
    plan_from (settings_for 131073) parted_views (7 ∷ []) desk_cut (view_with 7 7 3) no_termination 6 (view_with 8 6 2)
    (omega arith) (omega arith) (omega arith) slots_cut met_cut next_cut [] reports_cut
    (none_ended (settings_for 131073) no_termination half_done refl)

pub record UpdatedNeeded : Type 0 where
  -- an orderly history, in which all members of the shard have logged the update, and a plan
  pub orderly : Orderly parted
  pub logged : LoggedByAll parted (pos 6 2)
  pub plan : Restart 1 parted
  -- all of a restart that is given up but node 1's log: of it is left what is not past the cut
  pub views : half_done.views ≡ parted.views
  pub logs : (n i : ℕ) → half_done.logged n i ≡ parted.logged n i
  pub others : (n : ℕ) → (n ≡ 1 → ⊥) → (q : Position) → half_done.updated n 0 q ≡ parted.updated n 0 q
  pub cut : cut_for (view_with 7 7 3) no_termination 3 desk_parted 1 0 ≡ pos 5 2
  pub kept : (q : Position) → half_done.updated 1 0 q ≡ (not_after q (pos 5 2) && parted.updated 1 0 q)
  pub unlike : GivenUp (settings_for 131073) (view_with 7 7 3) no_termination 3 desk_parted (view_with 8 3 3) parted half_done → ⊥
  -- the next plan ends the log at the cut
  pub again : Restart 1 half_done
  pub goal : target (view_with 7 7 3) no_termination 6 desk_cut 0 ≡ pos 5 2
  pub lost : holds_at desk_cut 0 (pos 6 2) (holder (view_with 7 7 3) no_termination 6 desk_cut 0) ≡ false

abbrev parted_log : List (List Position)
parted_log = (pos 5 1 ∷ pos 5 2 ∷ pos 5 3 ∷ pos 6 1 ∷ pos 6 2 ∷ []) ∷ []

log_parted : all_below 1 (λ s. same_log (planned_log parted_plan s) (get_or parted_log s [])) ≡ true
unfolding desk_parted all_below any_below lowest tabulate pair_not_after place following body_word body_of contents_of slot report_of runs_from runs_of updates_after updates_in those_of same_log
log_parted = planned_of parted_plan refl (get_or parted_log 0 []) (pos 6 2) 0 target_parted holder_parted refl

logged_parted : implies (has 3) (λ n. holds_at desk_parted 0 (pos 6 2) n) ≡ true
unfolding desk_parted all_below any_below lowest tabulate place following body_word body_of contents_of reaches holds slot report_of
logged_parted = refl

others_cut : (n : ℕ) → (n ≡ 1 → ⊥) → (q : Position) → holds_at desk_cut 0 q n ≡ holds_at desk_parted 0 q n
unfolding desk_parted desk_cut all_below any_below lowest tabulate place following body_word body_of contents_of slot report_of runs_from runs_of updates_after updates_in among of_every same_log
others_cut = others_alike desk_parted desk_cut 0 1 2 refl refl

kept_cut : (q : Position) → holds_at desk_cut 0 q 1 ≡ (not_after q (pos 5 2) && holds_at desk_parted 0 q 1)
unfolding desk_parted desk_cut all_below any_below lowest tabulate place following body_word body_of contents_of slot report_of runs_from runs_of updates_after updates_in among of_every same_log pair_not_after those_of
kept_cut = kept_alike desk_parted desk_cut 0 1 (pos 5 2) refl

had_cut : holds_at desk_parted 0 (pos 6 2) 1 ≡ true
unfolding desk_parted all_below any_below lowest tabulate place following body_word body_of contents_of reaches holds slot report_of
had_cut = refl

lacks_cut : holds_at desk_cut 0 (pos 6 2) 1 ≡ false
unfolding desk_cut all_below any_below lowest tabulate place following body_word body_of contents_of reaches holds slot report_of
lacks_cut = refl

unlike_cut : GivenUp (settings_for 131073) (view_with 7 7 3) no_termination 3 desk_parted (view_with 8 3 3) parted half_done → ⊥
unfolding among
unlike_cut g =
    ⊎_elim (λ e. clash (e (pos 6 2) ∙ had_cut) lacks_cut)
    (λ e. clash (e.1 (pos 6 2) ∙ asked_of parted_plan parted_log log_parted 0 (omega arith) 1 (omega arith) refl (pos 6 2)) lacks_cut)
    (g.updated 0 (omega arith) 1 (omega arith))

pub updated_needed : UpdatedNeeded
unfolding desk_parted desk_cut ones ones_in all_below any_below lowest tabulate place following body_word body_of contents_of reaches holds slot report_of among runs_from runs_of runs_to shared_after cut_from
updated_needed =
    record {
      orderly = first_orderly (view_with 7 7 3) parted.logged parted.updated;
      logged = implies_at (has 3) (λ n. holds_at desk_parted 0 (pos 6 2) n) logged_parted;
      plan = parted_plan;
      views = refl;
      logs = λ n i. refl;
      others = others_cut;
      cut = cut_of (view_with 7 7 3) no_termination 3 desk_parted 1 target_parted holder_parted refl;
      kept = kept_cut;
      unlike = unlike_cut;
      again = cut_plan;
      goal = target_cut;
      lost = told_of desk_cut (pos 6 2) false holder_cut refl;
    }
