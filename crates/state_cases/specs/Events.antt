-- A row for each clause of what the events lead to and when they are refused: with the clause left out or turned round the row would be
-- false.
use Rattle.std.specs.Prelude.{ℕ, true, false, ◌&&◌, List, [], ◌≡◌, refl, replicate}
use Rattle.std.specs.Int.Count.{ones, ones_in}
use Rattle.base_laws.specs.Bools.{and_both, and_fails_left, and_fails_right}
use Rattle.base_laws.specs.Definitions.{all_below, any_below, count_below, lowest, pair_not_after, tabulate}
use Rattle.base_sum_laws.specs.Definitions.{sum_below}
use Rattle.settings_values.specs.Definitions.{cap, sizes_ok, nodes_ok, shard_ok, shards_ok, settings_ok}
use Rattle.base_ids.specs.Definitions.{none, refused, unless, unless_at, first_of}
use Rattle.message_format.specs.Definitions.{place, following, row5, row8, precedes, shards_where, row6, view_ok, row7, kind_ok, plain, kind_at, shard_at, surplus, sequence_at, complete, shard_apart, row10_at, row10, is_position, view_fits, legal, row11_at, body_word, body_of, contents_of, records_refusal, head_refusal, message_refusal}
use Rattle.place_groups.specs.Definitions.{meets_set, sets_in, shard_valid, group_valid_at, group_valid, group_moves_at, group_moves}
use Rattle.report_views.specs.declared.Phase.{Phase}
use Rattle.report_views.specs.declared.Phase.TheVariants.{Gathering, Ordered, Preparing, Committed}
use Rattle.report_views.specs.declared.Reason.TheVariants.{TooFew}
use Rattle.report_views.specs.declared.Quorum.TheVariants.{Met, Short}
use Rattle.report_views.specs.Definitions.{no_termination, no_plan, end_of, reaches, holds, has_update, slot, report_of, same_view, row12, same_termination, row13, term_kept, slot_ok, slots_ok, candidate, greatest, best, target, able, holder, majority, first_unheld, quorum_of, layout_tidy, layout_blank, view_sound, term_sound_at, term_sound, nothing_kept, kept_sound, marks_sound, plan_blank, is_met, shard_planned, all_moves, plan_sound, plan_fits}
use Rattle.report_rows.specs.declared.latest.Latest.{Latest}
use Rattle.report_rows.specs.Definitions.{no_latest, row18, noted, recalled, latest_sound}
use Rattle.report_kept.specs.Definitions.{kept_refusal, refusal_beside, layout_of, termination_of, renewed}
use Rattle.report_desk.specs.Definitions.{desk_with}
use Rattle.report_cases.specs.Kept.{open_report, ended_report, ended_at, view7_as}
use Rattle.report_cases.specs.Sound.{plan_of_case_a}
use Rattle.history_cases.specs.Runs.{case_settings, desk, view7}
use Rattle.state_rows.specs.Definitions.{node_refusal}
use Rattle.state_planner.specs.declared.State.{State}
use Rattle.state_planner.specs.declared.Answer.{Answer}
use Rattle.state_planner.specs.Definitions.{sound, of_parts, fresh, holding, keeping, marked, restarted, planned, entry_refusal, event_refusal, report_refusal, drop_refusal, decide_refusal, order_refusal, fetched_refusal, prepared_refusal, after_report, dropped_in, after_drop, after_fetched, after_prepared, outcome_of, desk_after, still}
use Rattle.state_planner.specs.declared.Decision.{Decision}
use Rattle.state_planner.specs.Decide.{state_by, decision_by, decided_by}
use Rattle.state_cases.specs.Start.{reported_at, gathered}

-- view 7 kept with a termination, and reported by nodes 0 to 5
abbrev pub with_ends : Phase → ℕ → ℕ → ℕ → State
with_ends phase held fetched prepared = of_parts phase view7 (ended_at 7 5 6 2) held fetched prepared plan_of_case_a (reported_at 7 63)

pub record EventClauses : Type 0 where
  -- a report's node is held, beside those that were; one that reports again is held once
  pub report-holds : after_report case_settings (gathered view7 33) (contents_of (open_report 7)) ≡ gathered view7 35
  pub report-again : after_report case_settings (gathered view7 35) (contents_of (open_report 7)) ≡ gathered view7 35
  -- what is kept is renewed, the view is remembered as the node's, and the others remain held
  pub report_renews :
      after_report case_settings (gathered view7 33) (contents_of (ended_report 8 7 5))
      ≡ of_parts Gathering (view7_as 8) (ended_at 7 5 6 2) 35 0 0 no_plan (noted (reported_at 7 33) 1 8)
  -- a drop in gathering: the node is no longer held; kept view and termination remain, and what is remembered, of that node too
  pub drop_gathering :
      after_drop (of_parts Gathering view7 (ended_at 7 5 6 2) 63 0 0 no_plan (reported_at 7 63)) 5
      ≡ of_parts Gathering view7 (ended_at 7 5 6 2) 31 0 0 no_plan (reported_at 7 63)
  -- a drop while ordered or preparing: nobody is held, marks and plan go; kept view and termination remain, and what is remembered
  pub drop_ordered : after_drop (with_ends Ordered 63 31 0) 5 ≡ of_parts Gathering view7 (ended_at 7 5 6 2) 0 0 0 no_plan (reported_at 7 63)
  pub drop_preparing : after_drop (with_ends Preparing 63 63 31) 5 ≡ of_parts Gathering view7 (ended_at 7 5 6 2) 0 0 0 no_plan (reported_at 7 63)
  pub drop_committed : after_drop (with_ends Committed 63 63 63) 5 ≡ with_ends Committed 63 63 63
  -- a plan leads to ordered, and all else remains; a wait changes nothing
  pub plan_ordered : planned (of_parts Gathering view7 (ended_at 7 5 6 2) 63 0 0 no_plan (reported_at 7 63)) plan_of_case_a ≡ with_ends Ordered 63 0 0
  pub met_plans : decided_by Met (gathered view7 63) plan_of_case_a ≡ still (planned (gathered view7 63) plan_of_case_a) Decision.Planned
  pub short_waits : decided_by (Short TooFew) (gathered view7 63) plan_of_case_a ≡ still (gathered view7 63) (Decision.Wait TooFew)
  -- the node is marked; with the last held one the next phase follows
  pub fetched_one : after_fetched (with_ends Ordered 63 15 0) 4 ≡ with_ends Ordered 63 31 0
  pub fetched_last : after_fetched (with_ends Ordered 63 31 0) 5 ≡ with_ends Preparing 63 63 0
  pub prepared_one : after_prepared (with_ends Preparing 63 63 15) 4 ≡ with_ends Preparing 63 63 31
  pub prepared_last : after_prepared (with_ends Preparing 63 63 31) 5 ≡ with_ends Committed 63 63 63
  -- the next state, or beside a refusal the state as it was
  pub outcome_taken : outcome_of none fresh (gathered view7 1) ≡ record { state = gathered view7 1; answer = Answer.Accepted }
  pub outcome_refused : outcome_of (refused 4) fresh (gathered view7 1) ≡ record { state = fresh; answer = Answer.Refused (refused 4) }
  -- rows 1 to 4 in their order, then rows 6 and 14
  pub row_1 : (σ d : List ℕ) (x : State) → entry_refusal false σ x d false ≡ refused 1
  pub row_2 : (σ d : List ℕ) (x : State) → settings_ok σ ≡ false → entry_refusal true σ x d false ≡ refused 2
  pub row_3 : (σ d : List ℕ) (x : State) → settings_ok σ ≡ true → sound σ x d ≡ false → entry_refusal true σ x d false ≡ refused 3
  pub row_4 : (σ d : List ℕ) (x : State) → settings_ok σ ≡ true → sound σ x d ≡ true → entry_refusal true σ x d false ≡ refused 4
  pub row_none : (σ d : List ℕ) (x : State) → settings_ok σ ≡ true → sound σ x d ≡ true → entry_refusal true σ x d true ≡ none
  pub row_6 : node_refusal case_settings 7 false ≡ refused 6
  pub row_14 : node_refusal case_settings 6 false ≡ refused 14
  pub node_none : node_refusal case_settings 6 true ≡ none

first_row : (σ d : List ℕ) (x : State) → entry_refusal false σ x d false ≡ refused 1
unfolding unless entry_refusal
first_row σ d x = refl

second_row : (σ d : List ℕ) (x : State) → settings_ok σ ≡ false → entry_refusal true σ x d false ≡ refused 2
unfolding unless entry_refusal
second_row σ d x a = rw a

third_row : (σ d : List ℕ) (x : State) → settings_ok σ ≡ true → sound σ x d ≡ false → entry_refusal true σ x d false ≡ refused 3
unfolding unless entry_refusal
third_row σ d x a b = rw (a, b)

fourth_row : (σ d : List ℕ) (x : State) → settings_ok σ ≡ true → sound σ x d ≡ true → entry_refusal true σ x d false ≡ refused 4
unfolding unless entry_refusal
fourth_row σ d x a b = rw (a, b)

no_row : (σ d : List ℕ) (x : State) → settings_ok σ ≡ true → sound σ x d ≡ true → entry_refusal true σ x d true ≡ none
unfolding unless entry_refusal
no_row σ d x a b = rw (a, b)

pub event_clauses : EventClauses
unfolding all_below any_below lowest tabulate unless place following body_word body_of contents_of layout_of termination_of renewed noted fresh holding keeping marked restarted planned after_report dropped_in after_fetched after_prepared outcome_of state_by decision_by node_refusal
event_clauses =
    record {
      report-holds = refl;
      report-again = refl;
      report_renews = refl;
      drop_gathering = refl;
      drop_ordered = refl;
      drop_preparing = refl;
      drop_committed = refl;
      plan_ordered = refl;
      met_plans = refl;
      short_waits = refl;
      fetched_one = refl;
      fetched_last = refl;
      prepared_one = refl;
      prepared_last = refl;
      outcome_taken = refl;
      outcome_refused = refl;
      row_1 = first_row;
      row_2 = second_row;
      row_3 = third_row;
      row_4 = fourth_row;
      row_none = no_row;
      row_6 = refl;
      row_14 = refl;
      node_none = refl;
    }

-- ---- when an event is refused: sound states of each phase beside case A's desk

abbrev pub ordered_a : State
ordered_a = of_parts Ordered view7 no_termination 63 1 0 plan_of_case_a (reported_at 7 63)

abbrev pub preparing_a : State
preparing_a = of_parts Preparing view7 no_termination 63 63 1 plan_of_case_a (reported_at 7 63)

abbrev pub committed_a : State
committed_a = of_parts Committed view7 no_termination 63 63 63 plan_of_case_a (reported_at 7 63)

-- gathering with case A's desk: the held nodes, and what is remembered
abbrev pub gathering_a : ℕ → Latest → State
gathering_a held m = of_parts Gathering view7 no_termination held 0 0 no_plan m

pub record RefusalClauses : Type 0 where
  -- a desk of another length, in every event
  pub report-desk : report_refusal case_settings (gathered view7 63) [] (open_report 7) ≡ refused 1
  pub drop_desk : drop_refusal case_settings (gathered view7 63) [] 5 ≡ refused 1
  pub decide_desk : decide_refusal case_settings (gathered view7 63) [] ≡ refused 1
  pub fetched_desk : fetched_refusal case_settings ordered_a [] 5 ≡ refused 1
  pub prepared_desk : prepared_refusal case_settings preparing_a [] 5 ≡ refused 1
  -- a report in gathering only, with the rows of what is kept
  pub report-taken : report_refusal case_settings (gathered view7 63) desk (open_report 7) ≡ none
  pub report_row_5 : report_refusal case_settings (gathered view7 63) desk [] ≡ refused 5
  pub report_ordered : report_refusal case_settings ordered_a desk (open_report 7) ≡ refused 4
  -- and no smaller view than the node's own greatest: while it is held, when it was dropped, and when gathering has started again
  pub report_earlier : report_refusal case_settings (gathered view7 63) desk (open_report 6) ≡ refused 18
  pub dropped_earlier : report_refusal case_settings (after_drop (gathered view7 63) 1) desk (open_report 6) ≡ refused 18
  pub restarted_earlier : report_refusal case_settings (after_drop ordered_a 5) desk (open_report 6) ≡ refused 18
  pub fresh_earlier : report_refusal case_settings fresh desk (open_report 6) ≡ none
  -- a state of held nodes that remembers nothing, as an earlier release saved it, is unsound; one that holds nobody is not
  pub forgotten_held : report_refusal case_settings (gathering_a 63 no_latest) desk (open_report 7) ≡ refused 3
  pub forgotten_empty : report_refusal case_settings (gathering_a 0 no_latest) desk (open_report 6) ≡ none
  -- the desk has the report in its node's slot, and beside a refusal what it had
  pub desk_taken : desk_after case_settings (gathered view7 63) desk (open_report 7) ≡ desk_with desk 1 (open_report 7)
  pub desk_refused : desk_after case_settings (gathered view7 63) desk [] ≡ desk
  -- a drop in every phase but committed, of a held node
  pub drop_taken : drop_refusal case_settings (gathered view7 63) desk 5 ≡ none
  pub drop_ordered : drop_refusal case_settings ordered_a desk 5 ≡ none
  pub drop_preparing : drop_refusal case_settings preparing_a desk 5 ≡ none
  pub drop_committed : drop_refusal case_settings committed_a desk 5 ≡ refused 4
  pub drop_absent : drop_refusal case_settings (gathered view7 63) desk 6 ≡ refused 14
  -- decide in gathering only
  pub decide_taken : decide_refusal case_settings (gathered view7 63) desk ≡ none
  pub decide_ordered : decide_refusal case_settings ordered_a desk ≡ refused 4
  -- an order while ordered only, of a held node, into 512 words
  pub order_taken : order_refusal case_settings ordered_a desk 5 (replicate 512 0) ≡ none
  pub order-buffer : order_refusal case_settings ordered_a desk 5 (replicate 511 0) ≡ refused 1
  pub order_desk : order_refusal case_settings ordered_a [] 5 (replicate 512 0) ≡ refused 1
  pub order_gathering : order_refusal case_settings (gathered view7 63) desk 5 (replicate 512 0) ≡ refused 4
  pub order_preparing : order_refusal case_settings preparing_a desk 5 (replicate 512 0) ≡ refused 4
  pub order_absent : order_refusal case_settings ordered_a desk 6 (replicate 512 0) ≡ refused 14
  -- fetched while ordered only, of a held node that is not marked
  pub fetched_taken : fetched_refusal case_settings ordered_a desk 5 ≡ none
  pub fetched_gathering : fetched_refusal case_settings (gathered view7 63) desk 5 ≡ refused 4
  pub fetched_preparing : fetched_refusal case_settings preparing_a desk 5 ≡ refused 4
  pub fetched_absent : fetched_refusal case_settings ordered_a desk 6 ≡ refused 14
  pub fetched_twice : fetched_refusal case_settings ordered_a desk 0 ≡ refused 14
  -- prepared while preparing only, of a held node that is not marked
  pub prepared_taken : prepared_refusal case_settings preparing_a desk 5 ≡ none
  pub prepared_ordered : prepared_refusal case_settings ordered_a desk 5 ≡ refused 4
  pub prepared_committed : prepared_refusal case_settings committed_a desk 5 ≡ refused 4
  pub prepared_absent : prepared_refusal case_settings preparing_a desk 6 ≡ refused 14
  pub prepared_twice : prepared_refusal case_settings preparing_a desk 0 ≡ refused 14

parts_sound : slots_ok case_settings view7 no_termination 63 desk ≡ true
unfolding desk all_below any_below lowest tabulate unless unless_at first_of place following row5 row8 precedes shards_where row6 view_ok row7 kind_ok plain kind_at shard_at surplus sequence_at complete shard_apart row10_at row10 is_position view_fits legal row11_at body_word body_of contents_of records_refusal head_refusal message_refusal slot report_of same_view row12 same_termination row13 term_kept slot_ok slots_ok
parts_sound = refl

kept_is_sound : kept_sound case_settings view7 no_termination 63 ≡ true
unfolding all_below view_ok shard_apart row10_at row10 layout_tidy layout_blank view_sound term_sound_at term_sound nothing_kept kept_sound
kept_is_sound = refl

plan_is_sound : plan_sound case_settings view7 no_termination 63 desk plan_of_case_a ≡ true
unfolding desk ones ones_in all_below any_below lowest tabulate pair_not_after sum_below place following body_word body_of contents_of end_of reaches holds has_update slot report_of candidate greatest best target able holder majority first_unheld quorum_of count_below cap meets_set sets_in shard_valid shard_apart group_valid_at group_valid group_moves_at group_moves all_moves layout_tidy is_met shard_planned plan_sound
plan_is_sound = refl

latest_is_sound : latest_sound case_settings 7 63 desk (reported_at 7 63) ≡ true
unfolding desk all_below tabulate place following body_word body_of contents_of slot report_of recalled latest_sound
latest_is_sound = refl

gathered_sound : sound case_settings (gathered view7 63) desk ≡ true
unfolding all_below layout_blank plan_blank marks_sound plan_fits sound
gathered_sound = and_both (and_both (and_both (and_both kept_is_sound parts_sound) refl) latest_is_sound) refl

-- node 1 was dropped; nobody is held, with and without what is remembered; and the fresh state
dropped_sound : sound case_settings (after_drop (gathered view7 63) 1) desk ≡ true
unfolding desk all_below any_below lowest tabulate unless unless_at first_of place following row5 row8 precedes shards_where row6 view_ok row7 kind_ok plain kind_at shard_at surplus sequence_at complete shard_apart row10_at row10 is_position view_fits legal row11_at body_word body_of contents_of records_refusal head_refusal message_refusal slot report_of same_view row12 same_termination row13 term_kept slot_ok slots_ok layout_tidy layout_blank view_sound term_sound_at term_sound nothing_kept kept_sound marks_sound plan_blank plan_fits recalled latest_sound holding dropped_in sound
dropped_sound = refl

restarted_is_sound : sound case_settings (after_drop ordered_a 5) desk ≡ true
unfolding all_below tabulate view_ok shard_apart row10_at row10 slots_ok layout_tidy layout_blank view_sound term_sound_at term_sound nothing_kept kept_sound marks_sound plan_blank plan_fits recalled latest_sound restarted dropped_in sound
restarted_is_sound = refl

empty_sound : sound case_settings (gathering_a 0 no_latest) desk ≡ true
unfolding all_below tabulate view_ok shard_apart row10_at row10 slots_ok layout_tidy layout_blank view_sound term_sound_at term_sound nothing_kept kept_sound marks_sound plan_blank plan_fits no_latest recalled latest_sound sound
empty_sound = refl

fresh_is_sound : sound case_settings fresh desk ≡ true
unfolding all_below tabulate view_ok shard_apart row10_at row10 slots_ok layout_tidy layout_blank view_sound term_sound_at term_sound nothing_kept kept_sound marks_sound plan_blank plan_fits no_latest recalled latest_sound fresh sound
fresh_is_sound = refl

-- a held node of which nothing is remembered
forgotten_latest : latest_sound case_settings 7 63 desk no_latest ≡ false
unfolding desk all_below tabulate place following body_word body_of contents_of slot report_of no_latest recalled latest_sound
forgotten_latest = refl

forgotten_unsound : sound case_settings (gathering_a 63 no_latest) desk ≡ false
unfolding sound
forgotten_unsound =
    and_fails_left (plan_fits Gathering case_settings view7 no_termination 63 desk no_plan)
    (and_fails_right (kept_sound case_settings view7 no_termination 63 && slots_ok case_settings view7 no_termination 63 desk && marks_sound Gathering 63 0 0)
    forgotten_latest)

ordered_sound : sound case_settings ordered_a desk ≡ true
unfolding marks_sound plan_fits sound
ordered_sound = and_both (and_both (and_both (and_both kept_is_sound parts_sound) refl) latest_is_sound) plan_is_sound

preparing_sound : sound case_settings preparing_a desk ≡ true
unfolding marks_sound plan_fits sound
preparing_sound = and_both (and_both (and_both (and_both kept_is_sound parts_sound) refl) latest_is_sound) plan_is_sound

committed_sound : sound case_settings committed_a desk ≡ true
unfolding marks_sound plan_fits sound
committed_sound = and_both (and_both (and_both (and_both kept_is_sound parts_sound) refl) latest_is_sound) plan_is_sound

pub refusal_clauses : RefusalClauses
unfolding desk all_below any_below lowest tabulate sizes_ok nodes_ok cap shard_ok shards_ok settings_ok unless unless_at first_of place following row5 row8 precedes shards_where row6 view_ok row7 kind_ok plain kind_at shard_at surplus sequence_at complete shard_apart row10_at row10 is_position view_fits legal row11_at body_word body_of contents_of records_refusal head_refusal message_refusal same_view row12 same_termination row13 no_latest row18 kept_refusal refusal_beside fresh holding restarted dropped_in entry_refusal event_refusal node_refusal report_refusal drop_refusal decide_refusal order_refusal fetched_refusal prepared_refusal desk_after
refusal_clauses =
    record {
      report-desk = refl;
      drop_desk = refl;
      decide_desk = refl;
      fetched_desk = refl;
      prepared_desk = refl;
      report-taken = rw gathered_sound;
      report_row_5 = rw gathered_sound;
      report_ordered = rw ordered_sound;
      report_earlier = rw gathered_sound;
      dropped_earlier = rw dropped_sound;
      restarted_earlier = rw restarted_is_sound;
      fresh_earlier = rw fresh_is_sound;
      forgotten_held = rw forgotten_unsound;
      forgotten_empty = rw empty_sound;
      desk_taken = rw gathered_sound;
      desk_refused = rw gathered_sound;
      drop_taken = rw gathered_sound;
      drop_ordered = rw ordered_sound;
      drop_preparing = rw preparing_sound;
      drop_committed = rw committed_sound;
      drop_absent = rw gathered_sound;
      decide_taken = rw gathered_sound;
      decide_ordered = rw ordered_sound;
      order_taken = rw ordered_sound;
      order-buffer = refl;
      order_desk = refl;
      order_gathering = rw gathered_sound;
      order_preparing = rw preparing_sound;
      order_absent = rw ordered_sound;
      fetched_taken = rw ordered_sound;
      fetched_gathering = rw gathered_sound;
      fetched_preparing = rw preparing_sound;
      fetched_absent = rw ordered_sound;
      fetched_twice = rw ordered_sound;
      prepared_taken = rw preparing_sound;
      prepared_ordered = rw ordered_sound;
      prepared_committed = rw committed_sound;
      prepared_absent = rw preparing_sound;
      prepared_twice = rw preparing_sound;
    }
