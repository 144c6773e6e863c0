-- A row for each clause of the soundness of a state's parts: with the clause left out or turned round the row would be
-- false. Settings, reports and view are those of case A, and the plan is document 01's, but for what a row changes.
use Rattle.std.specs.Prelude.{ℕ, Bool, true, false, List, [], ◌∷◌, ◌++◌, ◌≡◌, refl, replicate}
use Rattle.std.specs.Int.Count.{ones, ones_in}
use Rattle.base_laws.specs.Definitions.{all_below, any_below, count_below, lowest, pair_not_after, tabulate}
use Rattle.base_sum_laws.specs.Definitions.{sum_below}
use Rattle.base_ids.specs.declared.Node.{Node}
use Rattle.base_ids.specs.declared.Position.{Position}
use Rattle.settings_values.specs.Definitions.{cap}
use Rattle.message_format.specs.Definitions.{place, following, view_ok, shard_apart, row10_at, row10, is_position, body_word, body_of, contents_of}
use Rattle.place_groups.specs.Definitions.{meets_set, sets_in, shard_valid, group_valid_at, group_valid, group_moves_at, group_moves}
use Rattle.report_views.specs.declared.Layout.{Layout}
use Rattle.report_views.specs.declared.Termination.{Termination}
use Rattle.report_views.specs.declared.Plan.{Plan}
use Rattle.report_views.specs.declared.Phase.TheVariants.{Gathering, Ordered, Preparing, Committed}
use Rattle.report_views.specs.Definitions.{no_view, no_termination, no_plan, pos, start, end_of, reaches, holds, has_update, slot, report_of, candidate, greatest, best, target, able, holder, majority, first_unheld, quorum_of, layout_tidy, layout_blank, view_sound, position_sound, term_sound_at, term_sound, nothing_kept, kept_sound, marks_sound, plan_blank, is_met, shard_planned, all_moves, plan_sound, plan_fits}
use Rattle.report_cases.specs.Samples.{case_settings, case_slots, view7}

-- a view of its parts, with masks of the first three shards and of the last entry
abbrev pub view_of_parts : ℕ → ℕ → ℕ → ℕ → ℕ → ℕ → Layout
view_of_parts number members a b c end =
    record { number = record { 0 = number }; members = members; masks = a ∷ b ∷ c ∷ replicate 12 0 ++ (end ∷ []) }

-- a termination of its parts, with positions of shard 1 and of the last entry
abbrev pub endings_of : Bool → Position → Position → Termination
endings_of made p end = record { made = made; positions = start ∷ p ∷ replicate 13 start ++ (end ∷ []) }

pub record KeptClauses : Type 0 where
  -- a view has no entry from S up
  pub tidy : layout_tidy case_settings view7 ≡ true
  pub untidy : layout_tidy case_settings (view_of_parts 7 127 5 82 32 1) ≡ false
  -- no view: number, members and every entry are zero
  pub blank : layout_blank no_view ≡ true
  pub blank_number : layout_blank (view_of_parts 1 0 0 0 0 0) ≡ false
  pub blank_members : layout_blank (view_of_parts 0 1 0 0 0 0) ≡ false
  pub blank_masks : layout_blank (view_of_parts 0 0 0 0 0 1) ≡ false
  -- a kept view obeys row 7 as in a report, its reporter aside, and row 10
  pub view : view_sound case_settings view7 ≡ true
  pub view_zero : view_sound case_settings (view_of_parts 0 127 5 82 32 0) ≡ false
  pub view_last : view_sound case_settings (view_of_parts 4294967294 127 5 82 32 0) ≡ true
  pub view_past : view_sound case_settings (view_of_parts 4294967295 127 5 82 32 0) ≡ false
  pub members_past : view_sound case_settings (view_of_parts 7 255 5 82 32 0) ≡ false
  pub shard_empty : view_sound case_settings (view_of_parts 7 127 5 82 0 0) ≡ false
  pub shard_outside : view_sound case_settings (view_of_parts 7 63 5 82 32 0) ≡ false
  pub shard_shared : view_sound case_settings (view_of_parts 7 127 5 82 33 0) ≡ false
  pub entry_past : view_sound case_settings (view_of_parts 7 127 5 82 32 1) ≡ false
  -- a position of a termination obeys row 11 as in a report of the view
  pub position_start : position_sound 7 start ≡ true
  pub position_right : position_sound 7 (pos 7 1) ≡ true
  pub position_view : position_sound 7 (pos 0 3) ≡ false
  pub position_k : position_sound 7 (pos 3 0) ≡ false
  pub position_above : position_sound 7 (pos 8 1) ≡ false
  -- for every shard; from S up, and where no termination is made, it is (0, 0)
  pub ended : term_sound case_settings view7 (endings_of true (pos 7 5) start) ≡ true
  pub ended_wrong : term_sound case_settings view7 (endings_of true (pos 8 5) start) ≡ false
  pub ended_past : term_sound case_settings view7 (endings_of true (pos 7 5) (pos 7 5)) ≡ false
  pub not_made : term_sound case_settings view7 (endings_of false (pos 7 5) start) ≡ false
  -- while no view is kept nothing is held and no termination kept
  pub nothing : kept_sound case_settings no_view no_termination 0 ≡ true
  pub nothing_held : kept_sound case_settings no_view no_termination 1 ≡ false
  pub nothing_made : kept_sound case_settings no_view (endings_of true start start) 0 ≡ false
  pub something : nothing_kept view7 no_termination 0 ≡ false
  -- a kept view, a termination and held nodes
  pub kept : kept_sound case_settings view7 (endings_of true (pos 7 5) start) 127 ≡ true
  pub kept_wrong : kept_sound case_settings (view_of_parts 7 127 5 82 0 0) no_termination 127 ≡ false
  pub kept_ended_wrong : kept_sound case_settings view7 (endings_of true (pos 8 5) start) 127 ≡ false
  pub held_past : kept_sound case_settings view7 no_termination 128 ≡ false

pub kept_clauses : KeptClauses
unfolding all_below view_ok shard_apart row10_at row10 is_position layout_tidy layout_blank view_sound position_sound term_sound_at term_sound nothing_kept kept_sound
kept_clauses =
    record {
      tidy = refl;
      untidy = refl;
      blank = refl;
      blank_number = refl;
      blank_members = refl;
      blank_masks = refl;
      view = refl;
      view_zero = refl;
      view_last = refl;
      view_past = refl;
      members_past = refl;
      shard_empty = refl;
      shard_outside = refl;
      shard_shared = refl;
      entry_past = refl;
      position_start = refl;
      position_right = refl;
      position_view = refl;
      position_k = refl;
      position_above = refl;
      ended = refl;
      ended_wrong = refl;
      ended_past = refl;
      not_made = refl;
      nothing = refl;
      nothing_held = refl;
      nothing_made = refl;
      something = refl;
      kept = refl;
      kept_wrong = refl;
      kept_ended_wrong = refl;
      held_past = refl;
    }

pub record MarkClauses : Type 0 where
  pub gathering : marks_sound Gathering 63 0 0 ≡ true
  pub gathering_fetched : marks_sound Gathering 63 1 0 ≡ false
  pub gathering_prepared : marks_sound Gathering 63 0 1 ≡ false
  -- ordered: some held node is unfetched, and none prepared
  pub ordered : marks_sound Ordered 63 31 0 ≡ true
  pub ordered_outside : marks_sound Ordered 63 64 0 ≡ false
  pub ordered_all : marks_sound Ordered 63 63 0 ≡ false
  pub ordered_prepared : marks_sound Ordered 63 31 1 ≡ false
  -- preparing: all have fetched, and some held node is unprepared
  pub preparing : marks_sound Preparing 63 63 31 ≡ true
  pub preparing_unfetched : marks_sound Preparing 63 31 1 ≡ false
  pub preparing_outside : marks_sound Preparing 63 63 64 ≡ false
  pub preparing_all : marks_sound Preparing 63 63 63 ≡ false
  -- committed: all of both
  pub committed : marks_sound Committed 63 63 63 ≡ true
  pub committed_unfetched : marks_sound Committed 63 31 63 ≡ false
  pub committed_unprepared : marks_sound Committed 63 63 31 ≡ false

pub mark_clauses : MarkClauses
unfolding marks_sound
mark_clauses =
    record {
      gathering = refl;
      gathering_fetched = refl;
      gathering_prepared = refl;
      ordered = refl;
      ordered_outside = refl;
      ordered_all = refl;
      ordered_prepared = refl;
      preparing = refl;
      preparing_unfetched = refl;
      preparing_outside = refl;
      preparing_all = refl;
      committed = refl;
      committed_unfetched = refl;
      committed_unprepared = refl;
    }

-- the holders and the targets of document 01's plan, with the last entry
abbrev pub holders_ending : ℕ → ℕ → List Node
holders_ending b end =
    record { 0 = 0 } ∷ record { 0 = b } ∷ record { 0 = 5 } ∷ replicate 12 (record { 0 = 0 }) ++ (record { 0 = end } ∷ [])

abbrev pub targets_ending : Position → Position → List Position
targets_ending p end = start ∷ p ∷ replicate 13 start ++ (end ∷ [])

-- a plan of its parts
abbrev pub plan_of : Layout → ℕ → List Node → List Position → Plan
plan_of v total holders targets = record { layout = v; total = total; holders = holders; targets = targets }

abbrev pub plan_with : Layout → ℕ → Plan
plan_with v total = plan_of v total (holders_ending 1 0) (targets_ending (pos 7 5) start)

abbrev pub plan_of_case_a : Plan
plan_of_case_a = plan_with (view_of_parts 8 63 5 50 8 0) 2

-- with settings in which each shard needs one node: nodes 0 to 4 are held, and of shard 2 nobody is
abbrev pub needs_one : List ℕ
needs_one = 7 ∷ 3 ∷ 4 ∷ 3 ∷ 0 ∷ 0 ∷ 1 ∷ 1 ∷ 1 ∷ 2 ∷ 2 ∷ 1 ∷ 1 ∷ 1 ∷ []

-- the settings with shard 2 in subgroup 3
abbrev pub last_group : List ℕ
last_group = 7 ∷ 3 ∷ 4 ∷ 3 ∷ 0 ∷ 0 ∷ 1 ∷ 1 ∷ 1 ∷ 2 ∷ 2 ∷ 2 ∷ 3 ∷ 769 ∷ []

-- and with a cap of two
abbrev pub last_capped : List ℕ
last_capped = 7 ∷ 3 ∷ 4 ∷ 3 ∷ 0 ∷ 0 ∷ 1 ∷ 1 ∷ 1 ∷ 2 ∷ 2 ∷ 2 ∷ 3 ∷ 131841 ∷ []

abbrev pub plan_unheld : Plan
plan_unheld =
    plan_of (view_of_parts 8 31 1 2 8 0) 1 (record { 0 = 0 } ∷ record { 0 = 1 } ∷ record { 0 = 32 } ∷ replicate 13 (record { 0 = 0 }))
    (targets_ending (pos 7 5) start)

pub record PlanClauses : Type 0 where
  pub blank : plan_blank no_plan ≡ true
  pub blank_view : plan_blank (plan_of (view_of_parts 1 0 0 0 0 0) 0 no_plan.holders no_plan.targets) ≡ false
  pub blank_total : plan_blank (plan_of no_view 1 no_plan.holders no_plan.targets) ≡ false
  pub blank_holders : plan_blank (plan_of no_view 0 (replicate 15 (record { 0 = 0 }) ++ (record { 0 = 1 } ∷ [])) no_plan.targets) ≡ false
  pub blank_targets : plan_blank (plan_of no_view 0 no_plan.holders (replicate 15 start ++ (pos 1 1 ∷ []))) ≡ false
  -- document 01's plan, and each part of it changed
  pub right : plan_sound case_settings view7 no_termination 63 case_slots plan_of_case_a ≡ true
  pub number : plan_sound case_settings view7 no_termination 63 case_slots (plan_with (view_of_parts 9 63 5 50 8 0) 2) ≡ false
  pub members : plan_sound case_settings view7 no_termination 63 case_slots (plan_with (view_of_parts 8 127 5 50 8 0) 2) ≡ false
  pub entry_past : plan_sound case_settings view7 no_termination 63 case_slots (plan_with (view_of_parts 8 63 5 50 8 1) 2) ≡ false
  pub other_holder :
      plan_sound case_settings view7 no_termination 63 case_slots (plan_of plan_of_case_a.layout 2 (holders_ending 4 0) (targets_ending (pos 7 5) start)) ≡ false
  pub holder_past :
      plan_sound case_settings view7 no_termination 63 case_slots (plan_of plan_of_case_a.layout 2 (holders_ending 1 1) (targets_ending (pos 7 5) start)) ≡ false
  pub other_k :
      plan_sound case_settings view7 no_termination 63 case_slots (plan_of plan_of_case_a.layout 2 (holders_ending 1 0) (targets_ending (pos 7 4) start)) ≡ false
  pub other_view :
      plan_sound case_settings view7 no_termination 63 case_slots (plan_of plan_of_case_a.layout 2 (holders_ending 1 0) (targets_ending (pos 6 5) start)) ≡ false
  pub target_past :
      plan_sound case_settings view7 no_termination 63 case_slots (plan_of plan_of_case_a.layout 2 (holders_ending 1 0) (targets_ending (pos 7 5) (pos 7 5)))
      ≡ false
  -- nodes 0 and 1 are of one failure set
  pub invalid : plan_sound case_settings view7 no_termination 63 case_slots (plan_with (view_of_parts 8 63 3 52 8 0) 3) ≡ false
  -- shard 2 is of subgroup 3 and gets two nodes where it needs one
  pub last-group : plan_sound last_group view7 no_termination 63 case_slots (plan_with (view_of_parts 8 63 5 50 9 0) 3) ≡ false
  -- where its cap is two it may have them; stays are not asked again, and node 5 was its member
  pub capped_group : plan_sound last_capped view7 no_termination 63 case_slots (plan_with (view_of_parts 8 63 5 50 9 0) 3) ≡ true
  pub other_total : plan_sound case_settings view7 no_termination 63 case_slots (plan_with (view_of_parts 8 63 5 50 8 0) 3) ≡ false
  -- a valid placement with more moves than need be: least moves are not asked again
  pub not_least : plan_sound case_settings view7 no_termination 63 case_slots (plan_with (view_of_parts 8 63 9 50 4 0) 3) ≡ true
  -- a wait applies: shard 2 has no holder, and all else fits
  pub waiting : plan_sound needs_one view7 no_termination 31 case_slots plan_unheld ≡ false
  -- no plan is none
  pub no-plan : plan_sound case_settings view7 no_termination 63 case_slots no_plan ≡ false

-- plans of valid placements, one with a cap and one with more moves than need be
capped_sound : plan_sound last_capped view7 no_termination 63 case_slots (plan_with (view_of_parts 8 63 5 50 9 0) 3) ≡ true
unfolding case_slots ones ones_in all_below any_below lowest tabulate pair_not_after sum_below place following body_word body_of contents_of end_of reaches holds has_update slot report_of candidate greatest best target able holder majority first_unheld quorum_of count_below cap meets_set sets_in shard_valid shard_apart group_valid_at group_valid group_moves_at group_moves all_moves layout_tidy layout_blank plan_blank is_met shard_planned plan_sound
capped_sound = refl

more_moves_sound : plan_sound case_settings view7 no_termination 63 case_slots (plan_with (view_of_parts 8 63 9 50 4 0) 3) ≡ true
unfolding case_slots ones ones_in all_below any_below lowest tabulate pair_not_after sum_below place following body_word body_of contents_of end_of reaches holds has_update slot report_of candidate greatest best target able holder majority first_unheld quorum_of count_below cap meets_set sets_in shard_valid shard_apart group_valid_at group_valid group_moves_at group_moves all_moves layout_tidy layout_blank plan_blank is_met shard_planned plan_sound
more_moves_sound = refl

pub plan_clauses : PlanClauses
unfolding case_slots ones ones_in all_below any_below lowest tabulate pair_not_after sum_below place following body_word body_of contents_of end_of reaches holds has_update slot report_of candidate greatest best target able holder majority first_unheld quorum_of count_below cap meets_set sets_in shard_valid shard_apart group_valid_at group_valid group_moves_at group_moves all_moves layout_tidy layout_blank plan_blank is_met shard_planned plan_sound
plan_clauses =
    record {
      blank = refl;
      blank_view = refl;
      blank_total = refl;
      blank_holders = refl;
      blank_targets = refl;
      right = refl;
      number = refl;
      members = refl;
      entry_past = refl;
      other_holder = refl;
      holder_past = refl;
      other_k = refl;
      other_view = refl;
      target_past = refl;
      invalid = refl;
      last-group = refl;
      capped_group = capped_sound;
      other_total = refl;
      not_least = more_moves_sound;
      waiting = refl;
      no-plan = refl;
    }

-- gathering has no plan, and the other phases have one
pub record PhaseClauses : Type 0 where
  pub gathering : plan_fits Gathering case_settings view7 no_termination 63 case_slots no_plan ≡ true
  pub gathering_plan : plan_fits Gathering case_settings view7 no_termination 63 case_slots plan_of_case_a ≡ false
  pub ordered : plan_fits Ordered case_settings view7 no_termination 63 case_slots plan_of_case_a ≡ true
  pub ordered_none : plan_fits Ordered case_settings view7 no_termination 63 case_slots no_plan ≡ false
  pub preparing : plan_fits Preparing case_settings view7 no_termination 63 case_slots plan_of_case_a ≡ true
  pub preparing_none : plan_fits Preparing case_settings view7 no_termination 63 case_slots no_plan ≡ false
  pub committed : plan_fits Committed case_settings view7 no_termination 63 case_slots plan_of_case_a ≡ true
  pub committed_none : plan_fits Committed case_settings view7 no_termination 63 case_slots no_plan ≡ false

pub phase_clauses : PhaseClauses
unfolding all_below layout_blank plan_blank plan_fits
phase_clauses =
    record {
      gathering = refl;
      gathering_plan = refl;
      ordered = plan_clauses.right;
      ordered_none = plan_clauses.no-plan;
      preparing = plan_clauses.right;
      preparing_none = plan_clauses.no-plan;
      committed = plan_clauses.right;
      committed_none = plan_clauses.no-plan;
    }
