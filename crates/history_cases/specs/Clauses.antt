-- A row for each clause of the definitions of quorum, target, holder, placement and cut: with the clause left out or turned
-- round the row would be false. What a row guards is its name; the view, the settings and the reports are those of case A but for
-- what its comment says.
use Rattle.std.specs.Prelude.{ℕ, ◌+◌, ◌^◌, true, false, List, [], ◌∷◌, ◌++◌, ◌≡◌, refl}
use Rattle.std.specs.Int.Count.{ones, ones_in}
use lib.ListN.{replicate}
use Rattle.base_laws.specs.Definitions.{all_below, any_below, count_below, lowest, tabulate, pair_not_after}
use Rattle.base_sum_laws.specs.Definitions.{sum_below}
use Rattle.settings_values.specs.Definitions.{cap}
use Rattle.message_format.specs.Definitions.{place, following, body_word, body_of, contents_of, shard_apart}
use Rattle.place_groups.specs.Definitions.{meets_set, sets_in, shard_valid, group_valid_at, group_valid, group_moves_at, group_moves, group_stays_at, group_stays}
use Rattle.report_views.specs.declared.Layout.{Layout}
use Rattle.report_views.specs.declared.Termination.{Termination}
use Rattle.report_views.specs.declared.Reason.TheVariants.{NoView, NoMajority, TooFew, NoHolder, NoPlacement}
use Rattle.report_views.specs.declared.Quorum.TheVariants.{Met, Short}
use Rattle.report_views.specs.Definitions.{no_termination, pos, start, end_of, runs_from, runs_of, reaches, holds, has_update, slot, report_of, candidate, greatest, best, target, able, holder, majority, first_unheld, quorum_of, number_of, value_of, holders_of, targets_of, all_moves, runs_to, shared_after, cut_from}
use Rattle.report_views.specs.Standings.{standing_of}
use Rattle.report_views.specs.Updates.{updates_after, updates_in, updates_of, those_of, up_to, kept_updates, fetched_updates}
use Rattle.report_views.specs.Cuts.{cut}
use Rattle.history_cases.specs.Runs.{case_settings, settings_with, report_under, case_report, no_runs, run1, two_runs1, slot_of, desk_with_reports, desk, view7, log_of}

-- node 1 ends with (6, 8); node 4, of the same shard, reports view 6 and ends with (6, 9)
unfoldable pub stale_desk : List ℕ
stale_desk = desk_with_reports (case_report 1 (run1 6 8)) (case_report 3 no_runs) (report_under 6 4 (run1 6 9)) (case_report 5 no_runs)

-- node 3, which is no member of shard 1, has a longer log of it than nodes 1 and 4
unfoldable pub outsider_desk : List ℕ
outsider_desk = desk_with_reports (case_report 1 (run1 7 5)) (case_report 3 (run1 7 9)) (case_report 4 (run1 7 4)) (case_report 5 no_runs)

-- node 1 ends with (7, 4), node 4 with (7, 5)
unfoldable pub later_desk : List ℕ
later_desk = desk_with_reports (case_report 1 (run1 7 4)) (case_report 3 no_runs) (case_report 4 (run1 7 5)) (case_report 5 no_runs)

-- node 1 has (6, 7) and then (7, 9), node 4 ends with (6, 8)
unfoldable pub lacking_desk : List ℕ
lacking_desk = desk_with_reports (case_report 1 (two_runs1 6 7 7 9)) (case_report 3 no_runs) (case_report 4 (run1 6 8)) (case_report 5 no_runs)

-- of shards 1 and 2 nobody has reported view 7
unfoldable pub older_desk : List ℕ
older_desk = desk_with_reports (report_under 6 1 no_runs) (case_report 3 no_runs) (report_under 6 4 no_runs) (report_under 6 5 no_runs)

-- a termination that ends shard 1 at a position, and the others at (0, 0)
abbrev ending_at : ℕ → ℕ → Termination
ending_at v k = record { made = true; positions = start ∷ pos v k ∷ replicate 14 start }

-- a view of members 0, 1, 2 and 5
abbrev four_members : Layout
four_members = record { number = record { 0 = 7 }; members = 39; masks = 5 ∷ 2 ∷ 32 ∷ replicate 13 0 }

abbrev report_of_four : ℕ → List ℕ
report_of_four node = node ∷ 7 ∷ 39 ∷ 1 ∷ 256 ∷ 5 ∷ 0 ∷ 2 ∷ 257 ∷ 2 ∷ 0 ∷ 3 ∷ 258 ∷ 32 ∷ 0 ∷ 0 ∷ []

-- its members report it; nodes 3 and 4 report view 6, of which they were members
unfoldable pub strangers_desk : List ℕ
strangers_desk =
    slot_of (report_of_four 0) ++ slot_of (report_of_four 1) ++ slot_of (report_of_four 2) ++ slot_of (report_under 6 3 no_runs)
    ++ slot_of (report_under 6 4 no_runs)
    ++ slot_of (report_of_four 5)
    ++ replicate 13312 0

-- node 31 alone, with one shard
abbrev pub last_view : Layout
last_view = record { number = record { 0 = 7 }; members = 2 ^ 31; masks = 2 ^ 31 ∷ replicate 15 0 }

unfoldable pub last_desk : List ℕ
last_desk = replicate 15872 0 ++ slot_of (31 ∷ 7 ∷ 2 ^ 31 ∷ 1 ∷ 256 ∷ 2 ^ 31 ∷ 0 ∷ 0 ∷ [])

pub record QuorumClauses : Type 0 where
  -- a candidate reported the kept view: document 01's first trap
  pub stale_log : target view7 no_termination 63 stale_desk 1 ≡ pos 6 8
  pub stale_holder : holder view7 no_termination 63 stale_desk 1 ≡ 1
  -- a candidate is held: node 1's report is on the desk, but node 1 is not held
  pub not_held : target view7 no_termination 61 desk 1 ≡ pos 7 4
  -- a candidate is a member of the shard
  pub no_member : target view7 no_termination 63 outsider_desk 1 ≡ pos 7 5
  -- with no termination the target is the greatest end, and its holder need not be the lowest node
  pub greatest_end : target view7 no_termination 63 later_desk 1 ≡ pos 7 5
  pub greatest_holder : holder view7 no_termination 63 later_desk 1 ≡ 4
  -- of equal ends the lowest node holds
  pub equal_ends : holder view7 no_termination 63 desk 0 ≡ 0
  -- every node counts, up to node 31
  pub last_node : holder last_view no_termination (2 ^ 31) last_desk 0 ≡ 31
  -- a kept termination behind the ends is the target, and the holder is still that with the greatest end
  pub terminated_target : target view7 (ending_at 7 4) 63 later_desk 1 ≡ pos 7 4
  pub terminated_holder : holder view7 (ending_at 7 4) 63 later_desk 1 ≡ 4
  -- a candidate with a greater end that lacks the kept termination's update is no holder
  pub lacking_holder : holder view7 (ending_at 6 8) 63 lacking_desk 1 ≡ 4
  -- nobody has that update
  pub lacking_all : quorum_of case_settings view7 (ending_at 6 9) 63 lacking_desk ≡ Short (NoHolder (record { 0 = 1 }))
  -- a termination (0, 0) with logs that are not empty: any log has it
  pub zero_target : target view7 (ending_at 0 0) 63 later_desk 1 ≡ start
  pub zero_holder : holder view7 (ending_at 0 0) 63 later_desk 1 ≡ 4
  pub zero_met : quorum_of case_settings view7 (ending_at 0 0) 63 later_desk ≡ Met
  -- two shards without a holder: the lower one is named
  pub two_unheld : quorum_of case_settings view7 no_termination 63 older_desk ≡ Short (NoHolder (record { 0 = 1 }))
  -- too few held and a shard without a holder: wait 3 comes first
  pub few_before_unheld : quorum_of (settings_with 7 2) view7 no_termination 31 desk ≡ Short TooFew
  -- no majority and too few held: wait 2 comes first
  pub majority_before_few : quorum_of case_settings view7 no_termination 7 desk ≡ Short NoMajority
  -- as many held as the least size are enough
  pub least_reached : quorum_of (settings_with 6 2) view7 no_termination 63 desk ≡ Met
  -- the least size counts every held node: nodes 0, 1 and 5 are members, node 3 is none
  pub least_with_strangers : quorum_of case_settings four_members no_termination 43 strangers_desk ≡ Met
  -- the majority counts members only: nodes 0 and 1 are members, nodes 3 and 4 are none
  pub strangers_no_majority : quorum_of case_settings four_members no_termination 27 strangers_desk ≡ Short NoMajority
  -- the number of each reason, and what it names
  pub numbers :
      (number_of NoView ∷ number_of NoMajority ∷ number_of TooFew ∷ number_of (NoHolder (record { 0 = 2 })) ∷ number_of (NoPlacement 3) ∷ [])
      ≡ 1 ∷ 2 ∷ 3 ∷ 4 ∷ 5 ∷ []
  pub named :
      (value_of NoView ∷ value_of NoMajority ∷ value_of TooFew ∷ value_of (NoHolder (record { 0 = 2 })) ∷ value_of (NoPlacement 3) ∷ [])
      ≡ 0 ∷ 0 ∷ 0 ∷ 2 ∷ 3 ∷ []
  -- holders and targets of shards 0 to 2, and nothing from S up
  pub standing :
      standing_of case_settings view7 no_termination 63 desk
      ≡ record {
        quorum = Met;
        holders = record { 0 = 0 } ∷ record { 0 = 1 } ∷ record { 0 = 5 } ∷ replicate 13 (record { 0 = 0 });
        targets = start ∷ pos 7 5 ∷ replicate 14 start;
      }

pub quorum_clauses : QuorumClauses
unfolding desk last_desk stale_desk outsider_desk later_desk lacking_desk older_desk strangers_desk ones ones_in all_below any_below lowest tabulate pair_not_after place following body_word body_of contents_of end_of reaches holds has_update slot report_of candidate greatest best target able holder majority first_unheld quorum_of number_of value_of holders_of targets_of standing_of
quorum_clauses =
    record {
      stale_log = refl;
      stale_holder = refl;
      not_held = refl;
      no_member = refl;
      greatest_end = refl;
      greatest_holder = refl;
      equal_ends = refl;
      last_node = refl;
      terminated_target = refl;
      terminated_holder = refl;
      lacking_holder = refl;
      lacking_all = refl;
      zero_target = refl;
      zero_holder = refl;
      zero_met = refl;
      two_unheld = refl;
      few_before_unheld = refl;
      majority_before_few = refl;
      least_reached = refl;
      least_with_strangers = refl;
      strangers_no_majority = refl;
      numbers = refl;
      named = refl;
      standing = refl;
    }

-- four nodes, each in a failure set of its own; one shard, which needs two
abbrev pub one_shard : List ℕ
one_shard = 4 ∷ 4 ∷ 1 ∷ 1 ∷ 0 ∷ 1 ∷ 2 ∷ 3 ∷ 2 ∷ []

-- nodes 0 and 1 of one failure set, node 2 of another; one shard, which needs two
abbrev shared_set : List ℕ
shared_set = 3 ∷ 2 ∷ 1 ∷ 1 ∷ 0 ∷ 0 ∷ 1 ∷ 2 ∷ []

-- two shards of one subgroup, and of subgroups 0 and 3, each of which needs one node
abbrev two_shards : List ℕ
two_shards = 4 ∷ 2 ∷ 1 ∷ 2 ∷ 0 ∷ 0 ∷ 1 ∷ 1 ∷ 1 ∷ 1 ∷ []

abbrev pub two_groups : List ℕ
two_groups = 4 ∷ 2 ∷ 1 ∷ 2 ∷ 0 ∷ 0 ∷ 1 ∷ 1 ∷ 1 ∷ 769 ∷ []

-- masks of shards 0 and 1
abbrev pub pair_of_masks : ℕ → ℕ → ℕ → ℕ
pair_of_masks a b s = lib.ListN.get_or (a ∷ b ∷ []) s 0

-- a view with these masks
abbrev layout_with : ℕ → ℕ → Layout
layout_with a b = record { number = record { 0 = 7 }; members = 15; masks = a ∷ b ∷ replicate 14 0 }

-- the four nodes of two failure sets, one shard that needs two sets and may have three nodes
abbrev cap_of_three : List ℕ
cap_of_three = 4 ∷ 2 ∷ 1 ∷ 1 ∷ 0 ∷ 0 ∷ 1 ∷ 1 ∷ 196610 ∷ []

pub record PlacementClauses : Type 0 where
  -- without a cap m nodes are valid, one more is not, nor is one fewer
  pub right_many : group_valid one_shard 15 (λ s. 3) 0 ≡ true
  pub one_more : group_valid one_shard 15 (λ s. 7) 0 ≡ false
  pub one_fewer : group_valid one_shard 15 (λ s. 1) 0 ≡ false
  -- every node placed is held
  pub not_all_held : group_valid one_shard 13 (λ s. 3) 0 ≡ false
  -- sets count, not nodes
  pub one_set : group_valid shared_set 7 (λ s. 3) 0 ≡ false
  pub last_pair : sets_in (32 ∷ 2 ∷ 1 ∷ 1 ∷ replicate 32 0 ++ (2 ∷ [])) (2 ^ 30 + 2 ^ 31) ≡ 1
  pub last_set : sets_in (32 ∷ 16 ∷ 1 ∷ 1 ∷ replicate 31 0 ++ (15 ∷ 2 ∷ [])) (2 ^ 30 + 2 ^ 31) ≡ 2
  -- up to the cap nodes of one set are valid beside another's; one more is not, nor are as many of one set
  pub up_to_cap : group_valid cap_of_three 15 (λ s. 7) 0 ≡ true
  pub below_cap : group_valid cap_of_three 15 (λ s. 5) 0 ≡ true
  pub above_cap : group_valid cap_of_three 15 (λ s. 15) 0 ≡ false
  pub sets_within_cap : group_valid cap_of_three 15 (λ s. 3) 0 ≡ false
  -- no node in two shards of a subgroup, but in shards of two
  pub shared_node : group_valid two_shards 15 (pair_of_masks 1 1) 0 ≡ false
  pub shared_between : group_valid two_groups 15 (pair_of_masks 1 1) 0 ≡ true
  -- the shards of another subgroup play no part
  pub other_group : group_valid two_groups 15 (pair_of_masks 1 0) 0 ≡ true
  pub own_group : group_valid two_groups 15 (pair_of_masks 1 0) 3 ≡ false
  -- the last shard counts too
  pub last_shard : group_valid two_shards 15 (pair_of_masks 1 0) 0 ≡ false
  -- an old shard of three, which needs two: what came counts, not what left
  pub left : group_moves one_shard (λ s. 7) (λ s. 3) 0 ≡ 0
  pub came : group_moves one_shard (λ s. 7) (λ s. 9) 0 ≡ 1
  -- moves are counted by node, not by failure set: document 01's second trap, with node 0 down
  pub by_node_valid : group_valid shared_set 6 (λ s. 6) 0 ≡ true
  pub by_node : group_moves shared_set (λ s. 5) (λ s. 6) 0 ≡ 1
  -- the moves of a subgroup are those of its shards
  pub group-moves : group_moves two_groups (pair_of_masks 1 1) (pair_of_masks 2 6) 0 ≡ 1
  pub group_moves_3 : group_moves two_groups (pair_of_masks 1 1) (pair_of_masks 2 6) 3 ≡ 2
  -- a stay is a placed node that was a member of that shard; the stays of a subgroup are those of its shards
  pub stays : group_stays cap_of_three (λ s. 6) (λ s. 7) 0 ≡ 2
  pub group-stays : group_stays two_shards (pair_of_masks 5 10) (pair_of_masks 7 8) 0 ≡ 3
  pub group_stays_0 : group_stays two_groups (pair_of_masks 5 10) (pair_of_masks 7 8) 0 ≡ 2
  pub group_stays_3 : group_stays two_groups (pair_of_masks 5 10) (pair_of_masks 7 8) 3 ≡ 1
  -- a node that went to another shard moved
  pub changed_shard : group_stays two_shards (pair_of_masks 1 2) (pair_of_masks 2 1) 0 ≡ 0
  -- the moves of all subgroups, up to subgroup 3, from the old view to the new
  pub all-moves : all_moves two_groups (layout_with 1 1) (layout_with 2 6) ≡ 3

pub placement_clauses : PlacementClauses
unfolding ones ones_in all_below any_below sum_below count_below cap meets_set sets_in shard_valid shard_apart group_valid_at group_valid group_moves_at group_moves group_stays_at group_stays all_moves
placement_clauses =
    record {
      right_many = refl;
      one_more = refl;
      one_fewer = refl;
      not_all_held = refl;
      one_set = refl;
      last_pair = refl;
      last_set = refl;
      up_to_cap = refl;
      below_cap = refl;
      above_cap = refl;
      sets_within_cap = refl;
      shared_node = refl;
      shared_between = refl;
      other_group = refl;
      own_group = refl;
      last_shard = refl;
      left = refl;
      came = refl;
      by_node_valid = refl;
      by_node = refl;
      group-moves = refl;
      group_moves_3 = refl;
      stays = refl;
      group-stays = refl;
      group_stays_0 = refl;
      group_stays_3 = refl;
      changed_shard = refl;
      all-moves = refl;
    }

-- runs (5, 3) and (6, 8) of shard 0, and (7, 9) of shard 1
abbrev two_shard_log : List ℕ
two_shard_log = 768 ∷ 5 ∷ 3 ∷ 768 ∷ 6 ∷ 8 ∷ 769 ∷ 7 ∷ 9 ∷ []

pub record LogClauses : Type 0 where
  -- a log ends with the last run of its shard
  pub last_run : end_of two_shard_log 0 3 ≡ pos 6 8
  pub own_runs : end_of two_shard_log 1 3 ≡ pos 7 9
  pub no-runs : end_of two_shard_log 2 3 ≡ start
  -- a run (v, c) holds (v, 1) to (v, c)
  pub first_update : holds two_shard_log 3 0 (pos 5 1) ≡ true
  pub last_update : holds two_shard_log 3 0 (pos 5 3) ≡ true
  pub past_run : holds two_shard_log 3 0 (pos 5 4) ≡ false
  pub no_update : holds two_shard_log 3 0 (pos 5 0) ≡ false
  pub other_view : holds two_shard_log 3 0 (pos 4 1) ≡ false
  pub other_shard : holds two_shard_log 3 0 (pos 7 1) ≡ false
  -- any log has (0, 0), and of the others only what it holds
  pub any_start : has_update [] 0 0 start ≡ true
  pub held_update : has_update two_shard_log 3 0 (pos 6 8) ≡ true
  pub lacked_update : has_update two_shard_log 3 0 (pos 6 9) ≡ false
  pub view_without_k : has_update two_shard_log 3 0 (pos 6 0) ≡ false
  pub k_without_view : has_update two_shard_log 3 0 (pos 0 3) ≡ false
  -- the cut is not past the target, which lies inside the holder's run
  pub cut_at_target : cut (log_of 1 (768 ∷ 6 ∷ 7 ∷ [])) (log_of 1 (768 ∷ 6 ∷ 8 ∷ [])) 0 (pos 6 5) ≡ pos 6 5
  -- nor past the node's own end
  pub cut_at_end : cut (log_of 1 (768 ∷ 6 ∷ 3 ∷ [])) (log_of 1 (768 ∷ 6 ∷ 8 ∷ [])) 0 (pos 6 5) ≡ pos 6 3
  -- nor past the holder's end, whatever the target
  pub cut_at_holder : cut (log_of 1 (768 ∷ 6 ∷ 9 ∷ [])) (log_of 1 (768 ∷ 6 ∷ 4 ∷ [])) 0 (pos 6 7) ≡ pos 6 4
  -- the holder's runs of a view after the target's do not count
  pub cut_before_view :
      cut (log_of 2 (768 ∷ 5 ∷ 3 ∷ 768 ∷ 7 ∷ 1 ∷ [])) (log_of 2 (768 ∷ 5 ∷ 3 ∷ 768 ∷ 7 ∷ 2 ∷ [])) 0 (pos 6 4) ≡ pos 5 3
  -- the run of the target's view does not count whole
  pub cut_inside_run :
      cut (log_of 2 (768 ∷ 5 ∷ 3 ∷ 768 ∷ 7 ∷ 1 ∷ [])) (log_of 2 (768 ∷ 5 ∷ 3 ∷ 768 ∷ 7 ∷ 2 ∷ [])) 0 (pos 5 2) ≡ pos 5 2
  -- a run of an earlier view than the target's counts whole
  pub cut_whole_run :
      cut (log_of 2 (768 ∷ 5 ∷ 3 ∷ 768 ∷ 6 ∷ 1 ∷ [])) (log_of 2 (768 ∷ 5 ∷ 3 ∷ 768 ∷ 7 ∷ 2 ∷ [])) 0 (pos 7 2) ≡ pos 5 3
  -- of a view in which the node has more than the holder the holder's are shared, and nothing after them
  pub cut_of_longer : cut (log_of 1 (768 ∷ 5 ∷ 9 ∷ [])) (log_of 2 (768 ∷ 5 ∷ 3 ∷ 768 ∷ 6 ∷ 8 ∷ [])) 0 (pos 6 8) ≡ pos 5 3
  pub cut_then_same :
      cut (log_of 2 (768 ∷ 5 ∷ 9 ∷ 768 ∷ 6 ∷ 8 ∷ [])) (log_of 2 (768 ∷ 5 ∷ 3 ∷ 768 ∷ 6 ∷ 8 ∷ [])) 0 (pos 6 8) ≡ pos 5 3
  -- nor where the node lacks a view that the holder has, or has one that the holder lacks
  pub cut_lacked_view : cut (log_of 1 (768 ∷ 6 ∷ 8 ∷ [])) (log_of 2 (768 ∷ 5 ∷ 3 ∷ 768 ∷ 6 ∷ 8 ∷ [])) 0 (pos 6 8) ≡ start
  pub cut_other_view : cut (log_of 2 (768 ∷ 4 ∷ 1 ∷ 768 ∷ 5 ∷ 3 ∷ [])) (log_of 1 (768 ∷ 5 ∷ 3 ∷ [])) 0 (pos 5 3) ≡ start
  -- the runs of another shard play no part
  pub cut_of_shard :
      cut (log_of 2 (768 ∷ 6 ∷ 9 ∷ 769 ∷ 5 ∷ 1 ∷ [])) (log_of 3 (768 ∷ 6 ∷ 4 ∷ 769 ∷ 5 ∷ 2 ∷ 769 ∷ 6 ∷ 9 ∷ [])) 0 (pos 6 4)
      ≡ pos 6 4
  pub cut_of_shard_1 :
      cut (log_of 2 (768 ∷ 6 ∷ 9 ∷ 769 ∷ 5 ∷ 1 ∷ [])) (log_of 3 (768 ∷ 6 ∷ 4 ∷ 769 ∷ 5 ∷ 2 ∷ 769 ∷ 6 ∷ 9 ∷ [])) 1 (pos 6 4)
      ≡ pos 5 1
  -- up to (0, 0) nothing is kept
  pub cut_at_start : cut (log_of 1 (768 ∷ 6 ∷ 7 ∷ [])) (log_of 1 (768 ∷ 6 ∷ 8 ∷ [])) 0 start ≡ start
  -- case J: what the node keeps, what it fetches, and the holder's log up to the target
  pub j_kept : kept_updates (pos 5 2) (updates_of (768 ∷ 5 ∷ 2 ∷ 768 ∷ 6 ∷ 2 ∷ []) 0 2) ≡ pos 5 1 ∷ pos 5 2 ∷ []
  pub j_fetched :
      fetched_updates (pos 5 2) (pos 6 2) (updates_of (768 ∷ 5 ∷ 3 ∷ 768 ∷ 6 ∷ 2 ∷ []) 0 2) ≡ pos 5 3 ∷ pos 6 1 ∷ pos 6 2 ∷ []
  pub j_log :
      up_to (pos 6 2) (updates_of (768 ∷ 5 ∷ 3 ∷ 768 ∷ 6 ∷ 2 ∷ []) 0 2) ≡ pos 5 1 ∷ pos 5 2 ∷ pos 5 3 ∷ pos 6 1 ∷ pos 6 2 ∷ []

pub log_clauses : LogClauses
unfolding any_below pair_not_after end_of reaches holds has_update runs_from runs_of runs_to shared_after cut_from updates_after updates_in those_of
log_clauses =
    record {
      last_run = refl;
      own_runs = refl;
      no-runs = refl;
      first_update = refl;
      last_update = refl;
      past_run = refl;
      no_update = refl;
      other_view = refl;
      other_shard = refl;
      any_start = refl;
      held_update = refl;
      lacked_update = refl;
      view_without_k = refl;
      k_without_view = refl;
      cut_at_target = refl;
      cut_at_end = refl;
      cut_at_holder = refl;
      cut_before_view = refl;
      cut_inside_run = refl;
      cut_whole_run = refl;
      cut_of_longer = refl;
      cut_then_same = refl;
      cut_lacked_view = refl;
      cut_other_view = refl;
      cut_of_shard = refl;
      cut_of_shard_1 = refl;
      cut_at_start = refl;
      j_kept = refl;
      j_fetched = refl;
      j_log = refl;
    }
