-- A row for each clause of row 18, of its place among the rows, of what is remembered after a report, and of a sound memory: with the
-- clause left out or turned round the row would be false.
use Rattle.std.specs.Prelude.{ℕ, true, false, cond, [], ◌∷◌, ◌≡◌, refl, eqb}
use Rattle.base_laws.specs.Definitions.{all_below, any_below, lowest, tabulate}
use Rattle.base_ids.specs.Definitions.{none, refused, unless, unless_at, first_of}
use Rattle.message_format.specs.Definitions.{place, following, row5, row8, precedes, shards_where, row6, view_ok, row7, kind_ok, plain, kind_at, shard_at, surplus, sequence_at, complete, shard_apart, row10_at, row10, is_position, view_fits, legal, row11_at, body_word, body_of, contents_of, records_refusal, head_refusal, message_refusal}
use Rattle.report_views.specs.Definitions.{no_termination, slot, report_of, same_view, row12, same_termination, row13}
use Rattle.report_rows.specs.declared.latest.Latest.{Latest}
use Rattle.report_rows.specs.Definitions.{no_latest, row18, noted, recalled, latest_sound}
use Rattle.report_kept.specs.Definitions.{kept_refusal, refusal_beside}
use Rattle.report_cases.specs.Samples.{case_settings, view7}
use Rattle.report_cases.specs.Kept.{report_with, endings, open_report, ended_at, said, slot_one}

-- the views that two nodes have reported, and no others
abbrev pub two_latest : ℕ → ℕ → ℕ → ℕ → Latest
two_latest n v n' v' = record { views = tabulate 32 (λ i. record { 0 = cond (eqb i n) v (cond (eqb i n') v' 0) }) }

-- node 1 has reported a view, and node 31 view 9
abbrev pub one_at : ℕ → Latest
one_at v = two_latest 1 v 31 9

pub record LatestClauses : Type 0 where
  -- row 18: no smaller view than the node's own greatest; an equal one is taken, and another node's plays no part
  pub first : row18 no_latest (said (open_report 1)) ≡ true
  pub smaller : row18 (one_at 7) (said (open_report 6)) ≡ false
  pub equal : row18 (one_at 7) (said (open_report 7)) ≡ true
  pub greater : row18 (one_at 7) (said (open_report 8)) ≡ true
  pub of_another : row18 (one_at 6) (said (open_report 7)) ≡ true
  -- after row 11 and before rows 12 and 13
  pub row_11_first : refusal_beside case_settings view7 no_termination (one_at 7) (report_with 1 6 127 5 82 32 (4 ∷ 769 ∷ 6 ∷ 0 ∷ 0 ∷ [])) ≡ refused 11
  pub row_18 : refusal_beside case_settings view7 no_termination (one_at 7) (open_report 6) ≡ refused 18
  pub before_12 : kept_refusal case_settings view7 no_termination (one_at 9) (said (report_with 1 7 127 1 82 32 (0 ∷ []))) ≡ refused 18
  pub before_13 : kept_refusal case_settings view7 (ended_at 7 5 6 2) (one_at 9) (said (report_with 1 7 127 5 82 32 (endings 7 4 6 2))) ≡ refused 18
  pub then-12 : kept_refusal case_settings view7 no_termination (one_at 7) (said (report_with 1 7 127 1 82 32 (0 ∷ []))) ≡ refused 12
  pub no_row : refusal_beside case_settings view7 no_termination (one_at 7) (open_report 7) ≡ none
  -- after a report the greatest of its node's views is remembered, and of the others what was
  pub noted_first : noted no_latest 1 7 ≡ two_latest 1 7 31 0
  pub noted_greater : noted (one_at 7) 1 8 ≡ one_at 8
  pub noted-smaller : noted (one_at 7) 1 6 ≡ one_at 7
  pub noted_last : noted (one_at 7) 31 12 ≡ two_latest 1 7 31 12

pub latest_clauses : LatestClauses
unfolding all_below any_below lowest tabulate unless unless_at first_of place following row5 row8 precedes shards_where row6 view_ok row7 kind_ok plain kind_at shard_at surplus sequence_at complete shard_apart row10_at row10 is_position view_fits legal row11_at body_word body_of contents_of records_refusal head_refusal message_refusal same_view row12 same_termination row13 no_latest row18 noted kept_refusal refusal_beside
latest_clauses =
    record {
      first = refl;
      smaller = refl;
      equal = refl;
      greater = refl;
      of_another = refl;
      row_11_first = refl;
      row_18 = refl;
      before_12 = refl;
      before_13 = refl;
      then-12 = refl;
      no_row = refl;
      noted_first = refl;
      noted_greater = refl;
      noted-smaller = refl;
      noted_last = refl;
    }

-- node 1 has reported view 6, and view 7 is kept; there are 7 nodes
pub record MemoryClauses : Type 0 where
  -- of a held node a view from its report's up to the kept one: number 18 is not asked of its slot
  pub at_report : latest_sound case_settings 7 2 (slot_one (open_report 6)) (two_latest 1 6 31 0) ≡ true
  pub at_kept : latest_sound case_settings 7 2 (slot_one (open_report 6)) (two_latest 1 7 31 0) ≡ true
  pub below_report : latest_sound case_settings 7 2 (slot_one (open_report 6)) (two_latest 1 5 31 0) ≡ false
  pub above_kept : latest_sound case_settings 7 2 (slot_one (open_report 6)) (two_latest 1 8 31 0) ≡ false
  pub forgotten : latest_sound case_settings 7 2 (slot_one (open_report 6)) no_latest ≡ false
  -- of another node below N any view, whatever is kept
  pub not_held : latest_sound case_settings 7 2 (slot_one (open_report 6)) (two_latest 1 6 6 4294967295) ≡ true
  pub nothing-kept : latest_sound case_settings 0 0 [] (two_latest 1 9 6 1) ≡ true
  -- of a node from N up nothing
  pub past_nodes : latest_sound case_settings 7 2 (slot_one (open_report 6)) (two_latest 1 6 7 1) ≡ false
  pub past_last : latest_sound case_settings 7 2 (slot_one (open_report 6)) (two_latest 1 6 31 1) ≡ false

pub memory_clauses : MemoryClauses
unfolding all_below tabulate place following body_word body_of contents_of slot report_of no_latest recalled latest_sound
memory_clauses =
    record {
      at_report = refl;
      at_kept = refl;
      below_report = refl;
      above_kept = refl;
      forgotten = refl;
      not_held = refl;
      nothing-kept = refl;
      past_nodes = refl;
      past_last = refl;
    }
