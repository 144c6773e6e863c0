-- A row for each clause of rows 12 and 13, of a sound slot, and of what is kept after a report: with the clause left out or turned
-- round the row would be false.
use Rattle.std.specs.Prelude.{ℕ, ◌^◌, true, false, List, [], ◌∷◌, ◌++◌, ◌≡◌, refl, replicate}
use Rattle.base_laws.specs.Definitions.{all_below, any_below, lowest, tabulate}
use Rattle.base_ids.specs.Definitions.{none, refused, unless, unless_at, first_of}
use Rattle.message_format.specs.declared.Contents.{Contents}
use Rattle.message_format.specs.Definitions.{place, following, row5, row8, precedes, shards_where, row6, view_ok, row7, kind_ok, plain, kind_at, shard_at, surplus, sequence_at, complete, shard_apart, row10_at, row10, is_position, view_fits, legal, row11_at, body_word, body_of, contents_of, records_refusal, head_refusal, message_refusal}
use Rattle.report_views.specs.declared.Layout.{Layout}
use Rattle.report_views.specs.declared.Termination.{Termination}
use Rattle.report_views.specs.Definitions.{no_view, no_termination, pos, start, slot, report_of, terminated, same_view, row12, same_termination, row13, term_kept, slot_ok, slots_ok}
use Rattle.report_rows.specs.Definitions.{no_latest, row18}
use Rattle.report_kept.specs.Definitions.{kept_refusal, refusal_beside, layout_of, termination_of, keeps, renewed}
use Rattle.report_cases.specs.Samples.{case_settings, slot_of, view7}

-- a report with these members and shard masks, and what follows them
abbrev pub report_with : ℕ → ℕ → ℕ → ℕ → ℕ → ℕ → List ℕ → List ℕ
report_with node view members a b c rest =
    node ∷ view ∷ members ∷ 1 ∷ 256 ∷ a ∷ 0 ∷ 2 ∷ 257 ∷ b ∷ 0 ∷ 3 ∷ 258 ∷ c ∷ 0 ∷ rest

-- a termination of shards 1 and 2, shard 0's being (0, 0), and a run of shard 1 after it
abbrev pub endings : ℕ → ℕ → ℕ → ℕ → List ℕ
endings v k v' k' =
    4 ∷ 512 ∷ 0 ∷ 0 ∷ 5 ∷ 513 ∷ v ∷ k ∷ 6 ∷ 514 ∷ v' ∷ k' ∷ 7 ∷ 769 ∷ 6 ∷ 9 ∷ 0 ∷ []

-- node 1's report under a number with the masks of view 7: with no termination, and with one that ends shard 1 at (v, k)
abbrev pub open_report : ℕ → List ℕ
open_report view = report_with 1 view 127 5 82 32 (0 ∷ [])

abbrev pub ended_report : ℕ → ℕ → ℕ → List ℕ
ended_report view v k = report_with 1 view 127 5 82 32 (endings v k 6 2)

-- what a message says, and whether it fits what is kept
abbrev pub said : List ℕ → Contents
said w = contents_of w

-- a termination of shards 1 and 2
abbrev pub ended_at : ℕ → ℕ → ℕ → ℕ → Termination
ended_at v k v' k' = record { made = true; positions = start ∷ pos v k ∷ pos v' k' ∷ replicate 13 start }

-- view 7 with members 0 to 5 in place of shard 1's node 6
abbrev pub without_six : ℕ → Layout
without_six members = record { number = record { 0 = 7 }; members = members; masks = 5 ∷ 18 ∷ 32 ∷ replicate 13 0 }

pub record RowClauses : Type 0 where
  -- row 12: members and every shard's mask are those of the kept view, if the number is
  pub same_masks : row12 case_settings view7 (said (open_report 7)) ≡ true
  pub other-members : row12 case_settings (without_six 127) (said (report_with 1 7 63 5 18 32 (0 ∷ []))) ≡ false
  pub first_mask : row12 case_settings view7 (said (report_with 1 7 127 1 82 32 (0 ∷ []))) ≡ false
  pub last_mask : row12 case_settings view7 (said (report_with 1 7 127 5 82 8 (0 ∷ []))) ≡ false
  pub other_number : row12 case_settings view7 (said (report_with 1 6 63 5 18 32 (0 ∷ []))) ≡ true
  -- row 13: so is every position of a termination, if one is kept and one is reported
  pub same_positions : row13 case_settings view7 (ended_at 7 5 6 2) (said (ended_report 7 7 5)) ≡ true
  pub one_k : row13 case_settings view7 (ended_at 7 5 6 2) (said (ended_report 7 7 4)) ≡ false
  pub one_view : row13 case_settings view7 (ended_at 7 5 6 2) (said (ended_report 7 6 5)) ≡ false
  pub last_position : row13 case_settings view7 (ended_at 7 5 6 3) (said (ended_report 7 7 5)) ≡ false
  pub of_older : row13 case_settings view7 (ended_at 7 5 6 2) (said (ended_report 6 6 4)) ≡ true
  pub none_reported : row13 case_settings view7 (ended_at 7 5 6 2) (said (open_report 7)) ≡ true
  pub none_kept : row13 case_settings view7 no_termination (said (ended_report 7 7 4)) ≡ true
  -- a report has a termination if the record after its masks is of kind 2; a sound slot's of the kept view is kept
  pub kept : term_kept case_settings view7 (ended_at 7 5 6 2) (said (ended_report 7 7 5)) ≡ true
  pub not_kept : term_kept case_settings view7 no_termination (said (ended_report 7 7 5)) ≡ false
  pub older_not_kept : term_kept case_settings view7 no_termination (said (ended_report 6 6 5)) ≡ true
  pub only_runs : terminated case_settings (said (report_with 1 7 127 5 82 32 (4 ∷ 769 ∷ 6 ∷ 9 ∷ 0 ∷ []))) ≡ false
  pub past_the_records : terminated case_settings (record { node = record { 0 = 1 }; view = record { 0 = 7 }; members = 127; len = 3; body = 256 ∷ 5 ∷ 0 ∷ 257 ∷ 82 ∷ 0 ∷ 258 ∷ 32 ∷ 0 ∷ 512 ∷ [] }) ≡ false
  pub nothing_to_keep : term_kept case_settings view7 no_termination (said (open_report 7)) ≡ true
  -- rows 12 and 13 in their order, after those of the message
  pub row_12_first : kept_refusal case_settings view7 (ended_at 7 5 6 2) no_latest (said (report_with 1 7 127 1 82 32 (endings 7 4 6 2))) ≡ refused 12
  pub row_13 : kept_refusal case_settings view7 (ended_at 7 5 6 2) no_latest (said (ended_report 7 7 4)) ≡ refused 13
  pub taken : refusal_beside case_settings view7 (ended_at 7 5 6 2) no_latest (ended_report 7 7 5) ≡ none
  pub message_first : refusal_beside case_settings view7 no_termination no_latest (report_with 1 7 127 1 82 32 (4 ∷ 769 ∷ 7 ∷ 0 ∷ 0 ∷ [])) ≡ refused 11
  pub then-kept : refusal_beside case_settings view7 no_termination no_latest (report_with 1 7 127 1 82 32 (0 ∷ [])) ≡ refused 12

pub row_clauses : RowClauses
unfolding all_below any_below lowest tabulate unless unless_at first_of place following row5 row8 precedes shards_where row6 view_ok row7 kind_ok plain kind_at shard_at surplus sequence_at complete shard_apart row10_at row10 is_position view_fits legal row11_at body_word body_of contents_of records_refusal head_refusal message_refusal same_view row12 same_termination row13 term_kept no_latest row18 kept_refusal refusal_beside
row_clauses =
    record {
      same_masks = refl;
      other-members = refl;
      first_mask = refl;
      last_mask = refl;
      other_number = refl;
      same_positions = refl;
      one_k = refl;
      one_view = refl;
      last_position = refl;
      of_older = refl;
      none_reported = refl;
      none_kept = refl;
      kept = refl;
      not_kept = refl;
      older_not_kept = refl;
      only_runs = refl;
      past_the_records = refl;
      nothing_to_keep = refl;
      row_12_first = refl;
      row_13 = refl;
      taken = refl;
      message_first = refl;
      then-kept = refl;
    }

-- node 1's slot with a message, behind that of node 0, which is empty
abbrev pub slot_one : List ℕ → List ℕ
slot_one w = replicate 512 0 ++ slot_of w

pub record SlotClauses : Type 0 where
  pub right : slot_ok case_settings view7 no_termination (slot_one (open_report 7)) 1 ≡ true
  pub older : slot_ok case_settings view7 no_termination (slot_one (report_with 1 6 63 5 18 32 (endings 6 5 6 2))) 1 ≡ true
  -- a message that is refused, and one of another node
  pub malformed : slot_ok case_settings view7 no_termination (slot_one (report_with 1 7 127 5 82 32 (4 ∷ 769 ∷ 7 ∷ 0 ∷ 0 ∷ []))) 1 ≡ false
  pub other_node : slot_ok case_settings view7 no_termination (slot_one (report_with 4 7 127 5 82 32 (0 ∷ []))) 1 ≡ false
  -- a view above the kept one
  pub above : slot_ok case_settings view7 no_termination (slot_one (open_report 8)) 1 ≡ false
  -- rows 12 and 13, and a termination that is not kept
  pub row_12 : slot_ok case_settings view7 no_termination (slot_one (report_with 1 7 127 1 82 32 (0 ∷ []))) 1 ≡ false
  pub row_13 : slot_ok case_settings view7 (ended_at 7 5 6 2) (slot_one (ended_report 7 7 4)) 1 ≡ false
  pub not_kept : slot_ok case_settings view7 no_termination (slot_one (ended_report 7 7 5)) 1 ≡ false
  -- the slots of held nodes are sound, up to node 31; others play no part
  pub held : slots_ok case_settings view7 no_termination 2 (slot_one (open_report 7)) ≡ true
  pub held_empty : slots_ok case_settings view7 no_termination 3 (slot_one (open_report 7)) ≡ false
  pub held_last : slots_ok case_settings view7 no_termination (2 ^ 31) [] ≡ false

pub slot_clauses : SlotClauses
unfolding all_below any_below lowest tabulate unless unless_at first_of place following row5 row8 precedes shards_where row6 view_ok row7 kind_ok plain kind_at shard_at surplus sequence_at complete shard_apart row10_at row10 is_position view_fits legal row11_at body_word body_of contents_of records_refusal head_refusal message_refusal slot report_of same_view row12 same_termination row13 term_kept slot_ok slots_ok
slot_clauses =
    record {
      right = refl;
      older = refl;
      malformed = refl;
      other_node = refl;
      above = refl;
      row_12 = refl;
      row_13 = refl;
      not_kept = refl;
      held = refl;
      held_empty = refl;
      held_last = refl;
    }

-- view 7 under another number
abbrev pub view7_as : ℕ → Layout
view7_as number = record { number = record { 0 = number }; members = 127; masks = 5 ∷ 82 ∷ 32 ∷ replicate 13 0 }

pub record RenewedClauses : Type 0 where
  -- a first report's view is kept
  pub first : renewed case_settings no_view no_termination (said (open_report 7)) ≡ keeps view7 no_termination
  -- a greater view is kept with its termination: nothing else of the report is in either
  pub greater : renewed case_settings view7 no_termination (said (ended_report 8 7 5)) ≡ keeps (view7_as 8) (ended_at 7 5 6 2)
  -- and with none where it has none, although one was kept: document 01's third trap
  pub greater_without : renewed case_settings view7 (ended_at 7 5 6 2) (said (open_report 8)) ≡ keeps (view7_as 8) no_termination
  -- a greater view with a termination replaces the kept one
  pub greater-again : renewed case_settings view7 (ended_at 7 5 6 2) (said (ended_report 8 8 1)) ≡ keeps (view7_as 8) (ended_at 8 1 6 2)
  -- runs are no termination
  pub greater_runs :
      renewed case_settings view7 no_termination (said (report_with 1 8 127 5 82 32 (4 ∷ 769 ∷ 6 ∷ 9 ∷ 0 ∷ []))) ≡ keeps (view7_as 8) no_termination
  -- an equal view adds its termination if none is kept
  pub equal : renewed case_settings view7 no_termination (said (ended_report 7 7 5)) ≡ keeps view7 (ended_at 7 5 6 2)
  -- and takes none away
  pub equal_without : renewed case_settings view7 (ended_at 7 5 6 2) (said (open_report 7)) ≡ keeps view7 (ended_at 7 5 6 2)
  -- a smaller view changes neither, with a termination or without
  pub smaller : renewed case_settings view7 no_termination (said (ended_report 6 6 5)) ≡ keeps view7 no_termination
  pub smaller_kept : renewed case_settings view7 (ended_at 7 5 6 2) (said (ended_report 6 6 5)) ≡ keeps view7 (ended_at 7 5 6 2)

pub renewed_clauses : RenewedClauses
unfolding all_below any_below lowest tabulate place following body_word body_of contents_of layout_of termination_of renewed
renewed_clauses =
    record {
      first = refl;
      greater = refl;
      greater_without = refl;
      greater-again = refl;
      greater_runs = refl;
      equal = refl;
      equal_without = refl;
      smaller = refl;
      smaller_kept = refl;
    }
