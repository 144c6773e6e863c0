-- A row for each clause of when readiness is refused, and of the state that a row stands for: with the clause left out or turned round the row
-- would be false.
use Rattle.std.specs.Prelude.{true, false, [], ◌∷◌, ◌≡◌, refl}
use Rattle.base_laws.specs.Definitions.{all_below, any_below, lowest, tabulate}
use Rattle.base_ids.specs.Definitions.{none, refused, unless, unless_at, first_of}
use Rattle.message_format.specs.Definitions.{place, following, row5, row8, precedes, shards_where, row6, view_ok, row7, kind_ok, plain, kind_at, shard_at, surplus, sequence_at, complete, shard_apart, row10_at, row10, is_position, view_fits, legal, row11_at, body_word, body_of, contents_of, records_refusal, head_refusal, message_refusal}
use Rattle.report_views.specs.Definitions.{slot, report_of, same_view, row12, same_termination, row13, term_kept, slot_ok, slots_ok, no_termination}
use Rattle.history_cases.specs.Runs.{case_settings, desk, view7}
use Rattle.state_planner.specs.Definitions.{fresh, keeping}
use Rattle.state_readiness.specs.Definitions.{ready, slots_refusal, size_refusal, ready_refusal}
use Rattle.state_laws.specs.Carried.{reported_views}
use Rattle.state_readiness.specs.Answers.{as_held}
use Rattle.state_cases.specs.Start.{reported_at, gathered, desk_of_seven}
use Rattle.state_cases.specs.Events.{ordered_a, gathering_a, refusal_clauses}

pub record ReadyClauses : Type 0 where
  -- rows 1 to 4 as decide's, before all else
  pub short_desk : ready_refusal false case_settings (gathered view7 63) [] ≡ refused 1
  pub ordered_first : ready_refusal false case_settings ordered_a desk ≡ refused 4
  -- then the limits and ten nodes, before the slots
  pub limits : size_refusal false case_settings fresh desk ≡ refused 22
  pub eleven_nodes : size_refusal true (11 ∷ []) fresh desk ≡ refused 22
  pub ten_nodes : size_refusal true (10 ∷ []) fresh desk ≡ refused 23
  -- a view is kept, and the slot of every node would be sound, held or not
  pub no-view : slots_refusal case_settings fresh desk_of_seven ≡ refused 23
  pub six_of_seven : slots_refusal case_settings (gathered view7 63) desk ≡ refused 23
  pub all_seven : slots_refusal case_settings (gathered view7 63) desk_of_seven ≡ none
  pub nobody_held : slots_refusal case_settings (gathered view7 0) desk_of_seven ≡ none
  -- one row after another
  pub six_refused : ready_refusal true case_settings (gathered view7 63) desk ≡ refused 23
  -- the mask is held in place of the state's nodes, and each node is remembered at its report's view, whatever was remembered
  pub row_state : as_held case_settings (gathered view7 63) desk_of_seven 95 ≡ gathering_a 95 (reported_at 7 127)

fresh_view : ready case_settings fresh.kept fresh.termination desk_of_seven ≡ false
unfolding fresh ready
fresh_view = refl

ten_view : ready (10 ∷ []) fresh.kept fresh.termination desk ≡ false
unfolding fresh ready
ten_view = refl

six-slots : ready case_settings view7 no_termination desk ≡ false
unfolding desk all_below any_below lowest tabulate unless unless_at first_of place following row5 row8 precedes shards_where row6 view_ok row7 kind_ok plain kind_at shard_at surplus sequence_at complete shard_apart row10_at row10 is_position view_fits legal row11_at body_word body_of contents_of records_refusal head_refusal message_refusal slot report_of same_view row12 same_termination row13 term_kept slot_ok slots_ok ready
six-slots = refl

seven_slots : ready case_settings view7 no_termination desk_of_seven ≡ true
unfolding desk_of_seven all_below any_below lowest tabulate unless unless_at first_of place following row5 row8 precedes shards_where row6 view_ok row7 kind_ok plain kind_at shard_at surplus sequence_at complete shard_apart row10_at row10 is_position view_fits legal row11_at body_word body_of contents_of records_refusal head_refusal message_refusal slot report_of same_view row12 same_termination row13 term_kept slot_ok slots_ok ready
seven_slots = refl

seven_remembered : reported_views 127 desk_of_seven ≡ reported_at 7 127
unfolding desk_of_seven tabulate place following body_word body_of contents_of slot report_of
seven_remembered = refl

pub ready_clauses : ReadyClauses
unfolding unless first_of keeping slots_refusal size_refusal ready_refusal as_held
ready_clauses =
    record {
      short_desk = rw refusal_clauses.decide_desk;
      ordered_first = rw refusal_clauses.decide_ordered;
      limits = refl;
      eleven_nodes = refl;
      ten_nodes = rw ten_view;
      no-view = rw fresh_view;
      six_of_seven = rw six-slots;
      all_seven = rw seven_slots;
      nobody_held = rw seven_slots;
      six_refused = rw (refusal_clauses.decide_taken, six-slots);
      row_state = rw seven_remembered;
    }
