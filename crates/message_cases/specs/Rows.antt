-- A row for each clause of what flat reports mean and of the two ways: with the clause left out or turned round the row would be false. What a
-- row guards is its name; the settings are those of Examples.
use Rattle.std.specs.Prelude.{ℕ, ◌*◌, ◌-◌, List, [], ◌∷◌, ◌++◌, ◌≡◌, refl, take, replicate}
use Rattle.base_laws.specs.Definitions.{all_below, any_below, lowest, tabulate}
use Rattle.base_ids.specs.declared.Refusal.{Refusal}
use Rattle.base_ids.specs.Definitions.{none, refused, refused_at, unless, unless_at, first_of}
use Rattle.settings_values.specs.Definitions.{cap, sizes_ok, nodes_ok, shard_ok, shards_ok, settings_ok}
use Rattle.message_format.specs.declared.Contents.{Contents}
use Rattle.message_format.specs.Definitions.{place, following, row5, row8, precedes, shards_where, row6, view_ok, row7, kind_ok, plain, kind_at, shard_at, surplus, sequence_at, complete, shard_apart, row10_at, row10, is_position, view_fits, legal, row11_at, body_word, body_of, contents_of, head_word, records_refusal, broken_at, head_refusal, message_refusal, contents_refusal, read_refusal}
use Rattle.message_cases.specs.Examples.{example_settings, message, mask_words, example_report}
use Rattle.message_flat.specs.Definitions.{flat_places, explained, zero_count, flat_refusal, flat_record, flat_body, flat_contents, places_in, flat_length, triple_word, flat_word, flat_words}
use Rattle.message_flat.specs.Flat.{from_flat_refusal, flat_of, to_flat_refusal}

-- the head and masks of case A with node 1, and what follows them
abbrev pub flat_masks : List ℕ → List ℕ
flat_masks rest = 1 ∷ 7 ∷ 127 ∷ 3 ∷ 5 ∷ 82 ∷ 32 ∷ rest

-- node 1's flat report, and one with a termination and two runs
abbrev pub example_flat : List ℕ
example_flat = flat_masks (0 ∷ 1 ∷ 1 ∷ 7 ∷ 5 ∷ [])

abbrev pub ended_flat : List ℕ
ended_flat = flat_masks (1 ∷ 0 ∷ 0 ∷ 7 ∷ 5 ∷ 0 ∷ 0 ∷ 2 ∷ 1 ∷ 6 ∷ 4 ∷ 1 ∷ 7 ∷ 5 ∷ [])

-- one shard and so many runs, and such a one with a last count; 16 shards with positions and so many runs
abbrev pub runs_of_one : ℕ → List ℕ
runs_of_one runs = 9 ∷ 200 ∷ 1 ∷ 1 ∷ 1 ∷ 0 ∷ runs ∷ replicate (3 * runs) 1

abbrev pub runs_of_one_ending : ℕ → ℕ → List ℕ
runs_of_one_ending runs last = 9 ∷ 200 ∷ 1 ∷ 1 ∷ 1 ∷ 0 ∷ runs ∷ (replicate (3 * runs - 1) 1 ++ (last ∷ []))

abbrev pub sixteen_shards : ℕ → List ℕ
sixteen_shards runs = 0 ∷ 9 ∷ 15 ∷ 16 ∷ (replicate 16 1 ++ (1 ∷ (replicate 32 0 ++ (runs ∷ replicate (3 * runs) 1))))

pub record LengthRows : Type 0 where
  pub right : flat_refusal example_flat ≡ none
  pub right_ended : flat_refusal ended_flat ≡ none
  pub right_empty : flat_refusal (flat_masks (0 ∷ 0 ∷ [])) ≡ none
  -- row 19: the length is that of the counts, three words a triple, two a position
  pub word_more : flat_refusal (flat_masks (0 ∷ 1 ∷ 1 ∷ 7 ∷ 5 ∷ 0 ∷ [])) ≡ refused 19
  pub word-less : flat_refusal (flat_masks (0 ∷ 1 ∷ 1 ∷ 7 ∷ [])) ≡ refused 19
  pub run_more : flat_refusal (flat_masks (0 ∷ 1 ∷ 1 ∷ 6 ∷ 5 ∷ 1 ∷ 7 ∷ 5 ∷ [])) ≡ refused 19
  pub positions_missing : flat_refusal (flat_masks (1 ∷ 0 ∷ [])) ≡ refused 19
  pub positions_surplus : flat_refusal (flat_masks (0 ∷ 0 ∷ 0 ∷ 7 ∷ 5 ∷ 0 ∷ 0 ∷ 0 ∷ [])) ≡ refused 19
  -- the word before the positions is 0 or 1
  pub flag_above : flat_refusal (flat_masks (2 ∷ 0 ∷ [])) ≡ refused 19
  pub flag_above_positions : flat_refusal (flat_masks (2 ∷ 0 ∷ 0 ∷ 7 ∷ 5 ∷ 0 ∷ 0 ∷ 0 ∷ [])) ≡ refused 19
  -- the counts are its own words, however many
  pub own_masks : flat_refusal (1 ∷ 7 ∷ 127 ∷ 4 ∷ 5 ∷ 82 ∷ 32 ∷ 8 ∷ 0 ∷ 0 ∷ []) ≡ none
  pub no_masks : flat_refusal (1 ∷ 7 ∷ 127 ∷ 0 ∷ 0 ∷ 0 ∷ []) ≡ none
  pub no_words : flat_refusal [] ≡ refused 19
  pub five_words : flat_refusal (replicate 5 0) ≡ refused 19
  pub six_words : flat_refusal (replicate 6 0) ≡ none
  pub last_masks : flat_refusal (1 ∷ 7 ∷ 127 ∷ 4294967295 ∷ 0 ∷ 0 ∷ []) ≡ refused 19
  pub last_runs : flat_refusal (flat_masks (0 ∷ 4294967295 ∷ [])) ≡ refused 19
  pub runs_around : flat_refusal (flat_masks (0 ∷ 1431655766 ∷ 0 ∷ 0 ∷ [])) ≡ refused 19
  -- row 20: the count, in any triple, after row 19 and before 21
  pub count_zero : flat_refusal (flat_masks (0 ∷ 1 ∷ 1 ∷ 7 ∷ 0 ∷ [])) ≡ refused 20
  pub count_zero_first : flat_refusal (flat_masks (0 ∷ 2 ∷ 1 ∷ 6 ∷ 0 ∷ 1 ∷ 7 ∷ 5 ∷ [])) ≡ refused 20
  pub count_zero_last : flat_refusal (flat_masks (0 ∷ 2 ∷ 1 ∷ 6 ∷ 5 ∷ 1 ∷ 7 ∷ 0 ∷ [])) ≡ refused 20
  pub count_zero_ended : flat_refusal (flat_masks (1 ∷ 0 ∷ 0 ∷ 0 ∷ 0 ∷ 0 ∷ 0 ∷ 1 ∷ 1 ∷ 7 ∷ 0 ∷ [])) ≡ refused 20
  pub others_zero : flat_refusal (flat_masks (0 ∷ 2 ∷ 0 ∷ 0 ∷ 5 ∷ 0 ∷ 0 ∷ 5 ∷ [])) ≡ none
  pub row_19_first : flat_refusal (flat_masks (0 ∷ 2 ∷ 1 ∷ 7 ∷ 0 ∷ [])) ≡ refused 19
  pub row_20_first : flat_refusal (runs_of_one_ending 127 0) ≡ refused 20
  -- row 21: over 127 records after the head, masks, positions and runs together
  pub records_last : flat_refusal (runs_of_one 126) ≡ none
  pub records_past : flat_refusal (runs_of_one 127) ≡ refused 21
  pub positions_last : flat_refusal (sixteen_shards 95) ≡ none
  pub positions_past : flat_refusal (sixteen_shards 96) ≡ refused 21

pub length_rows : LengthRows
unfolding any_below unless flat_places explained zero_count flat_refusal
length_rows =
    record {
      right = refl;
      right_ended = refl;
      right_empty = refl;
      word_more = refl;
      word-less = refl;
      run_more = refl;
      positions_missing = refl;
      positions_surplus = refl;
      flag_above = refl;
      flag_above_positions = refl;
      own_masks = refl;
      no_masks = refl;
      no_words = refl;
      five_words = refl;
      six_words = refl;
      last_masks = refl;
      last_runs = refl;
      runs_around = refl;
      count_zero = refl;
      count_zero_first = refl;
      count_zero_last = refl;
      count_zero_ended = refl;
      others_zero = refl;
      row_19_first = refl;
      row_20_first = refl;
      records_last = refl;
      records_past = refl;
      positions_last = refl;
      positions_past = refl;
    }

-- contents of node 1 with so many records, and zeros after them
abbrev pub contents_by : ℕ → List ℕ → Contents
contents_by len body = record { node = record { 0 = 1 }; view = record { 0 = 7 }; members = 127; len = len; body = body }

abbrev pub mask_triples : List ℕ → List ℕ
mask_triples rest = 256 ∷ 5 ∷ 0 ∷ 257 ∷ 82 ∷ 0 ∷ 258 ∷ 32 ∷ 0 ∷ rest

abbrev pub ended_triples : List ℕ
ended_triples = mask_triples (512 ∷ 0 ∷ 0 ∷ 513 ∷ 7 ∷ 5 ∷ 514 ∷ 0 ∷ 0 ∷ 769 ∷ 6 ∷ 4 ∷ 769 ∷ 7 ∷ 5 ∷ [])

-- the tag of a run of this shard
abbrev pub run_tag : ℕ → ℕ
run_tag shard = flat_record (flat_masks (0 ∷ 1 ∷ shard ∷ 7 ∷ 5 ∷ [])) 3 0

pub record ContentsRows : Type 0 where
  -- head, masks, positions and runs, each with its kind, one after another, then zeros
  pub plain_run : flat_contents example_flat ≡ contents_by 4 (mask_triples (769 ∷ 7 ∷ 5 ∷ []) ++ replicate 369 0)
  pub with_positions : flat_contents ended_flat ≡ contents_by 8 (ended_triples ++ replicate 357 0)
  pub no-runs : flat_contents (flat_masks (0 ∷ 0 ∷ [])) ≡ contents_by 3 (mask_triples [] ++ replicate 372 0)
  -- a shard too large for a record is 255
  pub shard_within : run_tag 254 ≡ 1022
  pub shard_last : run_tag 255 ≡ 1023
  pub shard_past : run_tag 256 ≡ 1023
  pub shard_far : run_tag 4294967295 ≡ 1023

pub contents_rows : ContentsRows
unfolding tabulate flat_places flat_record flat_body flat_contents
contents_rows =
    record {
      plain_run = refl;
      with_positions = refl;
      no-runs = refl;
      shard_within = refl;
      shard_last = refl;
      shard_past = refl;
      shard_far = refl;
    }

-- why a flat report is refused with a buffer of 512 words, and one with these runs
abbrev pub takes_flat : List ℕ → Refusal
takes_flat f = from_flat_refusal example_settings f (replicate 512 0)

abbrev pub takes_runs : List ℕ → Refusal
takes_runs rest = takes_flat (flat_masks (0 ∷ rest))

pub record TurnRows : Type 0 where
  pub right : takes_flat example_flat ≡ none
  pub right_ended : takes_flat ended_flat ≡ none
  -- rows 1, 2, 19, 20, 21 and then those of the contents
  pub buffer-less : from_flat_refusal example_settings example_flat (replicate 511 0) ≡ refused 1
  pub row_1_first : from_flat_refusal [] [] (replicate 513 0) ≡ refused 1
  pub row_2_first : from_flat_refusal [] [] (replicate 512 0) ≡ refused 2
  pub row_19_before_6 : takes_flat (9 ∷ 7 ∷ 127 ∷ 3 ∷ 5 ∷ 82 ∷ 32 ∷ 2 ∷ 0 ∷ []) ≡ refused 19
  pub row_20_before_6 : takes_flat (9 ∷ 7 ∷ 127 ∷ 3 ∷ 5 ∷ 82 ∷ 32 ∷ 0 ∷ 1 ∷ 1 ∷ 7 ∷ 0 ∷ []) ≡ refused 20
  pub row_21_before_6 : takes_flat (runs_of_one 127) ≡ refused 21
  -- the rows of the contents, with the record as it would stand
  pub node_past : takes_flat (9 ∷ 7 ∷ 127 ∷ 3 ∷ 5 ∷ 82 ∷ 32 ∷ 0 ∷ 0 ∷ []) ≡ refused 6
  pub view_zero : takes_flat (1 ∷ 0 ∷ 127 ∷ 3 ∷ 5 ∷ 82 ∷ 32 ∷ 0 ∷ 0 ∷ []) ≡ refused 7
  pub mask_more : takes_flat (1 ∷ 7 ∷ 127 ∷ 4 ∷ 5 ∷ 82 ∷ 32 ∷ 8 ∷ 0 ∷ 0 ∷ []) ≡ refused_at 16 4
  pub mask-less : takes_flat (1 ∷ 7 ∷ 127 ∷ 2 ∷ 5 ∷ 82 ∷ 0 ∷ 0 ∷ []) ≡ refused_at 17 2
  pub mask-less-run : takes_flat (1 ∷ 7 ∷ 127 ∷ 2 ∷ 5 ∷ 82 ∷ 0 ∷ 1 ∷ 1 ∷ 7 ∷ 5 ∷ []) ≡ refused_at 17 3
  pub mask-less-ended : takes_flat (1 ∷ 7 ∷ 127 ∷ 2 ∷ 5 ∷ 82 ∷ 1 ∷ 0 ∷ 0 ∷ 7 ∷ 5 ∷ 0 ∷ []) ≡ refused_at 17 4
  pub no_mask : takes_flat (1 ∷ 7 ∷ 127 ∷ 0 ∷ 0 ∷ 0 ∷ []) ≡ refused_at 17 0
  pub shard_of_none : takes_runs (1 ∷ 3 ∷ 7 ∷ 5 ∷ []) ≡ refused_at 16 4
  pub shard_too_large : takes_runs (1 ∷ 256 ∷ 7 ∷ 5 ∷ []) ≡ refused_at 16 4
  pub shard_too_large_last : takes_runs (2 ∷ 1 ∷ 7 ∷ 5 ∷ 4294967295 ∷ 7 ∷ 5 ∷ []) ≡ refused_at 16 5
  pub shards_descend : takes_runs (2 ∷ 1 ∷ 7 ∷ 1 ∷ 0 ∷ 7 ∷ 1 ∷ []) ≡ refused_at 17 5
  pub views_descend : takes_runs (2 ∷ 1 ∷ 7 ∷ 1 ∷ 1 ∷ 6 ∷ 1 ∷ []) ≡ refused_at 17 5
  pub run_twice : takes_runs (2 ∷ 1 ∷ 7 ∷ 1 ∷ 1 ∷ 7 ∷ 2 ∷ []) ≡ refused_at 17 5
  pub mask_empty : takes_flat (1 ∷ 7 ∷ 127 ∷ 3 ∷ 0 ∷ 82 ∷ 32 ∷ 0 ∷ 1 ∷ 1 ∷ 8 ∷ 1 ∷ []) ≡ refused 10
  pub run_view : takes_runs (1 ∷ 1 ∷ 0 ∷ 1 ∷ []) ≡ refused 11
  pub run_above : takes_runs (1 ∷ 1 ∷ 8 ∷ 1 ∷ []) ≡ refused 11
  pub position_view : takes_flat (flat_masks (1 ∷ 0 ∷ 3 ∷ 0 ∷ 0 ∷ 0 ∷ 0 ∷ 0 ∷ [])) ≡ refused 11
  pub position_above : takes_flat (flat_masks (1 ∷ 0 ∷ 0 ∷ 0 ∷ 0 ∷ 8 ∷ 1 ∷ 0 ∷ [])) ≡ refused 11

pub turn_rows : TurnRows
unfolding all_below any_below lowest tabulate sizes_ok nodes_ok cap shard_ok shards_ok settings_ok unless unless_at first_of precedes shards_where view_ok row6 row7 kind_ok plain kind_at shard_at surplus sequence_at complete shard_apart row10_at row10 is_position view_fits legal row11_at records_refusal head_refusal contents_refusal flat_places explained zero_count flat_refusal flat_record flat_body flat_contents from_flat_refusal
turn_rows =
    record {
      right = refl;
      right_ended = refl;
      buffer-less = refl;
      row_1_first = refl;
      row_2_first = refl;
      row_19_before_6 = refl;
      row_20_before_6 = refl;
      row_21_before_6 = refl;
      node_past = refl;
      view_zero = refl;
      mask_more = refl;
      mask-less = refl;
      mask-less-run = refl;
      mask-less-ended = refl;
      no_mask = refl;
      shard_of_none = refl;
      shard_too_large = refl;
      shard_too_large_last = refl;
      shards_descend = refl;
      views_descend = refl;
      run_twice = refl;
      mask_empty = refl;
      run_view = refl;
      run_above = refl;
      position_view = refl;
      position_above = refl;
    }

-- the flat report of contents, and of a report
abbrev pub flat_back : Contents → List ℕ
flat_back c = take (flat_length example_settings c) (flat_words example_settings c)

-- node 1's report with its chain through records 0, 2, 3, 5 and 9 of 12
abbrev pub gap_report : List ℕ
gap_report =
    1 ∷ 7 ∷ 127 ∷ 2 ∷ (replicate 4 9 ++ (256 ∷ 5 ∷ 0 ∷ 3 ∷ 257 ∷ 82 ∷ 0 ∷ 5 ∷ (replicate 4 9
    ++ (258 ∷ 32 ∷ 0 ∷ 9 ∷ (replicate 12 9 ++ (769 ∷ 7 ∷ 5 ∷ 0 ∷ replicate 8 9))))))

pub record BackRows : Type 0 where
  -- head, S, masks, 0 or 1, positions, count and triples without their kind, then zeros to 512
  pub words : flat_words example_settings (contents_of example_report) ≡ example_flat ++ replicate 500 0
  pub nothing_past : flat_words example_settings (contents_by 3 ended_triples) ≡ flat_masks (0 ∷ 0 ∷ []) ++ replicate 503 0
  pub of_report : flat_of example_settings example_report ≡ example_flat
  pub with_positions : flat_back (contents_by 8 (ended_triples ++ replicate 357 0)) ≡ ended_flat
  pub no-runs : flat_back (contents_by 3 (mask_triples [] ++ replicate 372 0)) ≡ flat_masks (0 ∷ 0 ∷ [])
  pub positions_alone : flat_back (contents_by 6 (ended_triples ++ replicate 357 0)) ≡ flat_masks (1 ∷ 0 ∷ 0 ∷ 7 ∷ 5 ∷ 0 ∷ 0 ∷ 0 ∷ [])
  pub of_gaps : flat_of example_settings gap_report ≡ example_flat
  -- a termination is there where the record after the masks is of kind 2; one past the last is none
  pub run_after_masks : places_in example_settings (contents_by 4 (mask_triples (769 ∷ 7 ∷ 5 ∷ []))) ≡ 0
  pub past_the_last : places_in example_settings (contents_by 3 ended_triples) ≡ 0
  -- rows 1 and 2, and then those of the reader
  pub right : to_flat_refusal example_settings example_report (replicate 512 0) ≡ none
  pub right_gaps : to_flat_refusal example_settings gap_report (replicate 512 0) ≡ none
  pub buffer_more : to_flat_refusal example_settings example_report (replicate 513 0) ≡ refused 1
  pub row_1_first : to_flat_refusal [] [] (replicate 511 0) ≡ refused 1
  pub row_2_first : to_flat_refusal [] [] (replicate 512 0) ≡ refused 2
  pub no_message : to_flat_refusal example_settings [] (replicate 512 0) ≡ refused 5
  pub order_kind : to_flat_refusal example_settings (message 1 7 127 (mask_words ++ (4 ∷ 1025 ∷ 1 ∷ 0 ∷ 0 ∷ []))) (replicate 512 0) ≡ refused_at 9 4

pub back_rows : BackRows
unfolding all_below any_below lowest tabulate sizes_ok nodes_ok cap shard_ok shards_ok settings_ok unless unless_at first_of place following broken_at row5 row8 precedes shards_where view_ok row6 row7 kind_ok plain kind_at shard_at surplus sequence_at complete shard_apart row10_at row10 is_position view_fits legal row11_at body_word body_of contents_of head_word records_refusal head_refusal message_refusal read_refusal places_in triple_word flat_word flat_words to_flat_refusal
back_rows =
    record {
      words = refl;
      nothing_past = refl;
      of_report = refl;
      with_positions = refl;
      no-runs = refl;
      positions_alone = refl;
      of_gaps = refl;
      run_after_masks = refl;
      past_the_last = refl;
      right = refl;
      right_gaps = refl;
      buffer_more = refl;
      row_1_first = refl;
      row_2_first = refl;
      no_message = refl;
      order_kind = refl;
    }
