-- Document 01's small examples of rows 2 and 5 to 11, each around one right report and one right order, computed.
use Rattle.std.specs.Prelude.{ℕ, List, [], ◌∷◌, ◌++◌, ◌≡◌, refl}
use Rattle.base_laws.specs.Definitions.{all_below, any_below, lowest, tabulate}
use Rattle.settings_values.specs.Definitions.{cap, sizes_ok, nodes_ok, shard_ok, shards_ok, settings_ok}
use Rattle.base_ids.specs.Definitions.{none, refused, refused_at, unless, unless_at, first_of}
use Rattle.message_format.specs.declared.Form.TheVariants.{Report, Order}
use Rattle.message_format.specs.Definitions.{place, following, row5, row8, precedes, shards_where, row6, view_ok, row7, kind_ok, plain, kind_at, shard_at, surplus, sequence_at, complete, shard_apart, row10_at, row10, is_position, view_fits, legal, row11_at, body_word, body_of, contents_of, records_refusal, broken_at, head_refusal, message_refusal, read_refusal}

-- the settings of document 01's runs
abbrev pub example_settings : List ℕ
example_settings = 7 ∷ 3 ∷ 4 ∷ 3 ∷ 0 ∷ 0 ∷ 1 ∷ 1 ∷ 1 ∷ 2 ∷ 2 ∷ 2 ∷ 3 ∷ 1 ∷ []

-- a message of the head and records that follow one another
abbrev pub message : ℕ → ℕ → ℕ → List ℕ → List ℕ
message node view members rest = node ∷ view ∷ members ∷ 1 ∷ rest

-- the records of kind 1 of view 7, up to the next index of the last one
abbrev pub mask_words : List ℕ
mask_words = 256 ∷ 5 ∷ 0 ∷ 2 ∷ 257 ∷ 82 ∷ 0 ∷ 3 ∷ 258 ∷ 32 ∷ 0 ∷ []

-- node 1's report in case A
abbrev pub example_report : List ℕ
example_report = message 1 7 127 (mask_words ++ (4 ∷ 769 ∷ 7 ∷ 5 ∷ 0 ∷ []))

-- the order that case A's plan sends to node 1, with its holder and the view of its cut
abbrev pub order : ℕ → ℕ → List ℕ
order holder view =
    1 ∷ 8 ∷ 63 ∷ 1 ∷ 256 ∷ 5 ∷ 0 ∷ 2 ∷ 257 ∷ 50 ∷ 0 ∷ 3 ∷ 258 ∷ 8 ∷ 0 ∷ 4 ∷ 512 ∷ 0 ∷ 0 ∷ 5 ∷ 513 ∷ 7 ∷ 5 ∷ 6 ∷ 514 ∷ 0
    ∷ 0
    ∷ 7
    ∷ 1025
    ∷ holder
    ∷ 0
    ∷ 8
    ∷ 1281
    ∷ view
    ∷ 5
    ∷ 0
    ∷ []

pub record Examples : Type 0 where
  pub right : read_refusal Report example_settings example_report ≡ none
  pub number_2 : read_refusal Report (0 ∷ []) example_report ≡ refused 2
  pub number_5 : read_refusal Report example_settings (0 ∷ 0 ∷ 0 ∷ 0 ∷ 0 ∷ 0 ∷ []) ≡ refused 5
  pub number_6 : read_refusal Report example_settings (message 7 7 127 (mask_words ++ (0 ∷ []))) ≡ refused 6
  pub number_7 : read_refusal Report example_settings (message 1 0 127 (mask_words ++ (0 ∷ []))) ≡ refused 7
  pub number_8 :
      read_refusal Report example_settings (message 1 7 127 (256 ∷ 5 ∷ 0 ∷ 2 ∷ 257 ∷ 82 ∷ 0 ∷ 2 ∷ [])) ≡ refused_at 8 2
  pub number_9 : read_refusal Report example_settings (message 1 7 127 (mask_words ++ (4 ∷ 2305 ∷ 7 ∷ 5 ∷ 0 ∷ []))) ≡ refused_at 9 4
  pub number_10 :
      read_refusal Report example_settings (message 1 7 127 (256 ∷ 0 ∷ 0 ∷ 2 ∷ 257 ∷ 82 ∷ 0 ∷ 3 ∷ 258 ∷ 32 ∷ 0 ∷ 0 ∷ []))
      ≡ refused 10
  pub number_11 : read_refusal Report example_settings (message 1 7 127 (mask_words ++ (4 ∷ 769 ∷ 7 ∷ 0 ∷ 0 ∷ []))) ≡ refused 11
  pub zero_position : read_refusal Report example_settings (message 1 7 127 (mask_words ++ (4 ∷ 512 ∷ 0 ∷ 3 ∷ 5 ∷ 513 ∷ 0 ∷ 0 ∷ 6 ∷ 514 ∷ 0 ∷ 0 ∷ 0 ∷ []))) ≡ refused 11
  pub some_terminated : read_refusal Report example_settings (message 1 7 127 (mask_words ++ (4 ∷ 512 ∷ 0 ∷ 3 ∷ 0 ∷ []))) ≡ refused_at 17 4
  pub off_chain : read_refusal Report example_settings (message 1 7 127 (mask_words ++ (5 ∷ 9 ∷ 9 ∷ 9 ∷ 9 ∷ 769 ∷ 7 ∷ 5 ∷ 0 ∷ []))) ≡ none
  pub equal_runs : read_refusal Report example_settings (message 1 7 127 (mask_words ++ (4 ∷ 769 ∷ 6 ∷ 5 ∷ 5 ∷ 769 ∷ 6 ∷ 7 ∷ 0 ∷ []))) ≡ refused_at 17 5
  pub order_right : read_refusal Order example_settings (order 1 7) ≡ none
  pub order_holder : read_refusal Order example_settings (order 6 7) ≡ refused 11
  pub order_view : read_refusal Order example_settings (order 1 8) ≡ refused 11
  pub order_as_report : read_refusal Report example_settings (order 1 7) ≡ refused_at 9 7

pub examples : Examples
unfolding all_below any_below lowest tabulate sizes_ok nodes_ok cap shard_ok shards_ok settings_ok unless unless_at first_of place following broken_at row5 row8 precedes shards_where view_ok row6 row7 kind_ok plain kind_at shard_at surplus sequence_at complete shard_apart row10_at row10 is_position view_fits legal row11_at body_word body_of contents_of records_refusal head_refusal message_refusal read_refusal
examples =
    record {
      right = refl;
      number_2 = refl;
      number_5 = refl;
      number_6 = refl;
      number_7 = refl;
      number_8 = refl;
      number_9 = refl;
      number_10 = refl;
      number_11 = refl;
      zero_position = refl;
      some_terminated = refl;
      off_chain = refl;
      equal_runs = refl;
      order_right = refl;
      order_holder = refl;
      order_view = refl;
      order_as_report = refl;
    }
