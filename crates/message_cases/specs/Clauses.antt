-- A row for each clause of the settings' row, of the message rows and of the words that the writer makes: with the clause left out or turned
-- round the row would be false. What a row guards is its name; settings, report and order are those of Examples but for what it changes.
use Rattle.std.specs.Prelude.{ℕ, ◌+◌, ◌*◌, ◌/◌, ◌%◌, true, false, cond, List, [], ◌∷◌, ◌++◌, ◌≡◌, refl, eqb, replicate}
use Rattle.base_laws.specs.Definitions.{all_below, any_below, lowest, tabulate}
use Rattle.settings_values.specs.Definitions.{cap, sizes_ok, nodes_ok, shard_ok, shards_ok, settings_ok}
use Rattle.base_ids.specs.declared.Refusal.{Refusal}
use Rattle.base_ids.specs.Definitions.{none, refused, refused_at, unless, unless_at, first_of}
use Rattle.message_format.specs.declared.Contents.{Contents}
use Rattle.message_format.specs.declared.Form.TheVariants.{Report, Order}
use Rattle.message_format.specs.Definitions.{place, following, row5, row8, precedes, shards_where, row6, view_ok, row7, kind_ok, plain, kind_at, shard_at, surplus, sequence_at, complete, shard_apart, row10_at, row10, is_position, view_fits, legal, row11_at, body_word, body_of, contents_of, records_refusal, broken_at, head_refusal, message_refusal, contents_refusal, read_refusal, head_word, record_word, message_word, message_of}
use Rattle.message_format.specs.Messages.{blank, reading_of, write_refusal, tidy, buffer_after, writing_of}
use Rattle.message_cases.specs.Examples.{example_settings, message, mask_words, example_report}

-- settings of one node, one failure set and one shard, with words changed
abbrev pub small_settings : ℕ → ℕ → ℕ → ℕ → ℕ → List ℕ → List ℕ
small_settings n f l s set rest = n ∷ f ∷ l ∷ s ∷ set ∷ rest

pub record SettingsClauses : Type 0 where
  pub right : settings_ok (small_settings 1 1 1 1 0 (1 ∷ [])) ≡ true
  -- N is 1 to 32, F 1 to 16, the least size 1 to N, S 1 to 16
  pub nodes_zero : settings_ok (0 ∷ 1 ∷ 0 ∷ 1 ∷ 1 ∷ []) ≡ false
  pub nodes_last : settings_ok (32 ∷ 1 ∷ 1 ∷ 1 ∷ replicate 32 0 ++ (1 ∷ [])) ≡ true
  pub nodes_past : settings_ok (33 ∷ 1 ∷ 1 ∷ 1 ∷ replicate 33 0 ++ (1 ∷ [])) ≡ false
  pub sets_zero : settings_ok (small_settings 1 0 1 1 0 (1 ∷ [])) ≡ false
  pub sets_last : settings_ok (small_settings 1 16 1 1 0 (1 ∷ [])) ≡ true
  pub sets_past : settings_ok (small_settings 1 17 1 1 0 (1 ∷ [])) ≡ false
  pub least_zero : settings_ok (small_settings 1 1 0 1 0 (1 ∷ [])) ≡ false
  pub least_past : settings_ok (small_settings 1 1 2 1 0 (1 ∷ [])) ≡ false
  pub shards_zero : settings_ok (small_settings 1 1 1 0 0 []) ≡ false
  pub shards_last : settings_ok (small_settings 1 1 1 16 0 (replicate 16 1)) ≡ true
  pub shards_past : settings_ok (small_settings 1 1 1 17 0 (replicate 17 1)) ≡ false
  -- nothing is missing or follows
  pub empty : settings_ok [] ≡ false
  pub missing : settings_ok (small_settings 1 1 1 1 0 []) ≡ false
  pub surplus_word : settings_ok (small_settings 1 1 1 1 0 (1 ∷ 1 ∷ [])) ≡ false
  -- a node's set is 0 to F - 1; a subgroup is 0 to 3; a shard needs 1 to F
  pub set_past : settings_ok (small_settings 1 1 1 1 1 (1 ∷ [])) ≡ false
  pub group_last : settings_ok (small_settings 1 1 1 1 0 (769 ∷ [])) ≡ true
  pub group_past : settings_ok (small_settings 1 1 1 1 0 (1025 ∷ [])) ≡ false
  pub need_zero : settings_ok (small_settings 1 1 1 1 0 (0 ∷ [])) ≡ false
  pub need_past : settings_ok (small_settings 1 1 1 1 0 (2 ∷ [])) ≡ false
  -- a cap is 0, which stands for the need, or the need to 16, however large the word
  pub cap_none : cap (small_settings 1 2 1 1 0 (2 ∷ [])) 0 ≡ 2
  pub cap_given : cap (small_settings 1 2 1 1 0 ((3 * 65536 + 2) ∷ [])) 0 ≡ 3
  pub cap_of_need : settings_ok (small_settings 1 2 1 1 0 ((2 * 65536 + 2) ∷ [])) ≡ true
  pub cap_below : settings_ok (small_settings 1 2 1 1 0 ((65536 + 2) ∷ [])) ≡ false
  pub cap_last : settings_ok (small_settings 1 1 1 1 0 ((16 * 65536 + 1) ∷ [])) ≡ true
  pub cap_past : settings_ok (small_settings 1 1 1 1 0 ((17 * 65536 + 1) ∷ [])) ≡ false
  pub cap_of_two_bytes : settings_ok (small_settings 1 1 1 1 0 ((256 * 65536 + 1) ∷ [])) ≡ false
  pub cap_with_group : settings_ok (small_settings 1 1 1 1 0 ((16 * 65536 + 769) ∷ [])) ≡ true
  pub cap_with_group_past : settings_ok (small_settings 1 1 1 1 0 ((16 * 65536 + 1025) ∷ [])) ≡ false
  pub last_word : settings_ok (small_settings 1 1 1 1 0 (4294967295 ∷ [])) ≡ false

pub settings_clauses : SettingsClauses
unfolding all_below sizes_ok nodes_ok cap shard_ok shards_ok settings_ok
settings_clauses =
    record {
      right = refl;
      nodes_zero = refl;
      nodes_last = refl;
      nodes_past = refl;
      sets_zero = refl;
      sets_last = refl;
      sets_past = refl;
      least_zero = refl;
      least_past = refl;
      shards_zero = refl;
      shards_last = refl;
      shards_past = refl;
      empty = refl;
      missing = refl;
      surplus_word = refl;
      set_past = refl;
      group_last = refl;
      group_past = refl;
      need_zero = refl;
      need_past = refl;
      cap_none = refl;
      cap_given = refl;
      cap_of_need = refl;
      cap_below = refl;
      cap_last = refl;
      cap_past = refl;
      cap_of_two_bytes = refl;
      cap_with_group = refl;
      cap_with_group_past = refl;
      last_word = refl;
    }

-- what the reader says of a report and of an order
abbrev pub reader_says : List ℕ → Refusal
reader_says w = read_refusal Report example_settings w

abbrev pub reads_order : List ℕ → Refusal
reads_order w = read_refusal Order example_settings w

-- a report with the head's words, and one with what follows the masks
abbrev pub headed_by : ℕ → ℕ → ℕ → List ℕ
headed_by node view members = message node view members (mask_words ++ (0 ∷ []))

abbrev pub followed_by : List ℕ → List ℕ
followed_by rest = message 1 7 127 (mask_words ++ rest)

-- a report with these shard masks
abbrev pub masked_by : ℕ → ℕ → ℕ → ℕ → List ℕ
masked_by members a b c = message 1 7 members (256 ∷ a ∷ 0 ∷ 2 ∷ 257 ∷ b ∷ 0 ∷ 3 ∷ 258 ∷ c ∷ 0 ∷ 0 ∷ [])

-- shards 0 and 1 in subgroup 0, and shard 2 in subgroup 1
abbrev pub two_subgroups : List ℕ
two_subgroups = 7 ∷ 3 ∷ 4 ∷ 3 ∷ 0 ∷ 0 ∷ 1 ∷ 1 ∷ 1 ∷ 2 ∷ 2 ∷ 2 ∷ 3 ∷ 257 ∷ []

pub record ReportClauses : Type 0 where
  -- row 5: 1 to 128 records of four words
  pub no_words : reader_says [] ≡ refused 5
  pub part_record : reader_says (headed_by 1 7 127 ++ (0 ∷ [])) ≡ refused 5
  pub most_words : reader_says (headed_by 1 7 127 ++ replicate 496 0) ≡ none
  pub too_many : reader_says (headed_by 1 7 127 ++ replicate 500 0) ≡ refused 5
  -- row 7: the view's limits, the members within N, and the head's node among them
  pub view_last : reader_says (headed_by 1 4294967294 127) ≡ none
  pub view_past : reader_says (headed_by 1 4294967295 127) ≡ refused 7
  pub members_past : reader_says (headed_by 1 7 255) ≡ refused 7
  pub not_a_member : reader_says (message 1 7 125 (256 ∷ 5 ∷ 0 ∷ 2 ∷ 257 ∷ 80 ∷ 0 ∷ 3 ∷ 258 ∷ 32 ∷ 0 ∷ 0 ∷ [])) ≡ refused 7
  -- row 8: a next index is larger than its own record's and inside the message; row 7 comes before it
  pub next_outside : reader_says (followed_by (4 ∷ [])) ≡ refused_at 8 3
  pub next_back : reader_says (followed_by (1 ∷ [])) ≡ refused_at 8 3
  pub row_7_first : reader_says (message 1 0 127 (mask_words ++ (1 ∷ []))) ≡ refused 7
  pub row_8_first : reader_says (message 1 7 127 (256 ∷ 5 ∷ 1 ∷ 2 ∷ 257 ∷ 82 ∷ 0 ∷ 3 ∷ 258 ∷ 32 ∷ 0 ∷ 3 ∷ [])) ≡ refused_at 8 3
  -- row 9: a kind of reports, word 2 of kind 1 zero; row 16: a shard below S
  pub kind_zero : reader_says (message 1 7 127 (0 ∷ 5 ∷ 0 ∷ 2 ∷ 256 ∷ 5 ∷ 0 ∷ 3 ∷ 257 ∷ 82 ∷ 0 ∷ 4 ∷ 258 ∷ 32 ∷ 0 ∷ 0 ∷ [])) ≡ refused_at 9 1
  pub kind_of_orders : reader_says (followed_by (4 ∷ 1025 ∷ 1 ∷ 0 ∷ 0 ∷ [])) ≡ refused_at 9 4
  pub cut_in_report : reader_says (followed_by (4 ∷ 1281 ∷ 1 ∷ 1 ∷ 0 ∷ [])) ≡ refused_at 9 4
  pub word_2 : reader_says (message 1 7 127 (256 ∷ 5 ∷ 1 ∷ 2 ∷ 257 ∷ 82 ∷ 0 ∷ 3 ∷ 258 ∷ 32 ∷ 0 ∷ 0 ∷ [])) ≡ refused_at 9 1
  pub shard_past : reader_says (followed_by (4 ∷ 771 ∷ 7 ∷ 5 ∷ 0 ∷ [])) ≡ refused_at 16 4
  -- row 17: the chain ascends by kind, shard and view; a kind 1 for each shard
  pub shards_descend : reader_says (message 1 7 127 (257 ∷ 82 ∷ 0 ∷ 2 ∷ 256 ∷ 5 ∷ 0 ∷ 3 ∷ 258 ∷ 32 ∷ 0 ∷ 0 ∷ [])) ≡ refused_at 17 2
  pub views_descend : reader_says (followed_by (4 ∷ 769 ∷ 7 ∷ 5 ∷ 5 ∷ 769 ∷ 6 ∷ 5 ∷ 0 ∷ [])) ≡ refused_at 17 5
  pub views_ascend : reader_says (followed_by (4 ∷ 769 ∷ 6 ∷ 5 ∷ 5 ∷ 769 ∷ 7 ∷ 5 ∷ 0 ∷ [])) ≡ none
  pub mask_twice : reader_says (message 1 7 127 (256 ∷ 1 ∷ 0 ∷ 2 ∷ 256 ∷ 5 ∷ 0 ∷ 3 ∷ 257 ∷ 82 ∷ 0 ∷ 4 ∷ 258 ∷ 32 ∷ 0 ∷ 0 ∷ [])) ≡ refused_at 17 2
  pub position_twice : reader_says (followed_by (4 ∷ 512 ∷ 0 ∷ 0 ∷ 5 ∷ 513 ∷ 6 ∷ 1 ∷ 6 ∷ 513 ∷ 7 ∷ 1 ∷ 7 ∷ 514 ∷ 0 ∷ 0 ∷ 0 ∷ [])) ≡ refused_at 17 6
  pub mask_missing : reader_says (message 1 7 127 (256 ∷ 5 ∷ 0 ∷ 2 ∷ 257 ∷ 82 ∷ 0 ∷ 0 ∷ [])) ≡ refused_at 17 2
  pub head_alone : reader_says (1 ∷ 7 ∷ 127 ∷ 0 ∷ []) ≡ refused_at 17 0
  -- row 10: a shard is not empty, lies inside the members and shares no node within its subgroup; rows 9 and 17 come before it
  pub shard_outside : reader_says (masked_by 63 5 82 32) ≡ refused 10
  pub shard_shared : reader_says (masked_by 127 5 82 36) ≡ refused 10
  pub shard_between : read_refusal Report two_subgroups (masked_by 127 5 82 36) ≡ none
  pub row_9_first : reader_says (message 1 7 127 (256 ∷ 0 ∷ 0 ∷ 2 ∷ 257 ∷ 82 ∷ 1 ∷ 3 ∷ 258 ∷ 32 ∷ 0 ∷ 0 ∷ [])) ≡ refused_at 9 2
  -- row 11: a run's view and count from 1, its view not above the head's; row 10 comes before it
  pub run_view : reader_says (followed_by (4 ∷ 769 ∷ 0 ∷ 5 ∷ 0 ∷ [])) ≡ refused 11
  pub run_above : reader_says (followed_by (4 ∷ 769 ∷ 8 ∷ 5 ∷ 0 ∷ [])) ≡ refused 11
  pub row_10_first : reader_says (message 1 7 127 (256 ∷ 0 ∷ 0 ∷ 2 ∷ 257 ∷ 82 ∷ 0 ∷ 3 ∷ 258 ∷ 32 ∷ 0 ∷ 4 ∷ 769 ∷ 7 ∷ 0 ∷ 0 ∷ [])) ≡ refused 10
  -- a position: (0, 0), or view and k from 1, not above the head's view
  pub positions : reader_says (followed_by (4 ∷ 512 ∷ 0 ∷ 0 ∷ 5 ∷ 513 ∷ 7 ∷ 1 ∷ 6 ∷ 514 ∷ 1 ∷ 9 ∷ 0 ∷ [])) ≡ none
  pub position_k : reader_says (followed_by (4 ∷ 512 ∷ 0 ∷ 0 ∷ 5 ∷ 513 ∷ 7 ∷ 0 ∷ 6 ∷ 514 ∷ 0 ∷ 0 ∷ 0 ∷ [])) ≡ refused 11
  pub position_above : reader_says (followed_by (4 ∷ 512 ∷ 0 ∷ 0 ∷ 5 ∷ 513 ∷ 8 ∷ 1 ∷ 6 ∷ 514 ∷ 0 ∷ 0 ∷ 0 ∷ [])) ≡ refused 11

pub report_clauses : ReportClauses
unfolding all_below any_below lowest tabulate sizes_ok nodes_ok cap shard_ok shards_ok settings_ok unless unless_at first_of place following broken_at row5 row8 precedes shards_where view_ok row6 row7 kind_ok plain kind_at shard_at surplus sequence_at complete shard_apart row10_at row10 is_position view_fits legal row11_at body_word body_of contents_of records_refusal head_refusal message_refusal read_refusal
report_clauses =
    record {
      no_words = refl;
      part_record = refl;
      most_words = refl;
      too_many = refl;
      view_last = refl;
      view_past = refl;
      members_past = refl;
      not_a_member = refl;
      next_outside = refl;
      next_back = refl;
      row_7_first = refl;
      row_8_first = refl;
      kind_zero = refl;
      kind_of_orders = refl;
      cut_in_report = refl;
      word_2 = refl;
      shard_past = refl;
      shards_descend = refl;
      views_descend = refl;
      views_ascend = refl;
      mask_twice = refl;
      position_twice = refl;
      mask_missing = refl;
      head_alone = refl;
      shard_outside = refl;
      shard_shared = refl;
      shard_between = refl;
      row_9_first = refl;
      run_view = refl;
      run_above = refl;
      row_10_first = refl;
      positions = refl;
      position_k = refl;
      position_above = refl;
    }

-- an order of view 8 for node 1, with the records of kinds 1, 2, 4 and 5, each up to its next index
abbrev pub order_under : ℕ → List ℕ → List ℕ
order_under view rest = 1 ∷ view ∷ 63 ∷ 1 ∷ 256 ∷ 5 ∷ 0 ∷ 2 ∷ 257 ∷ 50 ∷ 0 ∷ 3 ∷ 258 ∷ 8 ∷ 0 ∷ 4 ∷ rest

abbrev pub order_ends : ℕ → List ℕ → List ℕ
order_ends view rest = 512 ∷ 0 ∷ 0 ∷ 5 ∷ 513 ∷ view ∷ 5 ∷ 6 ∷ 514 ∷ 0 ∷ 0 ∷ rest

pub record OrderClauses : Type 0 where
  -- row 7: a view is 2 to 4294967295
  pub view_last : reads_order (order_under 4294967295 (order_ends 7 (7 ∷ 1025 ∷ 1 ∷ 0 ∷ 8 ∷ 1281 ∷ 7 ∷ 5 ∷ 0 ∷ []))) ≡ none
  pub view_one : reads_order (order_under 1 (512 ∷ 0 ∷ 0 ∷ 5 ∷ 513 ∷ 0 ∷ 0 ∷ 6 ∷ 514 ∷ 0 ∷ 0 ∷ 7 ∷ 1025 ∷ 1 ∷ 0 ∷ 8 ∷ 1281 ∷ 0 ∷ 0 ∷ 0 ∷ [])) ≡ refused 7
  pub view_two : reads_order (order_under 2 (order_ends 1 (7 ∷ 1025 ∷ 1 ∷ 0 ∷ 8 ∷ 1281 ∷ 1 ∷ 5 ∷ 0 ∷ []))) ≡ none
  -- row 9: no kind 0 and no run, word 2 of kind 4 zero; row 17: kind 2 for every shard
  pub kind_zero :
      reads_order (1 ∷ 8 ∷ 63 ∷ 1 ∷ 0 ∷ 0 ∷ 0 ∷ 2 ∷ 256 ∷ 5 ∷ 0 ∷ 3 ∷ 257 ∷ 50 ∷ 0 ∷ 4 ∷ 258 ∷ 8 ∷ 0 ∷ 5 ∷ 512 ∷ 0 ∷ 0 ∷ 6 ∷ 513 ∷ 7 ∷ 5 ∷ 7 ∷ 514 ∷ 0 ∷ 0 ∷ 8 ∷ 1025 ∷ 1 ∷ 0 ∷ 9 ∷ 1281 ∷ 7 ∷ 5 ∷ 0 ∷ [])
      ≡ refused_at 9 1
  pub run_in_order : reads_order (order_under 8 (order_ends 7 (7 ∷ 769 ∷ 7 ∷ 5 ∷ 8 ∷ 1025 ∷ 1 ∷ 0 ∷ 9 ∷ 1281 ∷ 7 ∷ 5 ∷ 0 ∷ []))) ≡ refused_at 9 7
  pub kind_past : reads_order (order_under 8 (order_ends 7 (7 ∷ 1025 ∷ 1 ∷ 0 ∷ 8 ∷ 1281 ∷ 7 ∷ 5 ∷ 9 ∷ 1537 ∷ 7 ∷ 5 ∷ 0 ∷ []))) ≡ refused_at 9 9
  pub word_2 : reads_order (order_under 8 (order_ends 7 (7 ∷ 1025 ∷ 1 ∷ 1 ∷ 8 ∷ 1281 ∷ 7 ∷ 5 ∷ 0 ∷ []))) ≡ refused_at 9 7
  pub mask_missing :
      reads_order (1 ∷ 8 ∷ 63 ∷ 1 ∷ 257 ∷ 50 ∷ 0 ∷ 2 ∷ 258 ∷ 8 ∷ 0 ∷ 3 ∷ 512 ∷ 0 ∷ 0 ∷ 4 ∷ 513 ∷ 7 ∷ 5 ∷ 5 ∷ 514 ∷ 0 ∷ 0 ∷ 6 ∷ 1025 ∷ 1 ∷ 0 ∷ 7 ∷ 1281 ∷ 7 ∷ 5 ∷ 0 ∷ [])
      ≡ refused_at 17 7
  pub no_ends : reads_order (order_under 8 (1025 ∷ 1 ∷ 0 ∷ 5 ∷ 1281 ∷ 7 ∷ 5 ∷ 0 ∷ [])) ≡ refused_at 17 5
  -- row 17: kinds 4 and 5 for exactly the shards that its recipient carries
  pub holder_missing : reads_order (order_under 8 (order_ends 7 (7 ∷ 1281 ∷ 7 ∷ 5 ∷ 0 ∷ []))) ≡ refused_at 17 7
  pub cut_missing : reads_order (order_under 8 (order_ends 7 (7 ∷ 1025 ∷ 1 ∷ 0 ∷ 0 ∷ []))) ≡ refused_at 17 7
  pub holder_surplus : reads_order (order_under 8 (order_ends 7 (7 ∷ 1025 ∷ 1 ∷ 0 ∷ 8 ∷ 1026 ∷ 5 ∷ 0 ∷ 9 ∷ 1281 ∷ 7 ∷ 5 ∷ 0 ∷ []))) ≡ refused_at 17 8
  pub cut_surplus : reads_order (order_under 8 (order_ends 7 (7 ∷ 1025 ∷ 1 ∷ 0 ∷ 8 ∷ 1281 ∷ 7 ∷ 5 ∷ 9 ∷ 1282 ∷ 0 ∷ 0 ∷ 0 ∷ []))) ≡ refused_at 17 9
  -- row 11: a holder is a member of the new view; targets and cuts are positions below the head's view
  pub holder_past : reads_order (order_under 8 (order_ends 7 (7 ∷ 1025 ∷ 32 ∷ 0 ∷ 8 ∷ 1281 ∷ 7 ∷ 5 ∷ 0 ∷ []))) ≡ refused 11
  pub end_above : reads_order (order_under 8 (order_ends 8 (7 ∷ 1025 ∷ 1 ∷ 0 ∷ 8 ∷ 1281 ∷ 7 ∷ 5 ∷ 0 ∷ []))) ≡ refused 11
  pub cut_position : reads_order (order_under 8 (order_ends 7 (7 ∷ 1025 ∷ 1 ∷ 0 ∷ 8 ∷ 1281 ∷ 0 ∷ 5 ∷ 0 ∷ []))) ≡ refused 11

pub order_clauses : OrderClauses
unfolding all_below any_below lowest tabulate sizes_ok nodes_ok cap shard_ok shards_ok settings_ok unless unless_at first_of place following broken_at row5 row8 precedes shards_where view_ok row6 row7 kind_ok plain kind_at shard_at surplus sequence_at complete shard_apart row10_at row10 is_position view_fits legal row11_at body_word body_of contents_of records_refusal head_refusal message_refusal read_refusal
order_clauses =
    record {
      view_last = refl;
      view_one = refl;
      view_two = refl;
      kind_zero = refl;
      run_in_order = refl;
      kind_past = refl;
      word_2 = refl;
      mask_missing = refl;
      no_ends = refl;
      holder_missing = refl;
      cut_missing = refl;
      holder_surplus = refl;
      cut_surplus = refl;
      holder_past = refl;
      end_above = refl;
      cut_position = refl;
    }

-- the contents of node 1's report in case A: four records
abbrev pub example_contents : ℕ → ℕ → Contents
example_contents node len =
    record {
      node = record { 0 = node };
      view = record { 0 = 7 };
      members = 127;
      len = len;
      body = 256 ∷ 5 ∷ 0 ∷ 257 ∷ 82 ∷ 0 ∷ 258 ∷ 32 ∷ 0 ∷ 769 ∷ 7 ∷ 5 ∷ replicate 369 0;
    }

-- contents of 127 records: the masks, and runs of shard 2 in views 1 to 124
abbrev pub full_contents : Contents
full_contents =
    record {
      node = record { 0 = 1 };
      view = record { 0 = 124 };
      members = 127;
      len = 127;
      body = 256 ∷ 5 ∷ 0 ∷ 257 ∷ 82 ∷ 0 ∷ 258 ∷ 32 ∷ 0 ∷ tabulate 372 (λ k. cond (eqb (k % 3) 0) 770 (cond (eqb (k % 3) 1) (k / 3 + 1) 1));
    }

pub record WriterClauses : Type 0 where
  -- what a message says, records off the chain left out
  pub says : contents_of example_report ≡ example_contents 1 4
  pub says_chain : contents_of (message 1 7 127 (mask_words ++ (5 ∷ 9 ∷ 9 ∷ 9 ∷ 9 ∷ 769 ∷ 7 ∷ 5 ∷ 0 ∷ []))) ≡ example_contents 1 4
  -- what reading gives, and beside a refusal nothing
  pub reading_taken : reading_of Report example_settings example_report ≡ record { refusal = none; contents = example_contents 1 4 }
  pub reading_refused : reading_of Report example_settings [] ≡ record { refusal = refused 5; contents = blank }
  -- words past the records say nothing
  pub tidied : tidy (example_contents 1 3) ≡ record {
    node = record { 0 = 1 };
    view = record { 0 = 7 };
    members = 127;
    len = 3;
    body = 256 ∷ 5 ∷ 0 ∷ 257 ∷ 82 ∷ 0 ∷ 258 ∷ 32 ∷ 0 ∷ replicate 372 0;
  }
  -- the writer's words: the records one after another, then zeros
  pub words : message_of (example_contents 1 4) 24 ≡ example_report ++ (0 ∷ 0 ∷ 0 ∷ 0 ∷ [])
  -- its length, and 0 beside a refusal, which leaves the lent words
  pub length : writing_of Report example_settings (example_contents 1 4) (replicate 512 9) ≡ record { refusal = none; length = 20 }
  pub no_length : writing_of Report example_settings (example_contents 7 4) (replicate 512 9) ≡ record { refusal = refused 6; length = 0 }
  pub written : buffer_after Report example_settings (example_contents 1 4) (replicate 512 9) ≡ example_report ++ replicate 492 0
  pub unchanged : buffer_after Report example_settings (example_contents 7 4) (replicate 512 9) ≡ replicate 512 9
  -- rows 1, 2 and 5 in their order
  pub buffer : write_refusal Report [] (example_contents 7 4) (replicate 511 0) ≡ refused 1
  pub settings : write_refusal Report [] (example_contents 7 4) (replicate 512 0) ≡ refused 2
  pub most_records : contents_refusal Report example_settings full_contents ≡ none
  pub too_long : write_refusal Report example_settings (example_contents 7 128) (replicate 512 0) ≡ refused 5

pub writer_clauses : WriterClauses
unfolding all_below any_below lowest tabulate sizes_ok nodes_ok cap shard_ok shards_ok settings_ok unless unless_at first_of place following broken_at row5 row8 precedes shards_where view_ok row6 row7 kind_ok plain kind_at shard_at surplus sequence_at complete shard_apart row10_at row10 is_position view_fits legal row11_at body_word body_of contents_of records_refusal head_refusal message_refusal read_refusal reading_of contents_refusal write_refusal tidy head_word record_word message_word message_of buffer_after writing_of
writer_clauses =
    record {
      says = refl;
      says_chain = refl;
      reading_taken = refl;
      reading_refused = refl;
      tidied = refl;
      words = refl;
      length = refl;
      no_length = refl;
      written = refl;
      unchanged = refl;
      buffer = refl;
      settings = refl;
      most_records = refl;
      too_long = refl;
    }

-- a report of the masks of shards 0 and 1 and what follows them
abbrev pub mask_short : List ℕ → List ℕ
mask_short rest = message 1 7 127 (256 ∷ 5 ∷ 0 ∷ 2 ∷ 257 ∷ 82 ∷ 0 ∷ rest)

-- which record a refusal tells: the order of the numbers decides between them, the chain within one
pub record LocatedClauses : Type 0 where
  -- row 8 tells the record whose next index is wrong, the head too
  pub head_names : reader_says (1 ∷ 7 ∷ 127 ∷ 200 ∷ []) ≡ refused_at 8 0
  pub first_broken : reader_says (message 1 7 127 (256 ∷ 5 ∷ 0 ∷ 3 ∷ 9 ∷ 9 ∷ 9 ∷ 9 ∷ 258 ∷ 32 ∷ 0 ∷ 2 ∷ [])) ≡ refused_at 8 3
  -- an index is that of the message, not the step along the chain
  pub after_gap : reader_says (followed_by (5 ∷ 9 ∷ 9 ∷ 9 ∷ 9 ∷ 2305 ∷ 7 ∷ 5 ∷ 0 ∷ [])) ≡ refused_at 9 5
  pub shard_after_gap : reader_says (followed_by (5 ∷ 9 ∷ 9 ∷ 9 ∷ 9 ∷ 771 ∷ 7 ∷ 5 ∷ 0 ∷ [])) ≡ refused_at 16 5
  pub missing_after_gap : reader_says (mask_short (4 ∷ 9 ∷ 9 ∷ 9 ∷ 9 ∷ 769 ∷ 7 ∷ 5 ∷ 0 ∷ [])) ≡ refused_at 17 4
  -- 9 before 16 before 17 before 10, wherever on the chain
  pub kind_before_shard : reader_says (message 1 7 127 (259 ∷ 5 ∷ 0 ∷ 2 ∷ 257 ∷ 82 ∷ 0 ∷ 3 ∷ 258 ∷ 32 ∷ 0 ∷ 4 ∷ 2305 ∷ 7 ∷ 5 ∷ 0 ∷ [])) ≡ refused_at 9 4
  pub shard_before_sequence : reader_says (message 1 7 127 (257 ∷ 82 ∷ 0 ∷ 2 ∷ 256 ∷ 5 ∷ 0 ∷ 3 ∷ 258 ∷ 32 ∷ 0 ∷ 4 ∷ 771 ∷ 7 ∷ 5 ∷ 0 ∷ [])) ≡ refused_at 16 4
  pub sequence_before_masks : reader_says (message 1 7 127 (256 ∷ 0 ∷ 0 ∷ 2 ∷ 257 ∷ 82 ∷ 0 ∷ 0 ∷ [])) ≡ refused_at 17 2
  -- kind and word 2 are one number: the first of them
  pub word_then_kind : reader_says (message 1 7 127 (256 ∷ 5 ∷ 0 ∷ 2 ∷ 257 ∷ 82 ∷ 0 ∷ 3 ∷ 258 ∷ 32 ∷ 1 ∷ 4 ∷ 2305 ∷ 7 ∷ 5 ∷ 0 ∷ [])) ≡ refused_at 9 3
  pub kind_then_word : reader_says (message 1 7 127 (256 ∷ 5 ∷ 0 ∷ 2 ∷ 2305 ∷ 7 ∷ 5 ∷ 3 ∷ 258 ∷ 32 ∷ 1 ∷ 0 ∷ [])) ≡ refused_at 9 2
  -- a missing record is told at the last one on the chain, a wrong sequence before it at its own
  pub some_then_run : reader_says (followed_by (4 ∷ 512 ∷ 0 ∷ 0 ∷ 5 ∷ 769 ∷ 7 ∷ 5 ∷ 0 ∷ [])) ≡ refused_at 17 5
  pub mask_then_run : reader_says (mask_short (3 ∷ 769 ∷ 7 ∷ 5 ∷ 0 ∷ [])) ≡ refused_at 17 3
  pub repeat_then_missing : reader_says (mask_short (3 ∷ 769 ∷ 6 ∷ 5 ∷ 4 ∷ 769 ∷ 6 ∷ 7 ∷ 5 ∷ 769 ∷ 7 ∷ 5 ∷ 0 ∷ [])) ≡ refused_at 17 4
  -- a holder is surplus unless a mask before it gives the recipient that shard
  pub holder_first : reads_order (1 ∷ 8 ∷ 63 ∷ 1 ∷ 1025 ∷ 1 ∷ 0 ∷ 2 ∷ 257 ∷ 50 ∷ 0 ∷ 3 ∷ 258 ∷ 8 ∷ 0 ∷ 0 ∷ []) ≡ refused_at 17 1
  -- a message to be written: as it would stand
  pub written_head : contents_refusal Report example_settings (example_contents 1 0) ≡ refused_at 17 0
  pub written_missing : contents_refusal Report example_settings (example_contents 1 2) ≡ refused_at 17 2
  pub written_kind : contents_refusal Order example_settings (example_contents 1 4) ≡ refused_at 9 4

pub located_clauses : LocatedClauses
unfolding all_below any_below lowest tabulate sizes_ok nodes_ok cap shard_ok shards_ok settings_ok unless unless_at first_of place following broken_at row5 row8 precedes shards_where view_ok row6 row7 kind_ok plain kind_at shard_at surplus sequence_at complete shard_apart row10_at row10 is_position view_fits legal row11_at body_word body_of contents_of records_refusal head_refusal message_refusal read_refusal contents_refusal
located_clauses =
    record {
      head_names = refl;
      first_broken = refl;
      after_gap = refl;
      shard_after_gap = refl;
      missing_after_gap = refl;
      kind_before_shard = refl;
      shard_before_sequence = refl;
      sequence_before_masks = refl;
      word_then_kind = refl;
      kind_then_word = refl;
      some_then_run = refl;
      mask_then_run = refl;
      repeat_then_missing = refl;
      holder_first = refl;
      written_head = refl;
      written_missing = refl;
      written_kind = refl;
    }
