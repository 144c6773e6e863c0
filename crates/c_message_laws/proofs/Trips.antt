-- The calls that turn flat reports into ours and back are inverse: a flat report that was taken comes back byte for byte; and a report that
-- was taken comes back as its contents, the records one after another.
use Prim.Native.Nat.{ℕ, ◌+◌, ◌-◌, ◌%◌, ◌^◌, ◌≤◌}
use Rattle.std.proofs.Common.{arith, ◌∙◌}
use Rattle.std.specs.Prelude.{true, List, ◌≡◌, eqb, ltb, take}
use Rattle.std.proofs.Math.Logic.{⊎_elim}
use Rattle.std.proofs.Math.Path.{ap}
use Rattle.std.proofs.Math.ListN.{length}
use borrow.Author.Tests.{eq-eqb}
use Rattle.base_laws.specs.Bools.{either}
use Rattle.base_laws.specs.Tables.{length_tabulate}
use Rattle.base_bytes.specs.Definitions.{bytes_of}
use Rattle.base_lent.specs.Definitions.{words_in, bytes_left}
use Rattle.base_ids.specs.Definitions.{none}
use Rattle.base_ids.specs.Refusals.{unless_ok, unless_rest, unless_none}
use Rattle.settings_values.specs.Definitions.{shards, settings_ok}
use Rattle.settings_values.specs.Laws.{settings_give}
use Rattle.message_format.specs.declared.Contents.{Contents}
use Rattle.message_format.specs.Chain.{following_le}
use Rattle.message_format.specs.Definitions.{head_word, contents_of, read_refusal, message_of}
use Rattle.message_flat.specs.Definitions.{has_places, places_in, count_place, flat_length, triple_word, flat_word, flat_words}
use Rattle.message_flat.specs.Flat.{from_flat_refusal, flat_of, to_flat_refusal}
use Rattle.message_flat.proofs.Whole.{ours_comes_back, ours_taken}
use Rattle.c_message_laws.specs.Lents.{Bytes, Words, words_lent, lent_words, bytes_taken, WordContents, cond_lt, table_words, words_taken, read_small}
use Rattle.c_messages.specs.Definitions.{from_flat_refused, from_flat_leaves, to_flat_refused, to_flat_leaves}
use Rattle.c_message_laws.specs.Trips.{room_words, room_long, says, flat_left}

made_small : (σ : List ℕ) (c : Contents) → shards σ ≤ 16 → c.len ≤ 127 → WordContents c → Words (flat_words σ c)
unfolding flat_words flat_word head_word triple_word
made_small σ c s l small =
    table_words 512 (flat_word σ c)
    (λ k _.
    cond_lt (ltb k 3) _ _ (2 ^ 32)
    (cond_lt (eqb k 0) _ _ (2 ^ 32) small.node_word (cond_lt (eqb k 1) _ _ (2 ^ 32) small.view-word small.members_word))
    (cond_lt (ltb k 4) _ _ (2 ^ 32) (omega arith)
    (cond_lt (ltb k (4 + shards σ)) _ _ (2 ^ 32) (small.body_words _)
    (cond_lt (ltb k (5 + shards σ)) _ _ (2 ^ 32) (cond_lt (has_places σ c) 1 0 (2 ^ 32) (omega arith) (omega arith))
    (cond_lt (ltb k (count_place σ c)) _ _ (2 ^ 32) (small.body_words _)
    (cond_lt (ltb k (count_place σ c + 1)) _ _ (2 ^ 32) (omega arith)
    (cond_lt (ltb k (flat_length σ c)) _ _ (2 ^ 32)
    (cond_lt (eqb ((k - (count_place σ c + 1)) % 3) 0) _ _ (2 ^ 32) (omega arith) (small.body_words _)) (omega arith))))))))

-- ---- our report, turned and turned back

module _ (settings message buffer : List ℕ) (bytes : Bytes message) (h : to_flat_refused settings message buffer ≡ none) where
  taken_both : to_flat_refusal (words_in settings) (words_in message) room_words ≡ none
  unfolding to_flat_refused to_flat_refusal
  taken_both = unless_none (eqb (length room_words) 512) 1 _ room_long (unless_rest (eqb (length buffer) 2048) 0 _ h)

  low : shards (words_in settings) ≤ 16
  unfolding to_flat_refused read_refusal
  low = (settings_give (words_in settings) (unless_ok (settings_ok (words_in settings)) 1 _ (unless_rest (eqb (length buffer) 2048) 0 _ h))).sizes.shards_to

  few : (says settings message buffer bytes h).len ≤ 127
  unfolding contents_of
  few = following_le (words_in message)

  short : flat_length (words_in settings) (says settings message buffer bytes h) ≤ length (flat_words (words_in settings) (says settings message buffer bytes h))
  unfolding places_in flat_words
  short =
      let all = length_tabulate 512 (flat_word (words_in settings) (says settings message buffer bytes h)) in
      ⊎_elim (λ (e : has_places (words_in settings) (says settings message buffer bytes h) ≡ true). rw e (omega (arith, few, low, all))) (λ e. rw e (omega (arith, few, low, all)))
      (either (has_places (words_in settings) (says settings message buffer bytes h)))

  left_words : words_in (flat_left settings message buffer bytes h) ≡ flat_of (words_in settings) (words_in message)
  unfolding to_flat_leaves bytes_left
  left_words =
      let n = flat_length (words_in settings) (says settings message buffer bytes h) in
      let made = flat_words (words_in settings) (says settings message buffer bytes h) in
      let small = made_small (words_in settings) (says settings message buffer bytes h) low few (read_small (words_in message) (lent_words message bytes)) in
      rw h (ap words_in (bytes_taken made n short) ∙ words_lent (take n made) (words_taken made n small))

  module _ (room : List ℕ) (l : length room ≡ 2048) where
    -- the other call takes it
    pub left_taken : from_flat_refused settings (flat_left settings message buffer bytes h) room ≡ none
    unfolding from_flat_refused from_flat_refusal
    left_taken =
        unless_none (eqb (length room) 2048) 1 _ (eq-eqb (length room) 2048 l)
        (rw left_words (unless_rest (eqb (length room_words) 512) 0 _ (ours_taken (words_in settings) (words_in message) room_words taken_both)))

    -- and leaves the report of the same contents, its records one after another
    pub left_back : from_flat_leaves settings (flat_left settings message buffer bytes h) room ≡ bytes_of (message_of (says settings message buffer bytes h) 512)
    unfolding from_flat_leaves bytes_left
    left_back = rw (left_taken, left_words, ours_comes_back (words_in settings) (words_in message) room_words taken_both)
