-- The calls that turn flat reports into ours and back are inverse: a flat report that was taken comes back byte for byte; and a report that
-- was taken comes back as its contents, the records one after another.
use Prim.Native.Nat.{ℕ, ◌+◌, ◌*◌, ◌/◌, ◌%◌, ◌^◌, ◌<◌, ◌≤◌}
use Rattle.std.proofs.Common.{arith, sym, ◌∙◌}
use Rattle.std.specs.Prelude.{true, cond, List, ◌≡◌, eqb, leb, ltb, take}
use Rattle.std.proofs.Math.Path.{ap}
use Rattle.std.proofs.Math.ListN.{length, length-take}
use Rattle.std.proofs.lemmas.List.{length-replicate}
use borrow.Author.Tests.{eq-eqb, eqb-true}
use Rattle.base_laws.specs.Bools.{and_right}
use Rattle.base_laws.specs.Tables.{zeros}
use Rattle.base_bytes.specs.Definitions.{bytes_of}
use Rattle.base_lent.specs.Definitions.{words_in, answer_word, with_length, bytes_left}
use Rattle.base_ids.specs.Definitions.{none}
use Rattle.base_ids.specs.Refusals.{unless_ok, unless_rest, unless_none, first_left}
use Rattle.settings_values.specs.Definitions.{settings_ok}
use Rattle.message_format.specs.declared.Contents.{Contents}
use Rattle.message_format.specs.Definitions.{contents_of, message_of}
use Rattle.message_flat.specs.Definitions.{flat_shards, flat_flag, flat_places, flat_count_at, flat_runs, flat_len, explained, flat_refusal, flat_record, flat_body, flat_contents, flat_length, flat_words}
use Rattle.message_flat.specs.Flat.{from_flat_refusal}
use Rattle.message_flat.specs.Whole.{ComesBack}
use Rattle.message_flat.proofs.Whole.{buffer_comes_back}
use Rattle.c_message_laws.specs.Lents.{Bytes, Words, words_lent, lent_words, bytes_taken, bytes_whole, WordContents, cond_lt, table_words, message_words}
use Rattle.c_messages.specs.Definitions.{from_flat_refused, from_flat_leaves, to_flat_refused, to_flat_answer, to_flat_leaves}

-- ---- what is made are words

flat_small : (f : List ℕ) → Words f → WordContents (flat_contents f)
unfolding flat_contents flat_body flat_record
flat_small f w =
    record {
      node_word = w 0;
      view-word = w 1;
      members_word = w 2;
      body_words =
          table_words 381 (λ k. cond (ltb k (3 * flat_len f)) (flat_record f (k / 3) (k % 3)) 0)
          (λ k l. cond_lt (ltb k (3 * flat_len f)) _ _ (2 ^ 32) (record-word (k / 3) (k % 3) (omega arith)) (omega arith));
    }
  where
    record-word : (j p : ℕ) → j < 127 → flat_record f j p < 2 ^ 32
    record-word j p l =
        cond_lt (ltb j (flat_shards f)) _ _ (2 ^ 32)
        (cond_lt (eqb p 0) _ _ (2 ^ 32) (omega arith) (cond_lt (eqb p 1) _ _ (2 ^ 32) (w (4 + j)) (omega arith)))
        (cond_lt (ltb j (flat_shards f + flat_places f)) _ _ (2 ^ 32) (cond_lt (eqb p 0) _ _ (2 ^ 32) (omega arith) (w _))
        (cond_lt (eqb p 0) _ _ (2 ^ 32) (omega arith) (w _)))

-- a buffer of 512 words
abbrev pub room_words : List ℕ
room_words = zeros 512

pub room_long : eqb (length room_words) 512 ≡ true
room_long = eq-eqb (length room_words) 512 (length-replicate {A = ℕ} 512 0)

-- ---- a flat report, turned and turned back

module _ (settings flat buffer : List ℕ) (bytes : Bytes flat) (h : from_flat_refused settings flat buffer ≡ none) where
  abbrev turned : List ℕ
  turned = from_flat_leaves settings flat buffer

  passed : from_flat_refusal (words_in settings) (words_in flat) room_words ≡ none
  unfolding from_flat_refused from_flat_refusal
  passed = unless_none (eqb (length room_words) 512) 1 _ room_long (unless_rest (eqb (length buffer) 2048) 0 _ h)

  comes : ComesBack (words_in settings) (words_in flat) (message_of (flat_contents (words_in flat)) 512)
  comes = buffer_comes_back (words_in settings) (words_in flat) room_words passed

  turned-words : words_in turned ≡ message_of (flat_contents (words_in flat)) 512
  unfolding from_flat_leaves bytes_left
  turned-words =
      rw h
      (words_lent (message_of (flat_contents (words_in flat)) 512)
      (message_words (flat_contents (words_in flat)) (flat_small (words_in flat) (lent_words flat bytes))))

  -- there are words, so the bytes are whole ones
  some : 6 ≤ length (words_in flat)
  unfolding from_flat_refused flat_refusal explained
  some =
      let rest = unless_rest (settings_ok (words_in settings)) 1 _ (unless_rest (eqb (length buffer) 2048) 0 _ h) in
      let counts = unless_ok (explained (words_in flat)) 18 _ (first_left (flat_refusal (words_in flat)) _ rest) in
      let explains : ℕ = flat_count_at (words_in flat) + 1 + 3 * flat_runs (words_in flat) in
      let long = eqb-true (length (words_in flat)) explains (and_right (leb (flat_flag (words_in flat)) 1) (eqb (length (words_in flat)) explains) counts) in
      omega (arith, long)

  whole : (bytes_of (words_in flat) ≡ flat) × (length flat ≡ 4 * length (words_in flat))
  whole = bytes_whole flat bytes (omega (arith, some))

  module _ (room : List ℕ) (l : length room ≡ 2048) where
    -- the other call takes it
    pub turned_taken : to_flat_refused settings turned room ≡ none
    unfolding to_flat_refused
    turned_taken = unless_none (eqb (length room) 2048) 1 _ (eq-eqb (length room) 2048 l) (rw turned-words comes.taken)

    -- answers the length that there was
    pub turned_answer : to_flat_answer settings turned room ≡ with_length (length (words_in flat))
    unfolding to_flat_answer answer_word
    turned_answer = rw (turned_taken, turned-words) (ap with_length comes.long)

    -- and leaves the same bytes
    pub turned_back : take (length flat) (to_flat_leaves settings turned room) ≡ flat
    unfolding to_flat_leaves bytes_left flat_words
    turned_back =
        let c = contents_of (message_of (flat_contents (words_in flat)) 512) in
        let long : length flat ≡ 4 * flat_length (words_in settings) c = whole.1 ∙ ap (λ (n : ℕ). 4 * n) (sym comes.long) in
        let fits : flat_length (words_in settings) c ≤ length (flat_words (words_in settings) c) =
        omega (arith, length-take (flat_length (words_in settings) c) (flat_words (words_in settings) c), comes.long, ap length comes.same) in
        rw (turned_taken, turned-words, long)
        (bytes_taken (flat_words (words_in settings) c) (flat_length (words_in settings) c) fits ∙ ap bytes_of comes.same ∙ whole.0)

-- ---- our report, turned and turned back

module _ (settings message buffer : List ℕ) (bytes : Bytes message) (h : to_flat_refused settings message buffer ≡ none) where
  abbrev pub says : Contents
  says = contents_of (words_in message)

  -- the flat report that the call left, without the zeros after it
  abbrev pub flat_left : List ℕ
  flat_left = take (4 * flat_length (words_in settings) says) (to_flat_leaves settings message buffer)
