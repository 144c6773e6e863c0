-- The calls that write and read messages are inverse: what a call wrote is taken by the reading call and gives the contents that were
-- lent, byte for byte; and what a call read is taken by the writing call, and what that writes reads the same.
use Rattle.std.specs.Prelude.{ℕ, ◌*◌, ◌≤◌, true, List, ◌≡◌, eqb, length, take}
use Rattle.std.proofs.Common.{arith, sym, ◌∙◌}
use Rattle.std.proofs.Math.Path.{ap}
use borrow.Author.Tests.{eq-eqb, eqb-true}
use Rattle.base_laws.specs.Definitions.{padded}
use Rattle.base_laws.specs.Tables.{length_tabulate}
use Rattle.base_bytes.specs.Definitions.{bytes_of}
use Rattle.base_lent.specs.Definitions.{words_in, answer_word, with_length, bytes_left}
use Rattle.base_ids.specs.Definitions.{none}
use Rattle.base_ids.specs.Refusals.{unless_ok, unless_rest, unless_none}
use Rattle.settings_values.specs.Definitions.{settings_ok}
use Rattle.message_format.specs.declared.Form.{Form}
use Rattle.message_format.specs.declared.Contents.{Contents}
use Rattle.message_format.specs.Definitions.{contents_of, message_refusal, read_refusal, contents_refusal, message_of}
use Rattle.message_format.specs.Messages.{tidy}
use Rattle.message_format.specs.Passed.{contents_few}
use Rattle.message_inverse_laws.specs.RoundTrip.{ReadsAs, read_writes, read_tidy}
use Rattle.message_inverse_laws.proofs.RoundTrip.{buffer_reads}
use Rattle.c_messages.specs.Definitions.{contents_word, contents_words, contents_length, read_refused, read_answer, read_leaves, contents_lent, write_refused, write_leaves}
use Rattle.c_message_laws.specs.Lents.{Bytes, Words, words_lent, lent_words, bytes_taken, made_bytes, lent_length, lent_back, message_words, contents-words, words_taken, lent_small, read_small, read_few, read_lent}

-- ---- what was written is read

module _ (form : Form) (settings contents buffer : List ℕ) (bytes : Bytes contents) (h : write_refused form settings contents buffer ≡ none) where
  abbrev lent_says : Contents
  lent_says = contents_lent contents

  abbrev written : List ℕ
  written = write_leaves form settings contents buffer

  settings_passed : settings_ok (words_in settings) ≡ true
  unfolding write_refused
  settings_passed = unless_ok (settings_ok (words_in settings)) 1 _ (unless_rest (eqb (length buffer) 2048) 0 _ h)

  contents_passed : contents_refusal form (words_in settings) lent_says ≡ none
  unfolding write_refused
  contents_passed = unless_rest (settings_ok (words_in settings)) 1 _ (unless_rest (eqb (length buffer) 2048) 0 _ h)

  few : lent_says.len ≤ 127
  few = contents_few form (words_in settings) lent_says contents_passed

  written_words : words_in written ≡ message_of lent_says 512
  unfolding write_leaves bytes_left
  written_words = rw h (words_lent (message_of lent_says 512) (message_words lent_says (lent_small contents bytes)))

  reads : ReadsAs form (words_in settings) (message_of lent_says 512) (tidy lent_says)
  reads = buffer_reads form (words_in settings) lent_says contents_passed

  module _ (room : List ℕ) (l : length room ≡ 2048) where
    -- the reading call takes it
    pub written_taken : read_refused form settings written room ≡ none
    unfolding read_refused read_refusal
    written_taken =
        unless_none (eqb (length room) 2048) 1 _ (eq-eqb (length room) 2048 l)
        (unless_none (settings_ok (words_in settings)) 2 _ settings_passed (rw written_words reads.taken))

    -- and leaves what the contents say
    written_leaves : read_leaves form settings written room ≡ bytes_of (contents_words (tidy lent_says))
    unfolding read_leaves bytes_left
    written_leaves = rw (written_taken, written_words, reads.found)

    -- which are the bytes that were lent, and zeros after them
    pub written_read : read_leaves form settings written room ≡ padded 2048 contents
    written_read = written_leaves ∙ lent_back contents few bytes

    -- and their length
    pub written_answer : read_answer form settings written room ≡ with_length (length (words_in contents))
    unfolding read_answer answer_word tidy
    written_answer =
        rw (written_taken, written_words, reads.found) (ap with_length (sym (lent_length contents few)))

-- ---- what was read is written

module _ (form : Form) (settings message room : List ℕ) (bytes : Bytes message) (h : read_refused form settings message room ≡ none) where
  abbrev found_contents : Contents
  found_contents = contents_of (words_in message)

  -- the contents that the reading call left: so many words of them say something
  abbrev pub lent_again : List ℕ
  lent_again = take (4 * contents_length (contents_of (words_in message))) (read_leaves form settings message room)

  read_settings : settings_ok (words_in settings) ≡ true
  unfolding read_refused read_refusal
  read_settings = unless_ok (settings_ok (words_in settings)) 1 _ (unless_rest (eqb (length room) 2048) 0 _ h)

  read_message : message_refusal form (words_in settings) (words_in message) ≡ none
  unfolding read_refused read_refusal
  read_message = unless_rest (settings_ok (words_in settings)) 1 _ (unless_rest (eqb (length room) 2048) 0 _ h)

  room_long : length room ≡ 2048
  unfolding read_refused
  room_long = eqb-true (length room) 2048 (unless_ok (eqb (length room) 2048) 0 _ h)

  left : read_leaves form settings message room ≡ bytes_of (contents_words found_contents)
  unfolding read_leaves bytes_left
  left = rw h

  again_is : lent_again ≡ bytes_of (take (contents_length found_contents) (contents_words found_contents))
  unfolding contents_words
  again_is =
      ap (take (4 * contents_length found_contents)) left
      ∙ bytes_taken (contents_words found_contents) (contents_length found_contents) (omega (arith, read_few (words_in message), length_tabulate 512 (contents_word found_contents)))

  taken_words : Words (take (contents_length found_contents) (contents_words found_contents))
  taken_words = words_taken (contents_words found_contents) (contents_length found_contents) (contents-words found_contents (read_small (words_in message) (lent_words message bytes)))

  again_says : contents_lent lent_again ≡ found_contents
  again_says =
      read_lent (words_in message) lent_again
      (ap words_in again_is ∙ words_lent (take (contents_length found_contents) (contents_words found_contents)) taken_words)

  again_bytes : Bytes lent_again
  again_bytes k = rw again_is (made_bytes (take (contents_length found_contents) (contents_words found_contents)) k)

  module _ (buffer : List ℕ) (l : length buffer ≡ 2048) where
    -- the writing call takes them
    pub read_written : write_refused form settings lent_again buffer ≡ none
    unfolding write_refused
    read_written =
        unless_none (eqb (length buffer) 2048) 1 _ (eq-eqb (length buffer) 2048 l)
        (unless_none (settings_ok (words_in settings)) 2 _ read_settings
        (rw again_says (read_writes form (words_in settings) (words_in message) read_message)))

    -- and what it writes reads the same
    pub read_again : read_leaves form settings (write_leaves form settings lent_again buffer) room ≡ read_leaves form settings message room
    read_again =
        written_leaves form settings lent_again buffer again_bytes read_written room room_long
        ∙ ap (λ (c : Contents). bytes_of (contents_words (tidy c))) again_says
        ∙ ap (λ (c : Contents). bytes_of (contents_words c)) (read_tidy (words_in message))
        ∙ sym left
