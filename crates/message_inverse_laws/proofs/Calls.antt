-- Reader and writer are inverse, in terms of what the two calls answer.
use Rattle.std.specs.Prelude.{ℕ, true, List, ◌≡◌, length, take}
use Rattle.std.proofs.Common.{ap, ◌∙◌}
use borrow.Author.Tests.{eq-eqb}
use Rattle.base_ids.specs.Definitions.{none}
use Rattle.base_ids.specs.Refusals.{unless_none}
use Rattle.settings_values.specs.Definitions.{settings_ok}
use Rattle.message_format.specs.declared.Form.{Form}
use Rattle.message_format.specs.declared.Contents.{Contents}
use Rattle.message_format.specs.Definitions.{contents_of, message_refusal, read_refusal, message_length, message_of}
use Rattle.message_format.specs.Messages.{reading_of, writing_of, buffer_after, tidy}
use Rattle.message_format.specs.Passed.{contents_few, write_given, write_none}
use Rattle.message_inverse_laws.specs.RoundTrip.{ReadsAs, read_writes, read_tidy}
use Rattle.message_inverse_laws.proofs.RoundTrip.{message_reads, buffer_reads}
use Rattle.message_inverse_laws.specs.Calls.{read_as, message_take, reading_found, read_settings, read_message}

-- a message that reads as c, under right settings
reading_taken : (form : Form) (σ w : List ℕ) (c : Contents) → settings_ok σ ≡ true → ReadsAs form σ w c → reading_of form σ w ≡ read_as c
unfolding reading_of read_refusal
reading_taken form σ w c s p =
    rw (unless_none (settings_ok σ) 2 (message_refusal form σ w) s p.taken) (ap read_as p.found)

module _ (form : Form) (σ : List ℕ) (c : Contents) (buffer : List ℕ) (h : (writing_of form σ c buffer).refusal ≡ none) where
  -- what the writer wrote reads back: the whole buffer, and the words that it says it wrote
  pub written_buffer : reading_of form σ (buffer_after form σ c buffer) ≡ read_as (tidy c)
  unfolding writing_of buffer_after
  written_buffer =
      let p = write_given form σ c buffer h in
      rw h (reading_taken form σ (message_of c 512) (tidy c) p.settings_pass (buffer_reads form σ c p.contents_pass))

  pub written_words : reading_of form σ (take (writing_of form σ c buffer).length (buffer_after form σ c buffer)) ≡ read_as (tidy c)
  unfolding writing_of buffer_after
  written_words =
      let p = write_given form σ c buffer h in
      rw (h, message_take c (contents_few form σ c p.contents_pass))
      (reading_taken form σ (message_of c (message_length c)) (tidy c) p.settings_pass (message_reads form σ c p.contents_pass))

-- what the reader found can be written, and reads back the same
module _ (form : Form) (σ w buffer : List ℕ) (h : (reading_of form σ w).refusal ≡ none) (l : length buffer ≡ 512) where
  pub read_written : (writing_of form σ (reading_of form σ w).contents buffer).refusal ≡ none
  unfolding writing_of
  read_written =
      rw (reading_found form σ w buffer h l)
      (write_none form σ (contents_of w) buffer
      (record {
        buffer_passes = eq-eqb (length buffer) 512 l;
        settings_pass = (read_settings form σ w buffer h l);
        contents_pass = read_writes form σ w (read_message form σ w buffer h l);
      }))

  pub read_back : reading_of form σ (buffer_after form σ (reading_of form σ w).contents buffer) ≡ reading_of form σ w
  read_back =
      written_buffer form σ (reading_of form σ w).contents buffer read_written ∙ rw (reading_found form σ w buffer h l) (ap read_as (read_tidy w))
