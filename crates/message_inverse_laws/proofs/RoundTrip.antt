-- Reader and writer are inverse. Contents that the writer takes are read back from the message that it makes, with zeros for the
-- words past the records; and the contents of a message that the reader takes are taken by the writer, and read back as they are.
use Rattle.std.specs.Prelude.{ℕ, ◌+◌, ◌*◌, ◌≤◌, List, ◌≡◌}
use Rattle.std.proofs.Common.{le_refl, arith}
use Rattle.base_ids.specs.Definitions.{none}
use Rattle.message_format.specs.declared.Form.{Form}
use Rattle.message_format.specs.declared.Contents.{Contents}
use Rattle.message_format.specs.Definitions.{following, contents_of, message_refusal, contents_refusal, message_length, message_of}
use Rattle.message_format.specs.Messages.{tidy}
use Rattle.message_format.specs.Passed.{contents_few}
use Rattle.message_inverse_laws.specs.RoundTrip.{ReadsAs, written_reads, read_writes, read_tidy}

-- the message as it is written, of just its own words
pub message_reads : (form : Form) (σ : List ℕ) (c : Contents) → contents_refusal form σ c ≡ none
    → ReadsAs form σ (message_of c (message_length c)) (tidy c)
message_reads form σ c h =
    written_reads form σ c (c.len + 1) h (le_refl (c.len + 1)) (omega (arith, contents_few form σ c h))

-- the message followed by zeros to 512 words
pub buffer_reads : (form : Form) (σ : List ℕ) (c : Contents) → contents_refusal form σ c ≡ none → ReadsAs form σ (message_of c 512) (tidy c)
buffer_reads form σ c h =
    written_reads form σ c 128 h (omega (arith, contents_few form σ c h)) (le_refl 128)

-- so what the reader takes can be written, and reads back the same
pub read_again : (form : Form) (σ w : List ℕ) (r : ℕ) → message_refusal form σ w ≡ none → following w + 1 ≤ r → r ≤ 128
    → ReadsAs form σ (message_of (contents_of w) (4 * r)) (contents_of w)
unfolding contents_of
read_again form σ w r h enough fits =
    rw read_tidy at (written_reads form σ (contents_of w) r (read_writes form σ w h) enough fits)
