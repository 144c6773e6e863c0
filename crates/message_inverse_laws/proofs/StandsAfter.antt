-- The writer refuses contents by the word by which the reader would refuse the message that would stand in the buffer: the same
-- number, at the same record. The records stand one after another there, and the words past them are not looked at.
use Rattle.std.specs.Prelude.{ℕ, ◌≤◌, List, ◌≡◌, eqb, length}
use Rattle.std.proofs.Common.{ap, ◌∙◌, eq-eqb}
use Rattle.std.proofs.Math.Path.{sym}
use Rattle.base_ids.specs.Definitions.{unless}
use Rattle.base_ids.specs.Refusals.{unless_true}
use Rattle.settings_values.specs.Definitions.{settings_ok}
use Rattle.message_format.specs.declared.Form.{Form}
use Rattle.message_format.specs.declared.Contents.{Contents}
use Rattle.message_format.specs.Definitions.{read_refusal, message_length, message_of}
use Rattle.message_format.specs.Messages.{reading_of, write_refusal, writing_of}
use Rattle.message_inverse_laws.proofs.Stands.{written_refused}

-- the same in terms of the two calls: what the writer answers of contents that fit is what the reader answers of their message
pub writer_as_reader : (form : Form) (σ : List ℕ) (c : Contents) (buffer : List ℕ) → length buffer ≡ 512 → c.len ≤ 127
    → (writing_of form σ c buffer).refusal ≡ (reading_of form σ (message_of c (message_length c))).refusal
unfolding writing_of write_refusal reading_of read_refusal
writer_as_reader form σ c buffer size few =
    unless_true (eqb (length buffer) 512) 1 _ (eq-eqb (length buffer) 512 size)
    ∙ ap (unless (settings_ok σ) 2) (sym (written_refused form σ c few))
