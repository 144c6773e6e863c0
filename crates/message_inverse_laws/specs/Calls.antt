-- Reader and writer are inverse, in terms of what the two calls answer.
use Rattle.std.specs.Prelude.{ℕ, ◌+◌, ◌-◌, ◌≤◌, true, List, ◌≡◌, length, take}
use Rattle.std.proofs.Common.{arith, sym, ap, ◌∙◌, take_at}
use Rattle.base_laws.specs.Definitions.{tabulate}
use Rattle.base_laws.specs.Tables.{length_tabulate, tabulate_add}
use Rattle.base_ids.specs.Definitions.{none}
use Rattle.base_ids.specs.Refusals.{unless_ok, unless_rest}
use Rattle.settings_values.specs.Definitions.{settings_ok}
use Rattle.message_format.specs.declared.Form.{Form}
use Rattle.message_format.specs.declared.Contents.{Contents}
use Rattle.message_format.specs.declared.Reading.{Reading}
use Rattle.message_format.specs.Definitions.{contents_of, message_refusal, read_refusal, message_word, message_length, message_of}
use Rattle.message_format.specs.Messages.{reading_of}

-- the reading of a message that is taken
abbrev pub read_as : Contents → Reading
read_as c = record { refusal = none; contents = c }

-- the words of a written message are the buffer's first ones
pub message_take : (c : Contents) → c.len ≤ 127 → take (message_length c) (message_of c 512) ≡ message_of c (message_length c)
unfolding message_of
message_take c few =
    let split : message_length c + (512 - message_length c) ≡ 512 = omega arith in
    ap (λ (n : ℕ). take (message_length c) (tabulate n (message_word c))) (sym split)
    ∙ ap (take (message_length c)) (tabulate_add (message_length c) (512 - message_length c) (message_word c))
    ∙ take_at (tabulate (message_length c) (message_word c)) _ (message_length c) (length_tabulate (message_length c) (message_word c))

-- what the reader found can be written, and reads back the same
module _ (form : Form) (σ w buffer : List ℕ) (h : (reading_of form σ w).refusal ≡ none) (l : length buffer ≡ 512) where
  pub reading_found : reading_of form σ w ≡ read_as (contents_of w)
  unfolding reading_of
  reading_found = rw h

  pub read_settings : settings_ok σ ≡ true
  unfolding reading_of read_refusal
  read_settings = unless_ok (settings_ok σ) 1 (message_refusal form σ w) h

  pub read_message : message_refusal form σ w ≡ none
  unfolding reading_of read_refusal
  read_message = unless_rest (settings_ok σ) 1 (message_refusal form σ w) h
