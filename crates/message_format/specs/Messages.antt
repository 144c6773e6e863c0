-- What reader and writer hand back, refusals included.
use Rattle.std.specs.Prelude.{ℕ, ◌*◌, cond, List, eqb, ltb, length, get_or, replicate, Result}
use Rattle.base_laws.specs.Definitions.{tabulate}
use Rattle.base_ids.specs.Definitions.{accepted, unless, or_refusal}
use Rattle.base_ids.specs.declared.Refusal.{Refusal}
use Rattle.settings_values.specs.Definitions.{settings_ok}
use Rattle.message_format.specs.declared.Form.{Form}
use Rattle.message_format.specs.declared.Contents.{Contents}
use Rattle.message_format.specs.declared.Reading.{Reading}
use Rattle.message_format.specs.declared.Writing.{Writing}
use Rattle.message_format.specs.Definitions.{read_refusal, contents_of, contents_refusal, message_length, message_of}

-- contents that say nothing
unfoldable pub blank : Contents
blank =
    record {
      node = record { 0 = 0 };
      view = record { 0 = 0 };
      members = 0;
      len = 0;
      body = replicate 381 0;
    }

-- what the reader gives: the contents, or blank ones beside a refusal
unfoldable pub reading_of : Form → List ℕ → List ℕ → Reading
reading_of form σ w =
    record {
      refusal = read_refusal form σ w;
      contents = cond (accepted (read_refusal form σ w)) (contents_of w) blank;
    }

-- the same as calls give it: the contents, or the refusal
abbrev pub as_read : Reading → Result Contents Refusal
as_read r = or_refusal r.refusal r.contents

-- the writer: rows 1, 2 and those of the contents
unfoldable pub write_refusal : Form → List ℕ → Contents → List ℕ → Refusal
write_refusal form σ c buffer =
    unless (eqb (length buffer) 512) 1 (unless (settings_ok σ) 2 (contents_refusal form σ c))

-- what the writer answers: the length, or 0 beside a refusal
unfoldable pub writing_of : Form → List ℕ → Contents → List ℕ → Writing
writing_of form σ c buffer =
    record {
      refusal = write_refusal form σ c buffer;
      length = cond (accepted (write_refusal form σ c buffer)) (message_length c) 0;
    }

-- the same as calls give it: the length, or the refusal
abbrev pub as_written : Writing → Result ℕ Refusal
as_written a = or_refusal a.refusal a.length

-- the lent words afterwards: the message, or what they were
unfoldable pub buffer_after : Form → List ℕ → Contents → List ℕ → List ℕ
buffer_after form σ c buffer = cond (accepted (write_refusal form σ c buffer)) (message_of c 512) buffer

-- contents whose words past the records are zero, as a reader gives them
unfoldable pub tidy : Contents → Contents
tidy c =
    record {
      node = c.node;
      view = c.view;
      members = c.members;
      len = c.len;
      body = tabulate 381 (λ k. cond (ltb k (3 * c.len)) (get_or c.body k 0) 0);
    }
