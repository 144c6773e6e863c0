-- What contracts cite, each definition after those that it builds on. Laws stand in the files beside this one.
use Rattle.std.specs.Prelude.{ℕ, ◌+◌, ◌*◌, ◌-◌, ◌/◌, ◌%◌, cond, ◌&&◌, List, eqb, leb, ltb, length, get_or}
use Rattle.base_laws.specs.Definitions.{tabulate}
use Rattle.base_ids.specs.declared.Refusal.{Refusal}
use Rattle.base_ids.specs.Definitions.{none, unless, first_of}
use Rattle.base_bytes.specs.Definitions.{bytes_of}
use Rattle.base_lent.specs.Definitions.{words_in, answer_word, with_length, bytes_left}
use Rattle.settings_values.specs.Definitions.{settings_ok}
use Rattle.message_format.specs.declared.Form.{Form}
use Rattle.message_format.specs.declared.Contents.{Contents}
use Rattle.message_format.specs.Definitions.{head_word, contents_of, read_refusal, contents_refusal, message_length, message_of}
use Rattle.message_format.specs.declared.Form.TheVariants.{Report}
use Rattle.message_flat.specs.Definitions.{flat_refusal, flat_contents, flat_length, flat_words}

-- ---- What the C entry points for settings and messages answer, and the lent bytes afterwards.

unfoldable pub check_answer : List ℕ → ℕ
check_answer settings = answer_word (unless (settings_ok (words_in settings)) 2 none) 0

-- word k of contents as words: node, view, members, then the records' words, then zeros
unfoldable pub contents_word : Contents → ℕ → ℕ
contents_word c k = cond (ltb k 3) (head_word c k) (cond (ltb k 384) (get_or c.body (k - 3) 0) 0)

-- contents as 512 words
unfoldable pub contents_words : Contents → List ℕ
contents_words c = tabulate 512 (contents_word c)

-- how many of them say something: three, and three for each record after the head
abbrev pub contents_length : Contents → ℕ
contents_length c = 3 + 3 * c.len

-- rows 1 (the lent contents are not 512 words), 2 and 5 to 11
unfoldable pub read_refused : Form → List ℕ → List ℕ → List ℕ → Refusal
read_refused form settings message contents =
    unless (eqb (length contents) 2048) 1 (read_refusal form (words_in settings) (words_in message))

-- the length is that of the contents
unfoldable pub read_answer : Form → List ℕ → List ℕ → List ℕ → ℕ
read_answer form settings message contents =
    answer_word (read_refused form settings message contents) (with_length (contents_length (contents_of (words_in message))))

-- the lent contents afterwards: what the message says
unfoldable pub read_leaves : Form → List ℕ → List ℕ → List ℕ → List ℕ
read_leaves form settings message contents =
    bytes_left (read_refused form settings message contents) (bytes_of (contents_words (contents_of (words_in message)))) contents

-- how many records n words of contents are, the head's three words aside; a wrong length is read as too many
unfoldable pub record_count : ℕ → ℕ
record_count n = cond (leb 3 n && eqb (n % 3) 0) (n / 3 - 1) 128

-- contents whose words stand in a table, of which n were lent
unfoldable pub contents_in : List ℕ → ℕ → Contents
contents_in table n =
    record {
      node = record { 0 = get_or table 0 0 };
      view = record { 0 = get_or table 1 0 };
      members = get_or table 2 0;
      len = record_count n;
      body = tabulate 381 (λ k. get_or table (k + 3) 0);
    }

-- contents lent as bytes
unfoldable pub contents_lent : List ℕ → Contents
contents_lent contents = contents_in (words_in contents) (length (words_in contents))

-- rows 1 (the lent buffer is not 512 words), 2, 5 (also where the contents' length is wrong), 6, 7 and 9 to 11
unfoldable pub write_refused : Form → List ℕ → List ℕ → List ℕ → Refusal
write_refused form settings contents buffer =
    unless (eqb (length buffer) 2048) 1
    (unless (settings_ok (words_in settings)) 2 (contents_refusal form (words_in settings) (contents_lent contents)))

-- the length is that of the message
unfoldable pub write_answer : Form → List ℕ → List ℕ → List ℕ → ℕ
write_answer form settings contents buffer =
    answer_word (write_refused form settings contents buffer) (with_length (message_length (contents_lent contents)))

-- the lent buffer afterwards: the message and zeros after it
unfoldable pub write_leaves : Form → List ℕ → List ℕ → List ℕ → List ℕ
write_leaves form settings contents buffer =
    bytes_left (write_refused form settings contents buffer) (bytes_of (message_of (contents_lent contents) 512)) buffer

-- ---- What the two calls answer, and the lent bytes afterwards.

-- a flat report turned into ours: rows 1 (the lent buffer is not 512 words), 2, 19, 20, 21 and those of the contents
unfoldable pub from_flat_refused : List ℕ → List ℕ → List ℕ → Refusal
from_flat_refused settings flat buffer =
    unless (eqb (length buffer) 2048) 1
    (unless (settings_ok (words_in settings)) 2
    (first_of (flat_refusal (words_in flat)) (contents_refusal Report (words_in settings) (flat_contents (words_in flat)))))

-- the length is that of our report
unfoldable pub from_flat_answer : List ℕ → List ℕ → List ℕ → ℕ
from_flat_answer settings flat buffer =
    answer_word (from_flat_refused settings flat buffer) (with_length (message_length (flat_contents (words_in flat))))

-- the lent buffer afterwards: our report and zeros after it
unfoldable pub from_flat_leaves : List ℕ → List ℕ → List ℕ → List ℕ
from_flat_leaves settings flat buffer =
    bytes_left (from_flat_refused settings flat buffer) (bytes_of (message_of (flat_contents (words_in flat)) 512)) buffer

-- our report turned into a flat one: rows 1 (the lent buffer is not 512 words), 2 and 5 to 11
unfoldable pub to_flat_refused : List ℕ → List ℕ → List ℕ → Refusal
to_flat_refused settings message buffer =
    unless (eqb (length buffer) 2048) 1 (read_refusal Report (words_in settings) (words_in message))

-- the length is that of the flat report
unfoldable pub to_flat_answer : List ℕ → List ℕ → List ℕ → ℕ
to_flat_answer settings message buffer =
    answer_word (to_flat_refused settings message buffer) (with_length (flat_length (words_in settings) (contents_of (words_in message))))

-- the lent buffer afterwards: the flat report and zeros after it
unfoldable pub to_flat_leaves : List ℕ → List ℕ → List ℕ → List ℕ
to_flat_leaves settings message buffer =
    bytes_left (to_flat_refused settings message buffer) (bytes_of (flat_words (words_in settings) (contents_of (words_in message)))) buffer
