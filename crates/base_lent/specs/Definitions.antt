-- What contracts cite, each definition after those that it builds on. Laws stand in the files beside this one.
use Rattle.std.specs.Prelude.{cond, List, ℕ, ◌*◌, ◌/◌, ◌%◌, ◌+◌, eqb, length}
use Rattle.base_ids.specs.declared.Refusal.{Refusal}
use Rattle.base_ids.specs.Definitions.{accepted}
use Rattle.base_bytes.specs.Definitions.{words_of}

-- ---- What bytes lent by a C caller mean: little-endian words. Bytes that are no whole words are read as no words at all, which is as wrong a
-- length.

-- how many words n bytes are
unfoldable pub word_count : ℕ → ℕ
word_count n = cond (eqb (n % 4) 0) (n / 4) 0

-- the words that the bytes are
unfoldable pub words_in : List ℕ → List ℕ
words_in bytes = words_of bytes (word_count (length bytes))

-- ---- What a C entry point answers, as one word, and what it leaves in lent bytes.

-- the number of the refusal, or the word that the call gives where it is accepted
unfoldable pub answer_word : Refusal → ℕ → ℕ
answer_word r given = cond (accepted r) given r.code

-- the word given by a call that is accepted with a length in words; one without a length gives 0
abbrev pub with_length : ℕ → ℕ
with_length n = 16777216 + n

-- the word given where a plan was made
abbrev pub planned_word : ℕ
planned_word = 33554432

-- the word given for a wait: its reason's number, and the shard or subgroup that it names
abbrev pub wait_word : ℕ → ℕ → ℕ
wait_word reason value = 50331648 + 256 * reason + value

-- the lent bytes afterwards: those that the call makes, or what they were beside a refusal
unfoldable pub bytes_left : Refusal → List ℕ → List ℕ → List ℕ
bytes_left r made bytes = cond (accepted r) made bytes
