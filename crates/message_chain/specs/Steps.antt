-- What a reader of records finds at an index: the record there, and the next index.
use Rattle.std.specs.Prelude.{ℕ, ◌+◌, ◌*◌, ◌<◌, cond, List, ◌≡◌, ltb, get_or}
use Rattle.std.proofs.Common.{lt-ltb}
use Rattle.message_format.specs.Definitions.{next}
use Rattle.message_format.specs.Shorthands.{records}
use Rattle.message_chain.specs.declared.Record.{Record}
use Rattle.message_chain.specs.declared.Step.{Step}

-- record i without its next index; zeros where the message has no such record
unfoldable pub record_at : List ℕ → ℕ → Record
record_at w i =
    cond (ltb i (records w)) (record { word0 = get_or w (4 * i) 0; word1 = get_or w (4 * i + 1) 0; word2 = get_or w (4 * i + 2) 0 })
    (record { word0 = 0; word1 = 0; word2 = 0 })

-- a step: record i, and the index that it names
abbrev pub step_from : List ℕ → ℕ → Step
step_from w i = record { reached = record_at w i; next = next w i }

-- ---- laws

-- a record of the message
pub record_inside : (w : List ℕ) (i : ℕ) → i < records w
    → record_at w i ≡ record { word0 = get_or w (4 * i) 0; word1 = get_or w (4 * i + 1) 0; word2 = get_or w (4 * i + 2) 0 }
unfolding record_at
record_inside w i h = rw (lt-ltb i (records w) h)
