-- What contracts cite, each definition after those that it builds on. Laws stand in the files beside this one.
use Rattle.std.specs.Prelude.{ℕ, ◌+◌, ◌*◌, ◌/◌, ◌%◌, Bool, cond, ◌||◌, eqb, Result, Ok, Err}
use Rattle.base_laws.specs.Definitions.{pair_not_after as not-after}
use Rattle.base_ids.specs.declared.Position.{Position}
use Rattle.base_ids.specs.declared.Refusal.{Refusal}

-- ---- The order of positions: by view, then k.

-- p is q or before it
abbrev pub not_after : Position → Position → Bool
not_after p q = not-after p.view.0 p.k q.view.0 q.k

-- ---- A refusal is the first row of a list of (condition, number) whose condition fails, in the order of the list. It is one word: the row's
-- number and, 256 times, the index of the record that the row looked at, where the row tells one.

-- the refusal with a number; 0 is none
abbrev pub refused : ℕ → Refusal
refused k = record { code = k }

-- the refusal with a number and the index of a record
abbrev pub refused_at : ℕ → ℕ → Refusal
refused_at k i = record { code = k + 256 * i }

-- no refusal
abbrev pub none : Refusal
none = refused 0

-- nothing is refused
abbrev pub accepted : Refusal → Bool
accepted r = eqb r.code 0

-- the number of a refusal, and the index beside it
abbrev pub number_in : Refusal → ℕ
number_in r = r.code % 256

abbrev pub index_in : Refusal → ℕ
index_in r = r.code / 256

-- the numbers that tell the index of a record: next index, kind, shard and sequence
unfoldable pub located : ℕ → Bool
located k = eqb k 8 || eqb k 9 || eqb k 16 || eqb k 17

-- number k unless the condition holds, and then what the rest of the list gives
unfoldable pub unless : Bool → ℕ → Refusal → Refusal
unless ok k rest = cond ok rest (refused k)

-- the same with number k at record i
unfoldable pub unless_at : Bool → ℕ → ℕ → Refusal → Refusal
unless_at ok k i rest = cond ok rest (refused_at k i)

-- the refusal of a list that is followed by another
unfoldable pub first_of : Refusal → Refusal → Refusal
first_of r rest = cond (accepted r) rest r

-- what a call gives under a refusal: the value where nothing is refused, and else the refusal
unfoldable pub or_refusal : {A : Type 0} → Refusal → A → Result A Refusal
or_refusal r a = cond (accepted r) (Ok a) (Err r)
