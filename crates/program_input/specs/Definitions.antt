-- Standard input as far as it was read, and what reads add. No contract can say which bytes a read gives: that they are counted and added up
-- as they came, and whether a read failed, is known.
use Rattle.std.specs.Prelude.{ℕ, ◌+◌, ◌≤◌, ◌<◌, max, Bool, true, false, cond, List, [], ◌++◌, ◌≡◌, eqb, length, take}
use Rattle.program_sums.specs.Definitions.{sum_of}
use Rattle.program_input.specs.declared.Source.{Source}
use Rattle.program_input.specs.declared.Source.TheVariants.{Open, Over, Failed, Endless}
use Rattle.program_input.specs.declared.Input.{Input}

-- before the first read
abbrev pub unread : Input
unread = record { total = 0; sum = 0; reads = 0; got = 0; source = Open }

abbrev pub may_come : Source → Bool
may_come Open = true
may_come Over = false
may_come Failed = false
may_come Endless = false

-- reading ended before the input did
abbrev pub is_cut : Source → Bool
is_cut Open = false
is_cut Over = false
is_cut Failed = true
is_cut Endless = true

-- a read that gives nothing is the end
unfoldable pub after_bytes : ℕ → Source
after_bytes n = cond (eqb n 0) Over Open

-- a read that failed ends the reading, unless a signal interrupted it
unfoldable pub after_failure : Bool → Source
after_failure interrupted = cond interrupted Open Failed

-- the input after one read more, which gave these bytes
abbrev pub read_to : Input → List ℕ → Source → Input
read_to x bytes s =
    record { total = x.total + length bytes; sum = x.sum + sum_of bytes; reads = x.reads + 1; got = length bytes; source = s }

-- the input where no read more can be counted
abbrev pub endless : Input → Input
endless x = record { total = x.total; sum = x.sum; reads = x.reads; got = 0; source = Endless }

-- so much is counted: one read more fits 64 bits
abbrev pub most : ℕ
most = 18446744069414584320

-- the greatest of what is counted: bytes, their sum and reads
abbrev pub most_counted : Input → ℕ
most_counted x = max x.total (max x.sum x.reads)

-- a read leads from x to r and gives these bytes
pub data ReadsOn (x : Input) (bytes : List ℕ) (r : Input) : Type 0 where
  -- it gave them
  gave : most_counted x ≤ most → r ≡ read_to x bytes (after_bytes (length bytes)) → ReadsOn x bytes r
  -- it failed
  failed : (interrupted : Bool) → most_counted x ≤ most → bytes ≡ [] → r ≡ read_to x [] (after_failure interrupted) → ReadsOn x bytes r
  -- it is not made, since it could not be counted
  uncounted : most < most_counted x → bytes ≡ [] → r ≡ endless x → ReadsOn x bytes r

-- reads, one after another, lead from x to an input and give these bytes in all
pub data Reads (x : Input) : List ℕ → Input → Type 0 where
  no_read : Reads x [] x
  one_more : (a b : List ℕ) (y r : Input) → Reads x a y → ReadsOn y b r → Reads x (a ++ b) r

-- what was read in all to come to this input
abbrev pub Came : List ℕ → Input → Type 0
Came bytes r = Reads unread bytes r

-- reads until the block is full, the input is at its end or reading was cut: the first bytes of the block are what they gave
pub record Fills (x : Input) (block : List ℕ) (r : Input) (len : ℕ) : Type 0 where
  pub reads : Reads x (take len block) r
  pub full : may_come r.source ≡ true → len ≡ length block
  pub short : may_come r.source ≡ false → len < length block

-- what may follow what came: at the end of the input nothing, else anything
abbrev pub MayFollow : Source → List ℕ → Type 0
MayFollow Open rest = Unit {0}
MayFollow Over rest = rest ≡ []
MayFollow Failed rest = Unit {0}
MayFollow Endless rest = Unit {0}
