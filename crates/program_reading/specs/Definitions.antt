-- What reading promises. No contract can say which bytes a read gives: the promise is of the bytes that came, whatever they are.
use Rattle.std.specs.Prelude.{ℕ, ◌≤◌, Bool, true, false, cond, List, ◌++◌, ◌≡◌, length, take}
use Rattle.program_input.specs.declared.Source.{Source}
use Rattle.program_input.specs.Definitions.{may_come, is_cut, MayFollow, ReadsOn, Came}
use Rattle.program_run.specs.declared.Stage.{Stage}
use Rattle.program_run.specs.Definitions.{started_run, closed_at, Feeds}
use Rattle.program_reading.specs.declared.Intake.{Intake}
use Rattle.program_reading.specs.declared.Reply.{Reply}

-- more may come, and the run still takes it
abbrev pub goes_on : Source → Stage → Bool
goes_on s k = cond (closed_at k) false (may_come s)

-- one read more: the bytes that it gave are fed
pub record ReadsMore (x : Intake) (d bytes gave : List ℕ) (r : Intake) (e b : List ℕ) : Type 0 where
  pub reads : ReadsOn x.input gave r.input
  pub feeds : Feeds x.run d bytes gave r.run e b

-- reads, one after another, lead from the start, and what they gave is fed
pub record FedSoFar (d bytes : List ℕ) (r : Intake) (e b : List ℕ) : Type 0 where
  pub came : List ℕ
  pub reads : Came came r.input
  pub feeds : Feeds started_run d bytes came r.run e b

-- .. until the last of them gave nothing or failed, or the run is closed
pub record ReadsAll (d bytes : List ℕ) (r : Intake) (e b : List ℕ) : Type 0 where
  pub fed : FedSoFar d bytes r e b
  pub ended : goes_on r.input.source r.run.stage ≡ false

-- the first bytes of `out` are what is said for the bytes that came and whatever may follow them; nothing where the input was cut.
-- Says input text: the text is what the program prints for the input.
pub record Answers (Says : List ℕ → List ℕ → Type 0) (out : List ℕ) (r : Reply) : Type 0 where
  pub came : List ℕ
  pub reads : Came came r.input
  pub printed : is_cut r.input.source ≡ false → (rest : List ℕ) → MayFollow r.input.source rest → Says (came ++ rest) (take r.len out)
  pub silent : is_cut r.input.source ≡ true → r.len ≡ 0
  pub within : r.len ≤ length out
