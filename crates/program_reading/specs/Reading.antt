-- A run that was read to its end.
use Rattle.std.specs.Prelude.{ℕ, false, List, ◌++◌, ◌≡◌}
use Rattle.program_blocks.specs.Definitions.{blocks}
use Rattle.program_input.specs.Definitions.{is_cut, MayFollow, Came}
use Rattle.program_run.specs.Definitions.{Started, after, progress_of, RightSettings}
use Rattle.program_reading.specs.declared.Intake.{Intake}

-- the run, closed, is what the bytes that came lead to, and whatever may follow them, unless the input was cut
pub record ReadsRun (d : List ℕ) (r : Intake) (e : List ℕ) : Type 0 where
  pub came : List ℕ
  pub reads : Came came r.input
  pub settled : RightSettings r.run
  pub leads : is_cut r.input.source ≡ false → (rest : List ℕ) → MayFollow r.input.source rest
      → progress_of r.run e ≡ after (Started d) (blocks (came ++ rest))
