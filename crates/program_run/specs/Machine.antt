-- What holds of a Run in memory between two steps.
use Rattle.std.specs.Prelude.{ℕ, ◌≤◌, List, ◌≡◌, length, take}
use Rattle.base_ids.specs.declared.Refusal.{Refusal}
use Rattle.program_blocks.specs.Definitions.{needed}
use Rattle.program_run.specs.declared.Stage.TheVariants.{Closed}
use Rattle.program_run.specs.declared.Run.{Run}
use Rattle.program_run.specs.Definitions.{opened, taking, RightSettings, progress_of}

-- the run, ended by a refusal
abbrev pub closed_by : Run → Refusal → Run
closed_by run r =
    record { stage = Closed r; state = run.state; settings = run.settings; words = run.words; pending = run.pending }

-- the run with n bytes of the next block
abbrev pub pending_bytes : Run → ℕ → Run
pending_bytes run n =
    record { stage = run.stage; state = run.state; settings = run.settings; words = run.words; pending = n }

-- the bytes below `end` are of the block that is coming in, and no more than it takes
pub record BytesGathered (run : Run) (bytes : List ℕ) (end : ℕ) : Type 0 where
  pub room : length bytes ≡ 2056
  pub within : end ≤ needed (take end bytes)
  pub settled : RightSettings run

-- the bytes below `end` are of one block, its count among them
pub record Comes (run : Run) (bytes : List ℕ) (end : ℕ) : Type 0 where
  pub room : length bytes ≡ 2056
  pub count : 4 ≤ end
  pub within : end ≤ length bytes
  pub settled : RightSettings run

-- a block w is taken
pub record TakesInBlock (run : Run) (d w : List ℕ) (r : Run) (e : List ℕ) : Type 0 where
  pub leads : progress_of r e ≡ taking (progress_of run d) w
  pub pending : r.pending ≡ run.pending
  pub settled : RightSettings r

-- the first block w is taken, beside any desk
pub record Opens (run : Run) (w : List ℕ) (r : Run) : Type 0 where
  pub leads : (d : List ℕ) → progress_of r d ≡ opened d w
  pub pending : r.pending ≡ run.pending
  pub settled : RightSettings r
