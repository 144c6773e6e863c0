-- What contracts cite, each definition after those that it builds on. Laws stand in the files beside this one.
use Rattle.std.specs.Prelude.{ℕ, ◌≤◌, ◌<◌, cond, Bool, true, false, List, [], ◌∷◌, ◌++◌, ◌≡◌, replicate, length, take}
use Rattle.base_ids.specs.declared.Refusal.{Refusal}
use Rattle.base_ids.specs.Definitions.{refused, accepted}
use Rattle.settings_values.specs.Definitions.{settings_ok, Settings}
use Rattle.state_planner.specs.declared.State.{State}
use Rattle.state_planner.specs.declared.Decided.{Decided}
use Rattle.state_planner.specs.Definitions.{fresh, report_refusal, reported, desk_after, Decides}
use Rattle.program_text.specs.Definitions.{number_line, Puts}
use Rattle.program_lines.specs.Definitions.{decision_text}
use Rattle.program_blocks.specs.Definitions.{blocks, needed}
use Rattle.program_run.specs.declared.Stage.{Stage}
use Rattle.program_run.specs.declared.Stage.TheVariants.{Opening, Open, Closed}
use Rattle.program_run.specs.declared.Run.{Run}

-- ---- A run of the program: blocks lead from one stage to the next, and after the last one the run prints. `Printed` says what is
-- printed for an input.

-- what a run has come to
pub data Progress : Type 0 where
  -- no block has come; the desk
  Started : List ℕ → Progress
  -- settings, state and desk after the blocks so far, none of which was refused
  Underway : List ℕ → State → List ℕ → Progress
  -- a block was refused; the desk holds what it held
  Ended : Refusal → List ℕ → Progress

-- the first block is the settings
unfoldable pub opened : List ℕ → List ℕ → Progress
opened d w = cond (settings_ok w) (Underway w fresh d) (Ended (refused 2) d)

-- every other block is a report
unfoldable pub told_reports : List ℕ → State → List ℕ → List ℕ → Progress
told_reports σ x d w =
    cond (accepted (report_refusal σ x d w)) (Underway σ (reported σ x d w).state (desk_after σ x d w)) (Ended (report_refusal σ x d w) d)

-- a block. A refusal ends the run.
unfoldable pub taking : Progress → List ℕ → Progress
taking (Started d) w = opened d w
taking (Underway σ x d) w = told_reports σ x d w
taking (Ended r d) w = Ended r d

-- blocks, one after another
unfoldable pub after : Progress → List (List ℕ) → Progress
after p [] = p
after p (w ∷ ws) = after (taking p w) ws

-- the text is that of decide's decision, of which there is one
pub record DecisionPrinted (σ : List ℕ) (x : State) (d text : List ℕ) : Type 0 where
  pub decided : Decided
  pub decides : Decides σ x d decided
  pub says : text ≡ decision_text σ decided.decision decided.state.plan

-- the text that is printed at the end of the input. A missing settings block has no words, and so is refused by number 2.
unfoldable pub Prints : Progress → List ℕ → Type 0
Prints (Started d) text = text ≡ number_line (refused 2)
Prints (Underway σ x d) text = DecisionPrinted σ x d text
Prints (Ended r d) text = text ≡ number_line r

-- before any block: an empty desk
abbrev pub at_start : Progress
at_start = Started (replicate 16384 0)

-- the text that is printed for an input
unfoldable pub Printed : List ℕ → List ℕ → Type 0
Printed input text = Prints (after at_start (blocks input)) text

-- ---- What a Run in memory stands for, and what each step of it does.

-- the run before any byte
abbrev pub started_run : Run
started_run = record { stage = Opening; state = fresh; settings = replicate 52 0; words = 0; pending = 0 }

-- a stage beside settings, state and desk
unfoldable pub progress_at : Stage → List ℕ → State → List ℕ → Progress
progress_at Opening σ x d = Started d
progress_at Open σ x d = Underway σ x d
progress_at (Closed r) σ x d = Ended r d

-- what the run has come to, beside the desk d
abbrev pub progress_of : Run → List ℕ → Progress
progress_of run d = progress_at run.stage (take run.words run.settings) run.state d

abbrev pub closed_at : Stage → Bool
closed_at Opening = false
closed_at Open = false
closed_at (Closed r) = true

-- what the run will have come to when the bytes `rest` have come too; `bytes` holds those of the block that is coming in
unfoldable pub ahead : Run → List ℕ → List ℕ → List ℕ → Progress
ahead run d bytes rest = after (progress_of run d) (blocks (take run.pending bytes ++ rest))

-- the settings of a run are as many words as it says, and right where it is open
abbrev pub RightSettings : Run → Type 0
RightSettings run = (run.words ≤ length run.settings) × (run.stage ≡ Open → Settings (take run.words run.settings))

-- the block that is coming in is not whole, and the memory for it has room
pub record ReadyRun (run : Run) (bytes : List ℕ) : Type 0 where
  pub room : length bytes ≡ 2056
  pub coming : run.pending < needed (take run.pending bytes)
  pub settled : RightSettings run

-- bytes are fed: whatever follows, the run comes to the same
pub record Feeds (run : Run) (d bytes fed : List ℕ) (r : Run) (e after : List ℕ) : Type 0 where
  pub ready : ReadyRun r after
  pub same : (rest : List ℕ) → ahead r e after rest ≡ ahead run d bytes (fed ++ rest)

-- the input is at its end
pub record Closes (run : Run) (d bytes : List ℕ) (r : Run) (e : List ℕ) : Type 0 where
  pub leads : progress_of r e ≡ ahead run d bytes []
  pub settled : RightSettings r

-- the text that is printed is put into the bytes `out`
pub record Writes (p : Progress) (out after : List ℕ) (n : ℕ) : Type 0 where
  pub text : List ℕ
  pub prints : Prints p text
  pub fits : length text ≤ 8192
  pub puts : Puts out 0 text after n
