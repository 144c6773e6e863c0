-- What the program sheet prints: as `restart` after a refusal; else the sheet of all masks, or number 22 or 23.
use Rattle.std.specs.Prelude.{ℕ, ◌≤◌, true, cond, List, ◌≡◌, length}
use Rattle.base_ids.specs.Definitions.{refused, accepted}
use Rattle.settings_values.specs.Definitions.{nodes}
use Rattle.state_planner.specs.declared.State.{State}
use Rattle.state_readiness.specs.declared.ReadyRows.{ReadyRows}
use Rattle.state_readiness.specs.Definitions.{Readies}
use Rattle.program_text.specs.Definitions.{number_line, Puts}
use Rattle.program_blocks.specs.Definitions.{blocks}
use Rattle.program_run.specs.Definitions.{Progress, Started, Underway, Ended, after, at_start}
use Rattle.program_sheet_text.specs.Definitions.{sheet_text}

-- the sheet of the rows, or the number of the refusal
unfoldable pub readiness_text : List ℕ → ReadyRows → List ℕ
readiness_text σ r = cond (accepted r.refusal) (sheet_text r.rows (nodes σ)) (number_line r.refusal)

-- the text is that of the state's readiness, of which there is one
pub record SheetPrinted (σ : List ℕ) (x : State) (d text : List ℕ) : Type 0 where
  pub readiness : ReadyRows
  pub readies : Readies true σ x d readiness
  pub says : text ≡ readiness_text σ readiness

-- the text that is printed at the end of the input. A missing settings block has no words, and so is refused by number 2.
unfoldable pub SheetPrints : Progress → List ℕ → Type 0
SheetPrints (Started d) text = text ≡ number_line (refused 2)
SheetPrints (Underway σ x d) text = SheetPrinted σ x d text
SheetPrints (Ended r d) text = text ≡ number_line r

-- the text that is printed for an input
unfoldable pub Sheeted : List ℕ → List ℕ → Type 0
Sheeted input text = SheetPrints (after at_start (blocks input)) text

-- the text that is printed is put into the bytes `out`
pub record SheetWrites (p : Progress) (out after : List ℕ) (n : ℕ) : Type 0 where
  pub text : List ℕ
  pub prints : SheetPrints p text
  pub fits : length text ≤ 32768
  pub puts : Puts out 0 text after n
