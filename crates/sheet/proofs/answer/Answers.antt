-- `sheet::answer` meets its contract: where the input was cut nothing is printed, else the run prints. Assumes nothing.
use Prim.Native.Nat.{ℕ, ◌≤◌}
use mathlib.Core.List.{List}
use mathlib.Core.Path.{◌≡◌, sym, ◌∙◌}
use native.Mathlib.Omega.{arith}
use lib.ListN.{length}
use Rattle.program_sheet.specs.Definitions.{Sheeted}
use Rattle.program_sheet.specs.Whole.{writes_sheeted}
use Rattle.program_reading.specs.Laws.{answers_none, answers_by, empty-desk}
use borrow.Author.Rules.{rules}
use Rattle.sheet.proofs.answer.Goals as goal

enough : (l : List ℕ) → length l ≡ 32768 → 32768 ≤ length l
enough l h = omega arith

pub returns-then-is_cut : goal.returns-then-is_cut
returns-then-is_cut c = answers_none Sheeted c.read_run-intake.ensures _ (sym c.is_cut.ensures ∙ c.if-is_cut.true)

pub print-len-requires : goal.print-len-requires
print-len-requires c = c.read_run-intake.ensures.settled

pub returns : goal.returns
returns c =
    answers_by Sheeted c.read_run-intake.ensures _ _ empty-desk
    (sym c.is_cut.ensures ∙ c.if-is_cut.false) c.print-len.ensures.puts.within
    (λ input e. writes_sheeted _ _ _ _ c.print-len.ensures (enough c.args.out.now (search rules)) input e)
