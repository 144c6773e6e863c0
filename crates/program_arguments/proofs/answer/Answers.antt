-- `program_arguments::answer` meets its contract, word by word. Assumes nothing.
use Rattle.program_text.specs.Puts.{puts_as}
use Rattle.program_arguments.specs.Arguments.{told_same, asks_version, asks_help, asks_neither}
use Rattle.program_arguments.proofs.answer.Goals as goal

pub returns-then-eq : goal.returns-then-eq
returns-then-eq c =
    let x = c.args in
    let version = told_same _ _ c.as_slice.ensures c.eq.ensures c.if-eq.true in
    let a = asks_version x.word.now x.name.now x.version.now x.help.now version in (a.0, puts_as a.1 c.put_told.ensures)

pub returns-then-eq-2 : goal.returns-then-eq-2
returns-then-eq-2 c =
    let x = c.args in
    let version = told_same _ _ c.as_slice.ensures c.eq.ensures c.if-eq.false in
    let help = told_same _ _ c.as_slice-2.ensures c.eq-2.ensures c.if-eq-2.true in
    let a = asks_help x.word.now x.name.now x.version.now x.help.now version help in (a.0, puts_as a.1 c.put_text.ensures)

pub returns : goal.returns
returns c =
    let x = c.args in
    let version = told_same _ _ c.as_slice.ensures c.eq.ensures c.if-eq.false in
    let help = told_same _ _ c.as_slice-2.ensures c.eq-2.ensures c.if-eq-2.false in
    let a = asks_neither x.word.now x.name.now x.version.now x.help.now version help in (a.0, puts_as a.1 c.put_told-2.ensures)
