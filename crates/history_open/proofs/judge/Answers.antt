-- `history_open::judge` meets its contract: the four cases of the two things that views say.
use mathlib.Core.Path.{sym}
use Rattle.history_open.specs.Definitions.{judged}
use Rattle.history_open.proofs.judge.Goals as goal

pub returns-then-never : goal.returns-then-never
unfolding judged
returns-then-never c = let s = c.says_sure-sure in
    let n = c.says_never-never in
    simp (sym s.ensures, sym n.ensures, c.if-sure.true, c.if-never.true)

pub returns-then-sure : goal.returns-then-sure
unfolding judged
returns-then-sure c = let s = c.says_sure-sure in
    let n = c.says_never-never in
    simp (sym s.ensures, sym n.ensures, c.if-sure.true, c.if-never.false)

pub returns-then-never-2 : goal.returns-then-never-2
unfolding judged
returns-then-never-2 c = let s = c.says_sure-sure in
    let n = c.says_never-never in
    simp (sym s.ensures, sym n.ensures, c.if-sure.false, c.if-never-2.true)

pub returns : goal.returns
unfolding judged
returns c = let s = c.says_sure-sure in
    let n = c.says_never-never in
    simp (sym s.ensures, sym n.ensures, c.if-sure.false, c.if-never-2.false)
