-- `plan_seen::view_seen` meets its contract: the view that a node reported is word 1 of its slot.
use mathlib.Core.Path.{sym, ◌∙◌}
use Rattle.base_lent.specs.Definitions.{words_in}
use Rattle.report_desk.specs.Bytes.{desk_length, desk_word}
use native.Mathlib.Omega.{arith}
use Prim.Native.Nat.{◌+◌, ◌*◌}
use Rattle.report_desk.specs.Ends.{view-at}
use Rattle.plan_seen.specs.Sight.{view_unheld, view_held}
use Rattle.plan_seen.proofs.view_seen.Goals as goal

pub returns-then-not-has : goal.returns-then-not-has
returns-then-not-has c = let a = c.args in
    let h = c.has in
    view_unheld a.held (words_in a.desk.now) a.node.0 (sym h.ensures ∙ c.if-not-has.true)

pub returns : goal.returns
returns c = let s = c in
    let a = s.args in
    let h = c.has in
    view_held a.held (words_in a.desk.now) a.node.0 (sym h.ensures ∙ c.if-not-has.false) _
    (c.word_at.ensures
    ∙ sym (desk_word a.desk.now s.requires.0 (512 * a.node.0 + 1) (omega (arith, s.requires.1)))
    ∙ view-at (words_in a.desk.now) a.node.0 (desk_length a.desk.now s.requires.0) s.requires.1)
