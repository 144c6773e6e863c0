-- `message_contents::passes::positions` meets its contract. The invariant: the records below j pass.
use mathlib.Core.Path.{sym, ◌∙◌}
use native.Mathlib.Omega.{arith}
use Rattle.base_laws.specs.Below.{all_none}
use Rattle.base_laws.proofs.Below.{all_more, all_fewer, all_fails}
use Rattle.message_format.specs.Definitions.{row11_at}
use Rattle.message_contents.proofs.passes.positions.Goals as goal

pub loop-j-init : goal.loop-j-init
loop-j-init c = let a = c.args in all_none (row11_at a.form a.c.now.view.0 a.c.now.members a.c.now.body)

pub returns-then-not-position_at : goal.returns-then-not-position_at
returns-then-not-position_at c = let a = c.args in
    sym (all_fails a.c.now.len (row11_at a.form a.c.now.view.0 a.c.now.members a.c.now.body) c.loop-j.j (omega arith)
    (sym c.position_at.ensures ∙ c.if-not-position_at.true))

pub loop-j-preserved : goal.loop-j-preserved
loop-j-preserved c = let a = c.args in
    let l = c.loop-j in all_more l.j (row11_at a.form a.c.now.view.0 a.c.now.members a.c.now.body) l.invariant
    (sym c.position_at.ensures ∙ c.if-not-position_at.false)

pub returns : goal.returns
returns c = let a = c.args in
    let ok = row11_at a.form a.c.now.view.0 a.c.now.members a.c.now.body in
    sym (all_fewer a.c.now.len c.loop-j.j ok (omega arith) c.loop-j.invariant)
