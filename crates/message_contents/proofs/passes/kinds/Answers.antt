-- `message_contents::passes::kinds` meets its contract. The invariant: the records below j pass.
use mathlib.Core.Path.{sym, ◌∙◌}
use native.Mathlib.Omega.{arith}
use Rattle.base_laws.specs.Below.{all_none}
use Rattle.base_laws.proofs.Below.{all_more, all_fewer}
use Rattle.message_contents.specs.Passes.{failing_at, failing_nowhere}
use Rattle.message_format.specs.Definitions.{kind_at}
use Rattle.message_contents.proofs.passes.kinds.Goals as goal

pub loop-j-init : goal.loop-j-init
loop-j-init c = all_none (kind_at c.args.form c.args.c.now.body)

pub returns-then-not-kind_at : goal.returns-then-not-kind_at
returns-then-not-kind_at c = let a = c.args in
    let k = c.kind_at in
    let l = c.loop-j in
    failing_at a.c.now.len (kind_at a.form a.c.now.body) l.j (omega arith) l.invariant (sym k.ensures ∙ c.if-not-kind_at.true)

pub loop-j-preserved : goal.loop-j-preserved
loop-j-preserved c = let a = c.args in
    let k = c.kind_at in
    let l = c.loop-j in all_more l.j (kind_at a.form a.c.now.body) l.invariant (sym k.ensures ∙ c.if-not-kind_at.false)

pub returns : goal.returns
returns c = let a = c.args in
    let ok = kind_at a.form a.c.now.body in
    failing_nowhere a.c.now.len ok (all_fewer a.c.now.len c.loop-j.j ok (omega arith) c.loop-j.invariant)
