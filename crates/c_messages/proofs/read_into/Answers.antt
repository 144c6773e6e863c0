-- Each way out is a case of what the call answers and leaves.
use native.Mathlib.Omega.{arith}
use mathlib.Core.Path.{ap, ◌∙◌}
use Rattle.base_bytes.specs.Definitions.{bytes_of}
use Rattle.c_messages.specs.ReadCalls.{read_not_2048, read-refused, read_taken, read_few}
use Rattle.c_messages.proofs.read_into.Goals as goal

pub returns-then-contents-ne2048 : goal.returns-then-contents-ne2048
returns-then-contents-ne2048 c =
    let t = read_not_2048 c.args.form c.args.settings.now c.args.message.now c.args.contents.now c.if-contents-ne2048.true in
    record { answer = t.0; bytes = t.1 }

pub overflow_mul-c : goal.overflow_mul-c
overflow_mul-c c = omega (arith, read_few _ _ _ c.args.contents.now c.if-contents-ne2048.false _ c.in-Ok.ensures)

pub overflow_add-c : goal.overflow_add-c
overflow_add-c c = omega (arith, read_few _ _ _ c.args.contents.now c.if-contents-ne2048.false _ c.in-Ok.ensures)

pub give-requires : goal.give-requires
give-requires c =
    let few = read_few _ _ _ c.args.contents.now c.if-contents-ne2048.false _ c.in-Ok.ensures in
    (omega (arith, few), c.if-contents-ne2048.false)

pub returns-in-Ok : goal.returns-in-Ok
returns-in-Ok c =
    let given = c.give.ensures in
    let a = read_taken c.args.form c.args.settings.now c.args.message.now c.args.contents.now c.if-contents-ne2048.false _ c.in-Ok.ensures in
    (record { answer = given.0 ∙ a.0; bytes = given.1 ∙ ap bytes_of c.lay_out.ensures ∙ a.1 })

pub returns-in-Err : goal.returns-in-Err
returns-in-Err c =
    let t = read-refused c.args.form c.args.settings.now c.args.message.now c.args.contents.now c.if-contents-ne2048.false _ c.in-Err.ensures in
    record { answer = t.0; bytes = t.1 }
