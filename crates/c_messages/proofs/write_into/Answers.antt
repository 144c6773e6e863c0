-- Each way out is a case of what the call answers and leaves.
use mathlib.Core.Path.{refl, ◌∙◌}
use Rattle.c_messages.specs.WriteCalls.{write_not_2048, write-refused, write_taken, write_few}
use Rattle.c_messages.proofs.write_into.Goals as goal

pub returns-then-buffer-ne2048 : goal.returns-then-buffer-ne2048
returns-then-buffer-ne2048 c =
    let t = write_not_2048 c.args.form c.args.settings.now c.args.contents.now c.args.buffer.now c.if-buffer-ne2048.true in
    record { answer = t.0; bytes = t.1 }

pub give-requires : goal.give-requires
give-requires c = (
  write_few _ _ _ c.args.buffer.now c.if-buffer-ne2048.false _ refl _ c.contents_lent-c.ensures _ c.in-Ok.ensures.answer,
  c.if-buffer-ne2048.false,
)

pub returns-in-Ok : goal.returns-in-Ok
returns-in-Ok c =
    let told = c.in-Ok.ensures in
    let given = c.give.ensures in
    let a =
    write_taken c.args.form c.args.settings.now c.args.contents.now c.args.buffer.now c.if-buffer-ne2048.false _ refl _
    c.contents_lent-c.ensures _ told.answer _ told.words in
    record { answer = given.0 ∙ a.0; bytes = given.1 ∙ a.1 }

pub returns-in-Err : goal.returns-in-Err
returns-in-Err c =
    let t =
    write-refused c.args.form c.args.settings.now c.args.contents.now c.args.buffer.now c.if-buffer-ne2048.false _ refl _
    c.contents_lent-c.ensures _ c.in-Err.ensures.answer in
    record { answer = t.0; bytes = t.1 }
