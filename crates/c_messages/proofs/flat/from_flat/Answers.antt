-- Each way out is a case of what the call answers and leaves.
use mathlib.Core.Path.{refl, ◌∙◌}
use Rattle.c_messages.specs.Turning.{from_not_2048, from_told, from_few, from_given}
use Rattle.c_messages.proofs.flat.from_flat.Goals as goal

pub returns-then-buffer-ne2048 : goal.returns-then-buffer-ne2048
returns-then-buffer-ne2048 c =
    let t = from_not_2048 c.args.settings.now c.args.flat.now c.args.buffer.now c.if-buffer-ne2048.true in
    record { answer = t.0; bytes = t.1 }

pub give-requires : goal.give-requires
give-requires c =
    (from_few _ _ c.args.buffer.now c.if-buffer-ne2048.false _ refl _ c.in-Ok.ensures.answer, c.if-buffer-ne2048.false)

pub returns-in-Ok : goal.returns-in-Ok
returns-in-Ok c =
    let told = c.in-Ok.ensures in
    let given = c.give.ensures in
    let t = from_given c.args.settings.now c.args.flat.now c.args.buffer.now c.if-buffer-ne2048.false _ refl _ told.answer _ told.words in
    record { answer = given.0 ∙ t.0; bytes = given.1 ∙ t.1 }

pub returns-in-Err : goal.returns-in-Err
returns-in-Err c =
    let t = from_told c.args.settings.now c.args.flat.now c.args.buffer.now c.if-buffer-ne2048.false _ refl _ c.in-Err.ensures.answer in
    record { answer = t.0; bytes = t.1 }
