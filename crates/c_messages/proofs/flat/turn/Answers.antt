-- A refusal by the first rows is the call's; where they pass, the writer's is.
use mathlib.Core.Path.{◌∙◌}
use Rattle.std.proofs.lemmas.Result.{err_from_is_err_and}
use Rattle.c_messages.specs.Turning.{turn_refused, turn_keeps, turn_writes, turn_leaves}
use Rattle.c_messages.proofs.flat.turn.Goals as goal

pub returns-in_err-flat_rows : goal.returns-in_err-flat_rows
returns-in_err-flat_rows c =
    let p = err_from_is_err_and c.from_residual.result c.from_residual.ensures.1 in
    record { answer = rw (p.1, p.2) (turn_refused _ _ _ _ c.in_err-flat_rows.ensures); words = turn_keeps _ _ _ _ c.in_err-flat_rows.ensures }

pub returns : goal.returns
returns c =
    let given = c.write.ensures in
    let rows = c.in_ok-flat_rows.ensures in
    (record { answer = given.answer ∙ turn_writes _ _ _ rows _ c.contents_from-c.ensures; words = given.words ∙ turn_leaves _ _ _ rows _ c.contents_from-c.ensures })
