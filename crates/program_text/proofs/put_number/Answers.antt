-- `program_text::put_number` meets its contract: the number, and after it the index if the number tells one. Assumes nothing.
use Rattle.program_text.specs.Puts.{puts_as, then-puts}
use mathlib.Core.Path.{sym}
use Rattle.program_text.specs.Text.{number_with_index, number_alone}
use Rattle.program_text.proofs.put_number.Goals as goal

pub returns-then-tells_record : goal.returns-then-tells_record
returns-then-tells_record c =
    let tells = c.tells_record in
    puts_as (sym (number_with_index c.args.refusal tells.result tells.ensures c.if-tells_record.true))
    (then-puts c.requires c.put_field-next.ensures c.put_line.ensures)

pub returns : goal.returns
returns c =
    let tells = c.tells_record in
    puts_as (sym (number_alone c.args.refusal tells.result tells.ensures c.if-tells_record.false))
    c.put_line-2.ensures
