-- `program_sheet_text::put_sheet` meets its contract: the lines of all masks, and the counts. Assumes nothing.
use Prim.Native.Nat.{zero-le}
use mathlib.Core.Path.{sym}
use Rattle.program_text.specs.Puts.{then-puts, puts_as}
use Rattle.program_sheet_text.specs.Laws.{masks_few}
use Rattle.program_sheet_text.proofs.Laws.{text_lines}
use Rattle.program_sheet_text.proofs.put_sheet.Goals as goal

pub put_rows-next-requires : goal.put_rows-next-requires
put_rows-next-requires c =
    let s = c in
    masks_few s.args.nodes c.masks_of-count.result c.masks_of-count.ensures s.requires

pub put_counts-requires : goal.put_counts-requires
put_counts-requires c =
    let s = c in
    let m = c.masks_of-count in
    (c.put_rows-next.ensures.within, masks_few s.args.nodes m.result m.ensures s.requires)

pub returns : goal.returns
returns c =
    let a = c.args in
    let m = c.masks_of-count in
    puts_as (sym (text_lines a.rows.now a.nodes m.result m.ensures))
    (then-puts zero-le c.put_rows-next.ensures c.put_counts.ensures)
