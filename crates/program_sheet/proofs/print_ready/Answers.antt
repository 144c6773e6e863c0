-- `program_sheet::print_ready` meets its contract: the number of the refusal, or the sheet of the rows. Assumes nothing.
use native.Mathlib.Omega.{arith}
use Rattle.program_sheet.specs.Steps.{ready_passed, ready_settings, sheet_refused, sheet_shown}
use Rattle.program_sheet.proofs.print_ready.Goals as goal

pub slice_bounds-readiness-end : goal.slice_bounds-readiness-end
slice_bounds-readiness-end c = omega (arith, c.requires.1.0)

pub returns-then-refusal-ne0 : goal.returns-then-refusal-ne0
returns-then-refusal-ne0 c =
    let s = c in
    let k = c.readiness-ready in
    sheet_refused s.args.run _ _ _ _ k.result s.requires.0 k.ensures c.if-refusal-ne0.true c.number_line.ensures

pub slice_bounds-nodes-end : goal.slice_bounds-nodes-end
slice_bounds-nodes-end c = omega (arith, c.requires.1.0)

pub nodes-requires : goal.nodes-requires
nodes-requires c = ready_settings _ _ _ _ c.readiness-ready.ensures c.if-refusal-ne0.false

pub put_sheet-requires : goal.put_sheet-requires
put_sheet-requires c =
    let few = (ready_passed _ _ _ _ c.readiness-ready.ensures c.if-refusal-ne0.false).few in
    omega (arith, few, c.nodes.ensures)

pub returns : goal.returns
returns c =
    let s = c in
    let k = c.readiness-ready in
    let m = c.nodes in
    sheet_shown s.args.run _ _ _ _ k.result s.requires.0 k.ensures m.result c.if-refusal-ne0.false m.ensures c.put_sheet.ensures
