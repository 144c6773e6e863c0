-- `report_desk::ends::ends_of` meets its contract. The invariant: the ends are those of the first j records.
use mathlib.Core.Path.{◌≡◌, ap, ◌∙◌}
use native.Mathlib.Omega.{arith}
use Rattle.report_desk.specs.Ends.{ends_of, ends_none, ends_noted}
use Rattle.report_desk.proofs.ends.ends_of.Goals as goal

pub loop-j-init : goal.loop-j-init
loop-j-init c = ends_none c.args.body.now

pub loop-j-preserved : goal.loop-j-preserved
loop-j-preserved c = let a = c.args in
    let l = c.loop-j in c.note_end.ensures ∙ ends_noted a.body.now l.j l.ends l.invariant

pub returns : goal.returns
returns c = let a = c.args in
    let l = c.loop-j in
    let z : l.j ≡ a.len = omega arith in
    l.invariant ∙ ap (ends_of a.body.now) z
