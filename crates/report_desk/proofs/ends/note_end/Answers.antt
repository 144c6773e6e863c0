-- `report_desk::ends::note_end` meets its contract, by the record's kind and shard.
use Prim.Native.Nat.{◌<◌, ◌≤◌}
use mathlib.Core.Path.{sym}
use native.Mathlib.Omega.{arith}
use Rattle.message_format.specs.Definitions.{tag}
use Rattle.report_desk.specs.Ends.{noted_low, noted_high, noted_run}
use Rattle.report_desk.proofs.ends.note_end.Goals as goal

pub returns-then-tag-lt768 : goal.returns-then-tag-lt768
returns-then-tag-lt768 c = let a = c.args in
    let w = c.wide-tag in
    let low : tag a.body.now a.j < 768 = omega (arith, w.ensures) in
    sym (noted_low a.body.now a.j a.ends.now low)

pub returns-then-tag-ge784 : goal.returns-then-tag-ge784
returns-then-tag-ge784 c = let a = c.args in
    let w = c.wide-tag in
    let high : 784 ≤ tag a.body.now a.j = omega (arith, w.ensures) in
    sym (noted_high a.body.now a.j a.ends.now high)

pub returns : goal.returns
returns c = let a = c.args in
    let w = c.wide-tag in
    noted_run a.body.now a.j a.ends.now w.result c.number.result w.ensures c.number.ensures c.if-tag-lt768.false c.if-tag-ge784.false
