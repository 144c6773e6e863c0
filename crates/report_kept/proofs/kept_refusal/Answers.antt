-- `report_kept::kept_refusal` meets its contract: row by row. Assumes nothing.
use mathlib.Core.Path.{sym}
use Rattle.base_ids.specs.Definitions.{unless, or_refusal}
use Rattle.report_rows.specs.Definitions.{row18}
use Rattle.report_kept.specs.Definitions.{kept_refusal}
use Rattle.report_kept.proofs.kept_refusal.Goals as goal

pub returns-then-not-row18 : goal.returns-then-not-row18
unfolding kept_refusal row18 unless or_refusal
returns-then-not-row18 c = let j = c.row18 in simp (sym j.ensures, c.if-not-row18.true)

pub returns-then-not-row12 : goal.returns-then-not-row12
unfolding kept_refusal row18 unless or_refusal
returns-then-not-row12 c =
    let j = c.row18 in
    let k = c.row12 in
    simp (sym j.ensures, c.if-not-row18.false, sym k.ensures, c.if-not-row12.true)

pub returns-then-not-row13 : goal.returns-then-not-row13
unfolding kept_refusal row18 unless or_refusal
returns-then-not-row13 c =
    let j = c.row18 in
    let k = c.row12 in
    let l = c.row13 in
    simp (sym j.ensures, c.if-not-row18.false, sym k.ensures, c.if-not-row12.false, sym l.ensures, c.if-not-row13.true)

pub returns : goal.returns
unfolding kept_refusal row18 unless or_refusal
returns c =
    let j = c.row18 in
    let k = c.row12 in
    let l = c.row13 in
    simp (sym j.ensures, c.if-not-row18.false, sym k.ensures, c.if-not-row12.false, sym l.ensures, c.if-not-row13.false)
