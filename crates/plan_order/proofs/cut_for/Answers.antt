-- `plan_order::cut_for` meets its contract: the holder's report is read, and the cut is that against it.
use mathlib.Core.Path.{sym, ◌∙◌}
use Rattle.report_desk.specs.Bytes.{desk_bytes}
use Rattle.plan_order.specs.Readable.{read_few, cut_read, cut_taken, cut_left}
use Rattle.plan_order.proofs.cut_for.Goals as goal

pub returns-then-not-has : goal.returns-then-not-has
returns-then-not-has c =
    let h = c.has in
    cut_left _ (sym h.ensures ∙ c.if-not-has.true)

pub report_at-report-requires : goal.report_at-report-requires
report_at-report-requires c =
    let s = c in
    let r = s.requires.readable_slot in
    record { desk_len = (desk_bytes s.args.desk.now r.words, r.below); node_value = r.chained }

pub cut-requires : goal.cut-requires
cut-requires c =
    let r = c.report_at-report in
    (c.requires.len_bound, read_few _ _ r.result r.ensures)

pub returns : goal.returns
returns c =
    let h = c.has in
    let r = c.report_at-report in
    cut_taken (sym h.ensures ∙ c.if-not-has.false)
    (cut_read _ _ _ _ _ r.result _ c.cut.result r.ensures c.cut.ensures)
