-- `report_kept::termination_of` meets its contract: by whether the report has a termination. Assumes nothing.
use mathlib.Core.Bool.{true, false}
use mathlib.Core.List.{List}
use mathlib.Core.Path.{sym, ap, ◌∙◌}
use Rattle.base_ids.specs.declared.Position.{Position}
use Rattle.report_kept.specs.Laws.{termination_by, termination_none}
use Rattle.report_kept.proofs.termination_of.Goals as goal

pub returns-then-not-terminated : goal.returns-then-not-terminated
returns-then-not-terminated c =
    let a = c.args in
    let k = c.terminated in
    ap (λ (l : List Position). record { made = false; positions = l }) c.no_positions.ensures
    ∙ termination_none a.settings.now a.c (sym k.ensures ∙ c.if-not-terminated.true)

pub returns : goal.returns
returns c =
    let a = c.args in
    let k = c.terminated in
    let n = c.shards-count in
    ap (λ (l : List Position). record { made = true; positions = l }) c.positions_in.ensures
    ∙ termination_by a.settings.now a.c n.result n.ensures
    (sym k.ensures ∙ c.if-not-terminated.false)
