-- `place_layout::solve` meets its contract: the tables are the subgroup's, and the sheet is one of them. Assumes nothing.
use lib.ListN.{get_or}
use Rattle.place_layout.specs.Steps.{answer_for, sheet_told}
use Rattle.place_layout.proofs.solve.Goals as goal

pub least-requires : goal.least-requires
least-requires c =
    let m = c in
    let s = m in
    let a = s.args in
    sheet_told a.settings.now a.held (λ s. get_or a.old.now s 0) a.g m.sets-sets.result m.needs-needs.result
    m.caps-caps.result m.costs-costs.result a.sheet.now s.requires.settings s.requires.held_bound
    m.sets-sets.ensures m.needs-needs.ensures m.caps-caps.ensures m.costs-costs.ensures s.requires.sheet_value

pub returns : goal.returns
returns c =
    let m = c in
    let a = m.args in
    answer_for a.settings.now a.held (λ s. get_or a.old.now s 0) a.g m.sets-sets.result m.needs-needs.result
    m.caps-caps.result m.costs-costs.result m.sets-sets.ensures m.needs-needs.ensures m.caps-caps.ensures
    m.costs-costs.ensures c.least.ensures
