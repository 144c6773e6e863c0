-- `report_kept::take_in` meets its contract: at once where that is told, or else by reading. Assumes nothing.
use mathlib.Core.Path.{◌∙◌}
use native.Mathlib.Omega.{arith}
use Rattle.report_kept.proofs.take_in.Goals as goal

pub taken_at_once-requires : goal.taken_at_once-requires
taken_at_once-requires c = let s = c in
    (omega (arith, s.requires.tables_of.count, s.requires.settings.sizes.shards_from), omega (arith, s.requires.tables_of.count, s.requires.settings.sizes.shards_to))

pub bounds-message-0 : goal.bounds-message-0
bounds-message-0 c = let s = c in
    let a = s.args in
    omega (arith, (c.taken_at_once.ensures c.if-taken_at_once.true a.settings.now a.v a.t s.requires.settings s.requires.tables_of).some)

pub returns-then-taken_at_once : goal.returns-then-taken_at_once
returns-then-taken_at_once c = let s = c in
    let a = s.args in
    c.kept_stays.ensures ∙ (c.taken_at_once.ensures c.if-taken_at_once.true a.settings.now a.v a.t s.requires.settings s.requires.tables_of).stays
