-- `report_cuts::shared_part` meets its contract, test by test.
use Prim.Native.Nat.{ℕ, min}
use mathlib.Core.Path.{ap, ◌∙◌}
use Rattle.report_views.specs.Definitions.{pos}
use Rattle.report_cuts.specs.Walks.{part_apart, part_earlier, part_later, part_none, part_target}
use Rattle.report_cuts.proofs.shared_part.Goals as goal

pub returns-then-v-w : goal.returns-then-v-w
returns-then-v-w c = let x = c.args in
    part_apart x.a x.r x.q x.t c.if-v-w.true

pub returns-then-w-u : goal.returns-then-w-u
returns-then-w-u c = let x = c.args in
    ap (λ (k : ℕ). pos x.r.view.0 k) c.min.ensures ∙ part_earlier x.a x.r x.q x.t c.if-v-w.false c.if-w-u.true

pub returns-then-w-u-2 : goal.returns-then-w-u-2
returns-then-w-u-2 c = let x = c.args in
    part_later x.a x.r x.q x.t c.if-w-u.false c.if-w-u-2.true

pub returns-then-t-lt1 : goal.returns-then-t-lt1
returns-then-t-lt1 c = let x = c.args in
    part_none x.a x.r x.q x.t c.if-w-u.false c.if-t-lt1.true

pub returns : goal.returns
returns c = let x = c.args in
    ap (λ (k : ℕ). pos x.r.view.0 k) (c.min-3.ensures ∙ ap (min x.r.k) c.min-2.ensures)
    ∙ part_target x.a x.r x.q x.t c.if-v-w.false c.if-w-u-2.false c.if-t-lt1.false
