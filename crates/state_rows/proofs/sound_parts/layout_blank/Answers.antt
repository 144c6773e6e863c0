use Rattle.report_views.specs.Definitions.{layout_blank}
use Rattle.report_views.specs.Shorthands.{all_zero}
use Rattle.std.proofs.Common.{◌≡◌, length, arith, ap, ◌∙◌}
use borrow.Author.Tests.{eq-eqb, ne_eqb}
use Rattle.state_rows.proofs.sound_parts.layout_blank.Goals as goal

pub returns-then-number-ne0 : goal.returns-then-number-ne0
unfolding layout_blank
returns-then-number-ne0 c = simp (ne_eqb _ _ c.if-number-ne0.true)

pub returns-then-v-ne0 : goal.returns-then-v-ne0
unfolding layout_blank
returns-then-v-ne0 c = simp (eq-eqb _ _ c.if-number-ne0.false, ne_eqb _ _ c.if-v-ne0.true)

pub returns : goal.returns
unfolding layout_blank
returns c =
    let a = c.args in
    let e : length a.v.masks ≡ 16 = omega arith in
    simp (eq-eqb _ _ c.if-number-ne0.false, eq-eqb _ _ c.if-v-ne0.false)
    (c.zeros.ensures ∙ ap (all_zero a.v.masks) e)
