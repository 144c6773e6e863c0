use Rattle.report_views.specs.Definitions.{plan_blank}
use mathlib.Core.Path.{sym}
use borrow.Author.Tests.{eq-eqb, ne_eqb}
use Rattle.state_rows.proofs.sound_parts.plan_blank.Goals as goal

pub returns-then-not-layout_blank : goal.returns-then-not-layout_blank
unfolding plan_blank
returns-then-not-layout_blank c = simp (sym c.layout_blank.ensures, c.if-not-layout_blank.true)

pub returns-then-p-ne0 : goal.returns-then-p-ne0
unfolding plan_blank
returns-then-p-ne0 c = simp (sym c.layout_blank.ensures, c.if-not-layout_blank.false, ne_eqb _ _ c.if-p-ne0.true)

pub returns : goal.returns
unfolding plan_blank
returns c =
    let k = c.layout_blank in
    simp (sym k.ensures, c.if-not-layout_blank.false, eq-eqb _ _ c.if-p-ne0.false) c.shards_blank.ensures
