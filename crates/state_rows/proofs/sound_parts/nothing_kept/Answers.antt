use Rattle.report_views.specs.Definitions.{nothing_kept}
use mathlib.Core.Path.{sym}
use borrow.Author.Tests.{eq-eqb, ne_eqb}
use Rattle.state_rows.proofs.sound_parts.nothing_kept.Goals as goal

pub returns-then-not-layout_blank : goal.returns-then-not-layout_blank
unfolding nothing_kept
returns-then-not-layout_blank c = simp (sym c.layout_blank.ensures, c.if-not-layout_blank.true)

pub returns-then-held-ne0 : goal.returns-then-held-ne0
unfolding nothing_kept
returns-then-held-ne0 c = simp (sym c.layout_blank.ensures, c.if-not-layout_blank.false, ne_eqb _ _ c.if-held-ne0.true)

pub returns : goal.returns
unfolding nothing_kept
returns c = simp (sym c.layout_blank.ensures, c.if-not-layout_blank.false, eq-eqb _ _ c.if-held-ne0.false)
