use Rattle.report_views.specs.Definitions.{marks_sound}
use mathlib.Core.Path.{sym}
use borrow.Author.Tests.{eq-eqb, ne_eqb}
use Rattle.state_rows.proofs.sound_parts.marks_sound.Goals as goal

pub returns-then-fetched-ne0 : goal.returns-then-fetched-ne0
unfolding marks_sound
returns-then-fetched-ne0 c = simp (c.in-Gathering.is, ne_eqb _ _ c.if-fetched-ne0.true)

pub returns-then-not-subset : goal.returns-then-not-subset
unfolding marks_sound
returns-then-not-subset c = simp (c.in-Ordered.is, sym c.if-not-subset.ensures)

pub returns-then-fetched-held : goal.returns-then-fetched-held
unfolding marks_sound
returns-then-fetched-held c = simp (c.in-Ordered.is, sym c.if-not-subset.ensures, eq-eqb _ _ c.if-fetched-held.true)

pub returns-then-fetched-held-2 : goal.returns-then-fetched-held-2
unfolding marks_sound
returns-then-fetched-held-2 c = simp (c.in-Preparing.is, ne_eqb _ _ c.if-fetched-held-2.true)

pub returns-then-not-subset-2 : goal.returns-then-not-subset-2
unfolding marks_sound
returns-then-not-subset-2 c = simp (c.in-Preparing.is, eq-eqb _ _ c.if-fetched-held-2.false, sym c.if-not-subset-2.ensures)

pub returns-then-fetched-held-3 : goal.returns-then-fetched-held-3
unfolding marks_sound
returns-then-fetched-held-3 c = simp (c.in-Committed.is, ne_eqb _ _ c.if-fetched-held-3.true)

pub returns-else-fetched-ne0 : goal.returns-else-fetched-ne0
unfolding marks_sound
returns-else-fetched-ne0 c = simp (c.in-Gathering.is, eq-eqb _ _ c.if-fetched-ne0.false)

pub returns-else-fetched-held : goal.returns-else-fetched-held
unfolding marks_sound
returns-else-fetched-held c = simp (c.in-Ordered.is, sym c.if-not-subset.ensures, ne_eqb _ _ c.if-fetched-held.false)

pub returns-else-not-subset-2 : goal.returns-else-not-subset-2
unfolding marks_sound
returns-else-not-subset-2 c = simp (c.in-Preparing.is, eq-eqb _ _ c.if-fetched-held-2.false, sym c.if-not-subset-2.ensures)

pub returns-else-fetched-held-3 : goal.returns-else-fetched-held-3
unfolding marks_sound
returns-else-fetched-held-3 c = simp (c.in-Committed.is, eq-eqb _ _ c.if-fetched-held-3.false)
