-- `report_desk::slots::report_fits` meets its contract, test by test.
use mathlib.Core.Path.{sym}
use borrow.Author.Tests.{eq-eqb, ne_eqb, le-leb, lt-leb}
use Rattle.report_desk.specs.SlotsOf.{report_fits}
use Rattle.report_desk.proofs.slots.report_fits.Goals as goal

pub returns-then-own-node : goal.returns-then-own-node
unfolding report_fits
returns-then-own-node c = simp (ne_eqb _ _ c.if-own-node.true)

pub returns-then-number-view : goal.returns-then-number-view
unfolding report_fits
returns-then-number-view c = simp (eq-eqb _ _ c.if-own-node.false, lt-leb _ _ c.if-number-view.true)

pub returns-then-not-row12 : goal.returns-then-not-row12
unfolding report_fits
returns-then-not-row12 c = simp (eq-eqb _ _ c.if-own-node.false, le-leb _ _ c.if-number-view.false, sym c.row12.ensures, c.if-not-row12.true)

pub returns-then-not-row13 : goal.returns-then-not-row13
unfolding report_fits
returns-then-not-row13 c = simp (eq-eqb _ _ c.if-own-node.false, le-leb _ _ c.if-number-view.false, sym c.row12.ensures, c.if-not-row12.false, sym c.row13.ensures, c.if-not-row13.true)

pub returns : goal.returns
unfolding report_fits
returns c = simp (eq-eqb _ _ c.if-own-node.false, le-leb _ _ c.if-number-view.false, sym c.row12.ensures, c.if-not-row12.false, sym c.row13.ensures, c.if-not-row13.false, sym c.term_kept.ensures)
