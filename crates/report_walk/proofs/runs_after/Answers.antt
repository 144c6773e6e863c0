-- `report_walk::runs_after` meets its contract.
use Rattle.std.proofs.Common.{sym, refl, ◌∙◌, inl, inr, arith}
use Rattle.report_walk.specs.Seen.{RunsAfter}
use Rattle.report_walk.specs.Told.{told_more}
use Rattle.report_walk.proofs.runs_after.Goals as goal

pub returns-then-next-lt1 : goal.returns-then-next-lt1
unfolding RunsAfter
returns-then-next-lt1 c = (omega (arith, c.requires.1), inl (refl, omega (arith, c.high-next.ensures, c.if-next-lt1.true), refl))

pub returns : goal.returns
unfolding RunsAfter
returns c = told_more c.runs_told.result (λ i h. (h.0, inr (sym c.high-next.ensures ∙ c.if-next-at.false, h.1))) c.runs_told.ensures
