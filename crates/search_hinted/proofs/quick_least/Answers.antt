-- The sheet tells where there is none by a row that is too short; else by the claim. Assumes nothing.
use mathlib.Core.Path.{refl, sym, ◌∙◌}
use Rattle.search_laws.specs.Floor.{short_at, too_few}
use Rattle.search_laws.proofs.Floor.{sheet_none}
use Rattle.search_total.specs.Answers.{least_none}
use Rattle.search_hinted.proofs.quick_least.Goals as goal

pub returns-then-short : goal.returns-then-short
unfolding too_few short_at
returns-then-short c = least_none (sheet_none c.requires (sym c.short.ensures ∙ c.if-short.true)) (record { exists = refl; weight = refl; owners = refl })

pub by_claim-requires : goal.by_claim-requires
by_claim-requires c = c.fit.ensures (c.if-not-fit.false)
