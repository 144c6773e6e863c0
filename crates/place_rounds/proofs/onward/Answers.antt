-- `place_rounds::onward` meets its contract: at the floor none is better, and else the rounds are those on the table where a move costs 1.
-- Assumes nothing.
use mathlib.Core.Bool.{true≢false}
use mathlib.Core.List.{List}
use mathlib.Core.Path.{sym, subst}
use Prim.Native.Nat.{ℕ}
use Rattle.std.proofs.Common.{Some}
use Rattle.search_laws.specs.Tables.{case_of}
use Rattle.search_total.specs.Post.{as_solution}
use Rattle.search_rounds.specs.Post.{Low, Weighed, Improved, as_improvement, start, way_start, way_low}
use Rattle.place_rounds.proofs.onward.Goals as goal

pub returns-then-first-floor : goal.returns-then-first-floor
returns-then-first-floor c =
    let p = c.requires in
    record { standing = p.weighed; steps = start; stuck = λ e. way_low {n = 0} (way_start p.weighed) p.low c.if-first-floor.true; out = λ e. absurd (true≢false e) }

pub better-requires : goal.better-requires
better-requires c =
    let m = c in
    let a = m.args in
    let e = c.repriced_table-counted.ensures in record { low = subst (λ (t : List ℕ). Low (case_of a.sets.now a.needs.now a.caps.now t 0) a.floor) (sym e) m.requires.low; weighed = subst (λ (t : List ℕ). Weighed (case_of a.sets.now a.needs.now a.caps.now t 0) (as_solution (Some a.first))) (sym e) m.requires.weighed }

pub returns : goal.returns
returns c =
    let a = c.args in
    subst (λ (t : List ℕ). Improved (case_of a.sets.now a.needs.now a.caps.now t 0) a.rounds (as_solution (Some a.first)) (as_improvement c.better.result))
    c.repriced_table-counted.ensures c.better.ensures
