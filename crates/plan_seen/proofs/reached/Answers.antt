-- `plan_seen::reached` meets its contract, test by test.
use mathlib.Core.Path.{sym, ap, ◌∙◌, subst}
use Prim.Native.Nat.{ℕ, ◌<◌, ◌≤◌, ◌/◌, ◌%◌}
use mathlib.Core.Bool.{not}
use Rattle.base_laws.specs.Bools.{or_left, or_right, or_neither, of_not_false}
use Rattle.report_walk.specs.Updates.{update_seen}
use Rattle.plan_seen.specs.Steps.{end_looked}
use Rattle.plan_seen.proofs.reached.Goals as goal

pub returns-then-not-turn : goal.returns-then-not-turn
returns-then-not-turn c = λ body p told. sym (or_left _ c.if-not-turn.true)

pub returns-then-x-y : goal.returns-then-x-y
returns-then-x-y c = let a = c.args in
    λ body p told. sym (or_right (not a.turn.made) (told.same (c.if-x-y.true ∙ c.goal_at-y.ensures)))

pub returns-then-x-y-2 : goal.returns-then-x-y-2
returns-then-x-y-2 c = let a = c.args in
    λ body p told. sym (or_neither c.if-not-turn.false
    (told.before (subst (λ (y : ℕ). a.x < y) c.goal_at-y.ensures c.if-x-y-2.true)))

pub returns-then-y-ge1 : goal.returns-then-y-ge1
returns-then-y-ge1 c = let a = c.args in
    let e = c.goal_at-y.ensures in
    λ body p told. sym (or_right (not a.turn.made)
    (told.within (subst (λ (y : ℕ). y ≤ a.x) e c.if-x-y-2.false) (c.if-x-y-3.true ∙ ap (λ (y : ℕ). y / 4294967296) e) (subst (λ (y : ℕ). 1 ≤ y % 4294967296) e c.if-y-ge1.true)))

pub returns : goal.returns
returns c = let s = c in
    let a = s.args in
    let g = c.goal_at-y in
    λ body p told.
    c.has_update.ensures ∙ ap (λ (y : ℕ). update_seen a.b.now a.turn.last a.s y) g.ensures
    ∙ end_looked a.b.now body a.turn.last a.s p a.x _ told s.requires.1 a.turn.made (of_not_false a.turn.made c.if-not-turn.false)
