-- A pair is left where it is not open, where its node has an owner, or where it is left for good; it is taken where its node is free. Assumes nothing.
use Prim.Native.Nat.{ℕ, ◌<◌, ◌+◌, ◌/◌}
use mathlib.Core.Path.{refl, sym, ◌∙◌, subst₂}
use mathlib.Core.List.{List}
use native.Mathlib.Omega.{arith}
use Rattle.search_laws.specs.Tables.{case_of}
use Rattle.search_hinted.specs.Stage.{Moved, stage_shut, stage_owned, advance_leave, advance_take, moved_next, moved_passed}
use Rattle.search_hinted.proofs.decided.Goals as goal

half : {p : ℕ} → p < 1024 → p / 2 < 512
half l = omega arith

pub returns-then-not-has : goal.returns-then-not-has
returns-then-not-has c =
    let s = c in
    let at = s.requires.«at» in
    let t = half s.requires.p_bound.0 in
    moved_passed at s.requires.p_bound.0 c.passed.result s.requires.p_value c.passed.ensures
    (advance_leave at.stage t (stage_shut at.stage t (sym c.has.ensures ∙ c.if-not-has.true)))

pub returns-then-owner-n-lt16 : goal.returns-then-owner-n-lt16
returns-then-owner-n-lt16 c =
    let s = c in
    let at = s.requires.«at» in
    let t = half s.requires.p_bound.0 in
    moved_passed at s.requires.p_bound.0 c.passed-then-owner-n-lt16.result s.requires.p_value c.passed-then-owner-n-lt16.ensures (advance_leave at.stage t (stage_owned at.stage t c.if-owner-n-lt16.true))

pub returns-then-take : goal.returns-then-take
returns-then-take c =
    let s = c in
    let at = s.requires.«at» in
    let took = c.take.ensures.bound c.if-take.true in
    let rest = c.take.ensures.rows_after c.if-take.true in
    subst₂ (λ (w v : List ℕ). Moved (case_of s.args.sets.now s.args.needs.now s.args.caps.now s.args.prices.now s.args.idle) s.args.k s.args.owner.now s.args.p w v (s.args.p + 1))
    (sym took.1) (sym rest) (moved_next at s.requires.p_bound.0 s.requires.p_value (advance_take at.stage (half s.requires.p_bound.0) (at.on s.requires.p_value) refl took.0))

pub leaves-requires : goal.leaves-requires
leaves-requires c = let s = c in
    record { t_bound = (half s.requires.p_bound.0, s.requires.p_bound.1); small = s.requires.small; narrowed = s.requires.«at».stage }

pub returns-then-leaves : goal.returns-then-leaves
returns-then-leaves c =
    let s = c in
    moved_passed s.requires.«at» s.requires.p_bound.0 c.passed-then-leaves.result s.requires.p_value c.passed-then-leaves.ensures (c.leaves.ensures c.if-leaves.true)
