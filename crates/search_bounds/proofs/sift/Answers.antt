-- The loop's invariant: of the nodes that are not to be looked at any more, none asks too little, and those that were dropped ask too much. Assumes nothing.
use Prim.Native.Nat.{ℕ, ◌+◌, ◌*◌, ◌<◌, min}
use mathlib.Core.Path.{sym, subst, subst₂}
use mathlib.Core.List.{List}
use native.Mathlib.Omega.{arith}
use borrow.Author.Tests.{ltb-true}
use lib.ListN.{get_or}
use Rattle.base_laws.specs.Definitions.{count}
use Rattle.base_laws.proofs.Masks.{count_cleared}
use Rattle.search_bounds.specs.Rows.{Sifting, sift_start, sift_turn, sift_end}
use Rattle.search_bounds.proofs.sift.Goals as goal

-- what node n asks of shard i
abbrev ask : List ℕ → List ℕ → ℕ → List ℕ → List ℕ → ℕ → ℕ → ℕ
ask sets costs want nodes pairs i n = get_or costs (i * 32 + n) 0 + min want (get_or pairs (i * 16 + get_or sets n 0) 0) + get_or nodes n 0

pub loop-m-init : goal.loop-m-init
loop-m-init c = sift_start _ _ _ _ _

pub loop-m-smaller : goal.loop-m-smaller
loop-m-smaller c = let l = c.loop-m in
    let n = c.lowest-n in
    subst (λ (r : ℕ). count r < count l.m) (sym c.without-m.ensures) (omega (arith, count_cleared l.m n.result n.ensures.0))

pub loop-m-preserved : goal.loop-m-preserved
loop-m-preserved c = let s = c in
    let l = c.loop-m in
    let n = c.lowest-n in
    let x = c.asks-x in
    subst₂ (λ (a b : ℕ). Sifting (ask s.args.sets.now s.args.costs.now s.args.want s.args.nodes.now s.args.pairs.now s.args.i) s.args.row s.args.from s.args.least s.args.most a b)
    (sym c.without-m.ensures) (sym c.dropped-kept.ensures)
    (sift_turn (ask s.args.sets.now s.args.costs.now s.args.want s.args.nodes.now s.args.pairs.now s.args.i) s.args.row s.args.from s.args.least s.args.most
    n.result x.result _ n.ensures.0 x.ensures.0 c.if-x-least.false (λ e. ltb-true _ _ e) l.invariant)

pub returns : goal.returns
returns c = sift_end _ _ _ _ _ (omega (arith, c.loop-m-test.false)) c.loop-m.invariant
