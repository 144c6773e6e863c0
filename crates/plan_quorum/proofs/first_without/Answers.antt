-- `plan_quorum::first_without` meets its contract. The invariant: every shard below s has a holder.
use Prim.Native.Nat.{ℕ}
use mathlib.Core.Bool.{Bool}
use mathlib.Core.List.{List}
use mathlib.Core.Path.{◌≡◌, sym}
use native.Mathlib.Omega.{arith}
use lib.Dec.{eqb}
use borrow.Author.Tests.{eq-eqb, ne_eqb}
use Rattle.base_laws.specs.Below.{any_none, any_more, lowest_none}
use Rattle.base_laws.proofs.Below.{lowest_at}
use Rattle.base_ids.specs.declared.Node.{Node}
use Rattle.report_views.specs.Definitions.{node_at}
use Rattle.plan_quorum.specs.Quorum.{first_without}
use Rattle.plan_quorum.proofs.first_without.Goals as goal

abbrev without : List Node → ℕ → Bool
without holders s = eqb (node_at holders s) 32

pub loop-s-init : goal.loop-s-init
loop-s-init c = any_none (without c.args.holders)

pub returns-then-holder-eq32 : goal.returns-then-holder-eq32
unfolding first_without
returns-then-holder-eq32 c = let a = c.args in
    let l = c.loop-s in
    sym (lowest_at a.count (without a.holders) l.s c.loop-s-test.true l.invariant (eq-eqb _ _ c.if-holder-eq32.true))

pub loop-s-preserved : goal.loop-s-preserved
loop-s-preserved c = let a = c.args in
    let l = c.loop-s in any_more l.s (without a.holders) l.invariant (ne_eqb _ _ c.if-holder-eq32.false)

pub returns : goal.returns
unfolding first_without
returns c = let a = c.args in
    let l = c.loop-s in
    let z : l.s ≡ a.count = omega arith in
    sym (lowest_none a.count (without a.holders) (rw z at l.invariant))
