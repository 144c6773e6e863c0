-- `place_layout::has_shards` meets its contract. The invariant: no shard below s is of the subgroup. Assumes nothing.
use Prim.Native.Nat.{ℕ}
use mathlib.Core.Path.{◌≡◌, sym, ap, ◌∙◌}
use native.Mathlib.Omega.{arith}
use Rattle.base_laws.specs.Definitions.{any_below}
use Rattle.base_laws.specs.Below.{any_none, any_more, any_at}
use Rattle.place_groups.specs.Definitions.{of_group}
use Rattle.place_layout.proofs.has_shards.Goals as goal

pub loop-s-init : goal.loop-s-init
loop-s-init c = let a = c.args in any_none (of_group a.settings.now a.g)

pub returns-then-in_group : goal.returns-then-in_group
returns-then-in_group c =
    let a = c.args in
    let l = c.loop-s in
    sym (any_at 16 (of_group a.settings.now a.g) l.s (omega arith) (sym c.in_group.ensures ∙ c.if-in_group.true))

pub loop-s-preserved : goal.loop-s-preserved
loop-s-preserved c =
    let a = c.args in
    let l = c.loop-s in any_more l.s (of_group a.settings.now a.g) l.invariant (sym c.in_group.ensures ∙ c.if-in_group.false)

pub returns : goal.returns
returns c =
    let a = c.args in
    let l = c.loop-s in
    let e : l.s ≡ 16 = omega arith in sym l.invariant ∙ ap (λ (n : ℕ). any_below n (of_group a.settings.now a.g)) e
