-- `place_layout::owned_by` meets its contract. The invariant: the mask has the nodes below n that the shard owns. Assumes nothing.
use Prim.Native.Nat.{ℕ}
use mathlib.Core.Path.{sym, ap, ◌∙◌}
use mathlib.Core.Bool.{Bool}
use mathlib.Core.List.{List}
use native.Mathlib.Nat.{le_antisymm}
use native.Mathlib.Omega.{arith}
use lib.Dec.{eqb}
use Rattle.search_laws.specs.Tables.{owners_of}
use Rattle.base_sum_laws.specs.Definitions.{mask_below}
use Rattle.base_sum_laws.specs.Picked.{mask_none, mask_turn}
use Rattle.place_laws.specs.Adding.{owned_by}
use Rattle.place_layout.proofs.owned_by.Goals as goal

-- shard s owns node n
abbrev owns : List ℕ → ℕ → ℕ → Bool
owns o s n = eqb (owners_of o n) s

pub loop-n-init : goal.loop-n-init
loop-n-init c = let a = c.args in sym (mask_none (owns a.owners.now a.s.0))

pub loop-n-preserved : goal.loop-n-preserved
loop-n-preserved c =
    let a = c.args in
    let l = c.loop-n in mask_turn l.n l.mask c.with_node-mask.result (owns a.owners.now a.s.0) l.invariant c.with_node-mask.ensures

pub returns : goal.returns
unfolding owned_by
returns c =
    let a = c.args in
    let l = c.loop-n in l.invariant ∙ ap (λ (k : ℕ). mask_below k (owns a.owners.now a.s.0)) (le_antisymm (omega arith) (omega arith))
