-- The loop's invariant: the mask has those of the nodes below n. Assumes nothing.
use Prim.Native.Nat.{ℕ, ◌+◌}
use mathlib.Core.Path.{sym, ap, ◌∙◌}
use mathlib.Core.Bool.{Bool, cond}
use mathlib.Core.List.{List}
use native.Mathlib.Nat.{le_antisymm}
use lib.Dec.{ltb}
use lib.ListN.{get_or}
use Rattle.base_laws.specs.Definitions.{with}
use Rattle.base_sum_laws.specs.Definitions.{mask_below}
use Rattle.base_sum_laws.specs.Picked.{mask_none, mask_turn}
use Rattle.search_bounds.proofs.must.Goals as goal

-- node n's bound, placed nowhere, is above what is allowed
abbrev above : List ℕ → ℕ → ℕ → ℕ → ℕ → Bool
above nodes idle low high n = ltb (low + 16384) (high + (idle + get_or nodes n 0))

pub loop-n-init : goal.loop-n-init
loop-n-init c = let a = c.args in sym (mask_none (above a.nodes.now a.idle a.low a.high))

pub loop-n-preserved : goal.loop-n-preserved
loop-n-preserved c = let l = c.loop-n in
    let a = c.args in mask_turn l.n l.m c.added-m.result (above a.nodes.now a.idle a.low a.high) l.invariant
    (c.added-m.ensures ∙ ap (λ (x : ℕ). cond (ltb (a.low + 16384) (a.high + x)) (with l.m l.n) l.m) c.rests.ensures.0)

pub returns : goal.returns
returns c = let l = c.loop-n in
    let a = c.args in l.invariant ∙ ap (λ (k : ℕ). mask_below k (above a.nodes.now a.idle a.low a.high)) (le_antisymm l.auto.n-end c.loop-n-test.false)
