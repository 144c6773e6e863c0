-- The loop's invariant: the mask has the nodes below n that are allowed. Assumes nothing.
use Prim.Native.Nat.{ℕ, ◌+◌, ◌*◌}
use mathlib.Core.Path.{sym, ap, ◌∙◌}
use mathlib.Core.Bool.{Bool}
use mathlib.Core.List.{List}
use native.Mathlib.Nat.{le_antisymm}
use lib.Dec.{ltb}
use lib.ListN.{get_or}
use Rattle.base_sum_laws.specs.Definitions.{mask_below}
use Rattle.base_sum_laws.specs.Picked.{mask_none, mask_turn}
use Rattle.search_hinted.proofs.allowed.Goals as goal

-- node n is allowed in shard i
abbrev fine : List ℕ → ℕ → ℕ → Bool
fine prices i n = ltb (get_or prices (i * 32 + n) 0) 255

pub loop-n-init : goal.loop-n-init
loop-n-init c = sym (mask_none (fine c.args.prices.now c.args.i))

pub loop-n-preserved : goal.loop-n-preserved
loop-n-preserved c = let l = c.loop-n in
    let a = c.args in mask_turn l.n l.m c.added-m.result (fine a.prices.now a.i) l.invariant c.added-m.ensures

pub returns : goal.returns
returns c = let l = c.loop-n in l.invariant ∙ ap (λ (k : ℕ). mask_below k (fine c.args.prices.now c.args.i)) (le_antisymm l.auto.n-end c.loop-n-test.false)
