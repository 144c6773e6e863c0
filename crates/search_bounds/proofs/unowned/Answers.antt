-- The loop's invariant: the mask has the nodes below n without an owner. Assumes nothing.
use Prim.Native.Nat.{ℕ}
use mathlib.Core.Path.{sym, ap, ◌∙◌}
use mathlib.Core.Bool.{Bool}
use mathlib.Core.List.{List}
use native.Mathlib.Nat.{le_antisymm}
use lib.Dec.{leb}
use lib.ListN.{get_or}
use Rattle.base_sum_laws.specs.Definitions.{mask_below}
use Rattle.base_sum_laws.specs.Picked.{mask_none, mask_turn}
use Rattle.search_bounds.proofs.unowned.Goals as goal

-- node n has no owner
abbrev bare : List ℕ → ℕ → Bool
bare o n = leb 16 (get_or o n 0)

pub loop-n-init : goal.loop-n-init
loop-n-init c = sym (mask_none (bare c.args.owner.now))

pub loop-n-preserved : goal.loop-n-preserved
loop-n-preserved c = let l = c.loop-n in mask_turn l.n l.m c.added-m.result (bare c.args.owner.now) l.invariant c.added-m.ensures

pub returns : goal.returns
returns c = let l = c.loop-n in l.invariant ∙ ap (λ (k : ℕ). mask_below k (bare c.args.owner.now)) (le_antisymm l.auto.n-end c.loop-n-test.false)
