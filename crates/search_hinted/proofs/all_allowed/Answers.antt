-- The loop's invariant: the rows of the shards below i have each pair that is allowed of shards that may have nodes. Assumes nothing.
use Prim.Native.Nat.{ℕ}
use mathlib.Core.Path.{subst}
use native.Mathlib.Nat.{le_antisymm}
use native.Mathlib.Omega.{arith}
use lib.ListN.{length-replicate, get_or-replicate}
use Rattle.search_hinted.specs.Stage.{OpenBelow, open_none, open_more}
use Rattle.search_hinted.proofs.all_allowed.Goals as goal

pub loop-i-init : goal.loop-i-init
loop-i-init c = open_none (length-replicate {A = ℕ} 17 0) (get_or-replicate 17 16 0 0 (omega arith))

pub loop-i-preserved : goal.loop-i-preserved
loop-i-preserved c = open_more c.loop-i-test.true c.loop-i.invariant c.allowed_row.ensures

pub returns : goal.returns
returns c = subst (λ (k : ℕ). OpenBelow c.args.caps.now c.args.prices.now k c.loop-i.rows) (le_antisymm c.loop-i.auto.i-end c.loop-i-test.false) c.loop-i.invariant
