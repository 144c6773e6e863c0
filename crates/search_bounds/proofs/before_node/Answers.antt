-- The shifted 1 is 2 ^ n, since nothing is shifted out. Assumes nothing.
use mathlib.Core.Path.{ap}
use Prim.Native.Nat.{ℕ, ◌-◌}
use native.Mathlib.Omega.{arith}
use lib.Pow.{pow_pos}
use Rattle.base_laws.specs.Masks.{shl-single}
use Rattle.search_bounds.proofs.before_node.Goals as goal

pub overflow_sub-result : goal.overflow_sub-result
overflow_sub-result c = omega (arith, shl-single 32 c.args.n (omega (arith, c.requires)), pow_pos c.args.n)

pub returns : goal.returns
returns c = ap (λ (x : ℕ). x - 1) (shl-single 32 c.args.n (omega (arith, c.requires)))
