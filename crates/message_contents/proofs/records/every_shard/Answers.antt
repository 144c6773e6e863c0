-- `message_contents::records::every_shard` meets its contract: the shifted 1 is 2 ^ S, which is not 0.
use mathlib.Core.Path.{ap}
use Prim.Native.Nat.{ℕ, ◌-◌, ◌^◌}
use native.Mathlib.Omega.{arith}
use lib.Pow.{pow_pos}
use Rattle.base_laws.specs.Masks.{shl-single}
use Rattle.message_contents.proofs.records.every_shard.Goals as goal

pub overflow_sub-result : goal.overflow_sub-result
overflow_sub-result c = rw (shl-single 32 c.shards.result (omega arith)) (pow_pos c.shards.result)

pub returns : goal.returns
returns c = rw (shl-single 32 c.shards.result (omega arith)) (ap (λ (n : ℕ). 2 ^ n - 1) c.shards.ensures)
