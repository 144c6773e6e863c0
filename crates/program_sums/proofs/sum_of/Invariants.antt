use Prim.Native.Nat.{◌+◌}
use mathlib.Core.Path.{◌≡◌}
use Rattle.std.specs.Slice.Iter.{chunks_rest, chunks_size}
use Rattle.program_sums.specs.Definitions.{sum_of}
use Rattle.program_sums.proofs.sum_of.Given as goal

abbrev pub invariant-loop-few : goal.invariant-loop-few
invariant-loop-few l = (chunks_size l.few-iterator ≡ 256) × (l.sum + sum_of (chunks_rest l.few-iterator) ≡ sum_of l.bytes)
