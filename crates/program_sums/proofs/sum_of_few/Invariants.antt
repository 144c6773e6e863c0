use Prim.Native.Nat.{◌≤◌, ◌*◌}
use mathlib.Core.Path.{◌≡◌}
use lib.ListN.{take}
use Rattle.program_sums.specs.Definitions.{sum_of}
use Rattle.program_sums.proofs.sum_of_few.Given as goal

abbrev pub invariant-loop-x : goal.invariant-loop-x
invariant-loop-x l = (l.sum ≤ 255 * l.x-index) × (l.sum ≡ sum_of (take l.x-index l.bytes))
