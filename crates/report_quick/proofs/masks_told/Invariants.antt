use Prim.Native.Nat.{ℕ, ◌<◌}
use mathlib.Core.Path.{◌≡◌}
use lib.ListN.{length, get_or}
use Rattle.report_quick.specs.Told.{mask_told}
use Rattle.report_quick.proofs.masks_told.Given as goal

abbrev pub invariant-loop-s : goal.invariant-loop-s
invariant-loop-s l = (length l.masks ≡ 16) × ((j : ℕ) → j < l.s → mask_told l.w j ≡ get_or l.masks j 0)
