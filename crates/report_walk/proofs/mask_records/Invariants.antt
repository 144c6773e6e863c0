use Rattle.std.proofs.Common.{◌≡◌, ℕ, ◌+◌, ◌*◌, ◌<◌, length, get_or}
use Rattle.report_walk.proofs.mask_records.Given as goal

abbrev pub invariant-loop-s : goal.invariant-loop-s
invariant-loop-s l = (length l.list ≡ 32) × ((j : ℕ) → j < l.s → (get_or l.list (2 * j) 0 ≡ 256 + j + 4294967296 * get_or l.masks j 0) × (get_or l.list (2 * j + 1) 0 ≡ 4294967296 * (j + 2)))
