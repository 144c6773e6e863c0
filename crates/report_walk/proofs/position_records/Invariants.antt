use Rattle.std.proofs.Common.{◌≡◌, ℕ, ◌+◌, ◌*◌, ◌<◌, length, get_or}
use Rattle.report_views.specs.Definitions.{start}
use Rattle.report_walk.proofs.position_records.Given as goal

abbrev pub invariant-loop-s : goal.invariant-loop-s
invariant-loop-s l = (length l.list ≡ 32) × ((j : ℕ) → j < l.s → (get_or l.list (2 * j) 0 ≡ 512 + j + 4294967296 * (get_or l.positions j start).view.0) × (get_or l.list (2 * j + 1) 0 ≡ (get_or l.positions j start).k + 4294967296 * (l.count + j + 2))) × ((j : ℕ) → j < l.s → (get_or l.positions j start).k < 4294967296)
