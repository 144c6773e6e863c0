use Prim.Native.Nat.{ℕ, ◌+◌, ◌*◌}
use mathlib.Core.List.{List}
use mathlib.Core.Path.{◌≡◌}
use lib.ListN.{get_or, replicate}
use Rattle.base_laws.specs.Tables.{filled}
use Rattle.base_ids.specs.declared.Position.{Position}
use Rattle.report_views.specs.Definitions.{pos, start}
use Rattle.c_state_words.proofs.positions_at.Given as goal

abbrev place : List ℕ → ℕ → ℕ → Position
place w at s = pos (get_or w (at + 2 * s) 0) (get_or w (at + 2 * s + 1) 0)

abbrev pub invariant-loop-s : goal.invariant-loop-s
invariant-loop-s l = l.positions ≡ filled l.s (place l.words l.at) (replicate 16 start)
