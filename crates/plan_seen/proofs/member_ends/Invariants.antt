use Prim.Native.Nat.{ℕ, ◌<◌}
use mathlib.Core.Path.{◌≡◌}
use lib.ListN.{length, get_or}
use Rattle.plan_seen.specs.Quick.{EndIs}
use Rattle.plan_seen.proofs.member_ends.Given as goal

abbrev pub invariant-loop-s : goal.invariant-loop-s
invariant-loop-s l = (length l.ends ≡ 16) × ((j : ℕ) → j < l.s → EndIs l.masks l.b l.last l.node.0 j (get_or l.ends j 0))
