use Prim.Native.Nat.{ℕ}
use mathlib.Core.Path.{◌≡◌}
use mathlib.Core.List.{List}
use lib.ListN.{get_or, replicate}
use Rattle.base_laws.specs.Tables.{filled}
use Rattle.place_rounds.specs.Tables.{repriced}
use Rattle.place_rounds.proofs.repriced_table.Given as goal

-- the cost at t
abbrev at : ℕ → List ℕ → ℕ → ℕ
at w costs t = repriced w (get_or costs t 0)

abbrev pub invariant-loop-t : goal.invariant-loop-t
invariant-loop-t l = l.table ≡ filled l.t (at l.w l.costs) (replicate 512 0)
