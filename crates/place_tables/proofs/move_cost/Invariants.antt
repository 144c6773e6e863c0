use Prim.Native.Nat.{ℕ, ◌+◌, ◌*◌, ◌-◌, ◌≤◌}
use mathlib.Core.Path.{◌≡◌}
use mathlib.Core.List.{List}
use Rattle.base_sum_laws.specs.Definitions.{sum_below}
use Rattle.place_laws.specs.Cases.{need_in, cap_in}
use Rattle.place_tables.proofs.move_cost.Given as goal

abbrev spares : List ℕ → ℕ → ℕ → ℕ
spares σ g s = cap_in σ g s - need_in σ g s

abbrev pub invariant-loop-s : goal.invariant-loop-s
invariant-loop-s l = (l.cost ≡ 1 + sum_below l.s (spares l.settings l.g)) × (l.cost ≤ 1 + 15 * l.s)
