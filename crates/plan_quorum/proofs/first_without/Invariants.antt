use Prim.Native.Nat.{ℕ}
use mathlib.Core.Bool.{Bool, false}
use mathlib.Core.List.{List}
use mathlib.Core.Path.{◌≡◌}
use lib.Dec.{eqb}
use Rattle.base_laws.specs.Definitions.{any_below}
use Rattle.base_ids.specs.declared.Node.{Node}
use Rattle.report_views.specs.Definitions.{node_at}
use Rattle.plan_quorum.proofs.first_without.Given as goal

abbrev without : List Node → ℕ → Bool
without holders s = eqb (node_at holders s) 32

abbrev pub invariant-loop-s : goal.invariant-loop-s
invariant-loop-s l = any_below l.s (without l.holders) ≡ false
