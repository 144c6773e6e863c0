use Prim.Native.Nat.{ℕ}
use mathlib.Core.List.{List}
use mathlib.Core.Path.{◌≡◌}
use lib.ListN.{replicate, get_or}
use Rattle.base_laws.specs.Tables.{filled}
use Rattle.base_ids.specs.declared.Node.{Node}
use Rattle.plan_masks.specs.Masks.{some_holder}
use Rattle.plan_masks.proofs.some_holders.Given as goal

abbrev node_in : ℕ → List ℕ → ℕ → Node
node_in held masks s = record { 0 = some_holder held (get_or masks s 0) }

abbrev none : Node
none = record { 0 = 0 }

abbrev pub invariant-loop-s : goal.invariant-loop-s
invariant-loop-s l = l.holders ≡ filled l.s (node_in l.held l.masks) (replicate 16 none)
