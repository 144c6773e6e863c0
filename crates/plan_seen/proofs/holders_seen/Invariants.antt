use Prim.Native.Nat.{ℕ}
use mathlib.Core.Path.{◌≡◌}
use mathlib.Core.List.{List}
use lib.ListN.{replicate, get_or}
use Rattle.base_laws.specs.Tables.{filled}
use Rattle.base_ids.specs.declared.Node.{Node}
use Rattle.plan_seen.proofs.holders_seen.Given as goal

abbrev node_in : List ℕ → ℕ → Node
node_in list s = record { 0 = get_or list s 0 }

abbrev none : Node
none = record { 0 = 0 }

abbrev pub invariant-loop-s : goal.invariant-loop-s
invariant-loop-s l = l.holders ≡ filled l.s (node_in l.list) (replicate 16 none)
