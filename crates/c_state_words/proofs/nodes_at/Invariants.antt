use Prim.Native.Nat.{ℕ, ◌+◌}
use mathlib.Core.List.{List}
use mathlib.Core.Path.{◌≡◌}
use lib.ListN.{get_or, replicate}
use Rattle.base_laws.specs.Tables.{filled}
use Rattle.base_ids.specs.declared.Node.{Node}
use Rattle.c_state_words.proofs.nodes_at.Given as goal

abbrev node : List ℕ → ℕ → ℕ → Node
node w at s = record { 0 = get_or w (at + s) 0 }

abbrev pub invariant-loop-s : goal.invariant-loop-s
invariant-loop-s l = l.nodes ≡ filled l.s (node l.words l.at) (replicate 16 (record { 0 = 0 }))
