use Prim.Native.Nat.{ℕ, ◌+◌}
use mathlib.Core.List.{List}
use mathlib.Core.Path.{◌≡◌}
use lib.ListN.{get_or, replicate}
use Rattle.base_laws.specs.Tables.{filled}
use Rattle.base_ids.specs.declared.View.{View}
use Rattle.c_state_words.proofs.views_at.Given as goal

abbrev entry : List ℕ → ℕ → ℕ → View
entry w at n = record { 0 = get_or w (at + n) 0 }

abbrev pub invariant-loop-n : goal.invariant-loop-n
invariant-loop-n l = l.views ≡ filled l.n (entry l.words l.at) (replicate 32 (record { 0 = 0 }))
