use Prim.Native.Nat.{ℕ, ◌+◌}
use mathlib.Core.List.{List}
use mathlib.Core.Path.{◌≡◌}
use lib.ListN.{get_or, replicate}
use Rattle.base_laws.specs.Tables.{filled}
use Rattle.c_state_words.proofs.sixteen.Given as goal

abbrev word : List ℕ → ℕ → ℕ → ℕ
word w at s = get_or w (at + s) 0

abbrev pub invariant-loop-s : goal.invariant-loop-s
invariant-loop-s l = l.out ≡ filled l.s (word l.words l.at) (replicate 16 0)
