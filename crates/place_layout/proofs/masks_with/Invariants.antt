use Prim.Native.Nat.{ℕ}
use mathlib.Core.Path.{◌≡◌}
use mathlib.Core.List.{List}
use lib.ListN.{get_or, replicate}
use Rattle.base_laws.specs.Tables.{filled}
use Rattle.place_laws.specs.Adding.{mask_with}
use Rattle.place_layout.proofs.masks_with.Given as goal

-- the mask of shard s
abbrev at : List ℕ → ℕ → List ℕ → List ℕ → ℕ → ℕ
at σ g o masks s = mask_with σ g o (get_or masks s 0) s

abbrev pub invariant-loop-s : goal.invariant-loop-s
invariant-loop-s l = l.all ≡ filled l.s (at l.settings l.g l.owners l.masks) (replicate 16 0)
