-- By whether the end of the list was tried. Assumes nothing.
use Prim.Native.Nat.{ℕ, ◌%◌}
use mathlib.Core.Path.{◌≡◌}
use native.Mathlib.Omega.{arith}
use Rattle.search_hinted.proofs.step.Goals as goal

odd : (p : ℕ) → (p % 2 ≡ 0 → ⊥) → p % 2 ≡ 1
odd p e = omega arith

pub ended-requires : goal.ended-requires
ended-requires c = let s = c in record { p_bound = s.requires.p_bound; p_value = c.if-p-eq0.true; small = s.requires.small; «at» = s.requires.«at» }

pub decided-requires : goal.decided-requires
decided-requires c = let s = c in record { p_bound = s.requires.p_bound; p_value = odd s.args.p c.if-p-eq0.false; small = s.requires.small; «at» = s.requires.«at» }
