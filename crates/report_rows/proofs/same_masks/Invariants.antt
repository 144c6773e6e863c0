use Prim.Native.Nat.{ℕ}
use mathlib.Core.Bool.{Bool, true}
use mathlib.Core.List.{List}
use mathlib.Core.Path.{◌≡◌}
use lib.Dec.{eqb}
use lib.ListN.{get_or}
use Rattle.base_laws.specs.Definitions.{all_below}
use Rattle.message_format.specs.Definitions.{members_of}
use Rattle.report_rows.proofs.same_masks.Given as goal

abbrev same : List ℕ → List ℕ → ℕ → Bool
same masks b s = eqb (members_of b s) (get_or masks s 0)

abbrev pub invariant-loop-s : goal.invariant-loop-s
invariant-loop-s l = all_below l.s (same l.masks l.body) ≡ true
