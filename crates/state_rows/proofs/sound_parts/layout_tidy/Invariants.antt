use Prim.Native.Nat.{ℕ}
use mathlib.Core.Bool.{Bool, true, ◌||◌}
use mathlib.Core.List.{List}
use mathlib.Core.Path.{◌≡◌}
use lib.Dec.{eqb, ltb}
use lib.ListN.{get_or}
use Rattle.base_laws.specs.Definitions.{all_below}
use Rattle.settings_values.specs.Definitions.{shards}
use Rattle.report_views.specs.declared.Layout.{Layout}
use Rattle.state_rows.proofs.sound_parts.layout_tidy.Given as goal

abbrev ok : List ℕ → Layout → ℕ → Bool
ok σ v s = ltb s (shards σ) || eqb (get_or v.masks s 0) 0

abbrev pub invariant-loop-s : goal.invariant-loop-s
invariant-loop-s l = all_below l.s (ok l.settings l.v) ≡ true
