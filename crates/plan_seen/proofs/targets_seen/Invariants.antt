use Prim.Native.Nat.{ℕ}
use mathlib.Core.Path.{◌≡◌}
use mathlib.Core.List.{List}
use lib.ListN.{replicate, get_or}
use Rattle.base_laws.specs.Tables.{filled}
use Rattle.base_ids.specs.declared.Position.{Position}
use Rattle.report_views.specs.Definitions.{start, position_at}
use Rattle.report_views.specs.declared.Termination.{Termination}
use Rattle.plan_seen.specs.Fold.{target_from}
use Rattle.plan_seen.proofs.targets_seen.Given as goal

abbrev target_in : Termination → List ℕ → ℕ → Position
target_in t tops s = target_from t.made (position_at t s) (get_or tops s 0)

abbrev pub invariant-loop-s : goal.invariant-loop-s
invariant-loop-s l = l.targets ≡ filled l.s (target_in l.t l.tops) (replicate 16 start)
