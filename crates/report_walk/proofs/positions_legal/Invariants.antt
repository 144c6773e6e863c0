use Rattle.std.proofs.Common.{◌≡◌, ℕ, Bool, true, List, get_or}
use Rattle.base_laws.specs.Definitions.{all_below}
use Rattle.base_ids.specs.declared.Position.{Position}
use Rattle.report_views.specs.Definitions.{start, position_sound}
use Rattle.report_walk.proofs.positions_legal.Given as goal

abbrev ok : ℕ → List Position → ℕ → Bool
ok number positions s = position_sound number (get_or positions s start)

abbrev pub invariant-loop-s : goal.invariant-loop-s
invariant-loop-s l = all_below l.s (ok l.number.0 l.positions) ≡ true
