use mathlib.Core.Bool.{false}
use mathlib.Core.Path.{◌≡◌}
use Rattle.base_laws.specs.Definitions.{any_below}
use Rattle.game_rules.specs.Turns.{absent}
use Rattle.game_turns.proofs.some_absent.Given as goal

abbrev pub invariant-loop-b : goal.invariant-loop-b
invariant-loop-b l = any_below l.b (absent l.held l.taken) ≡ false
