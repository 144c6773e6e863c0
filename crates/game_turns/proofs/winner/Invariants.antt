use Prim.Native.Nat.{◌-◌, ◌*◌}
use mathlib.Core.Bool.{true}
use mathlib.Core.Path.{◌≡◌}
use Rattle.base_laws.specs.Definitions.{all_below}
use Rattle.game_rules.specs.Turns.{survives}
use Rattle.game_turns.specs.Table.{plan_at}
use Rattle.game_turns.proofs.winner.Given as goal

abbrev pub invariant-loop-o : goal.invariant-loop-o
invariant-loop-o l = all_below l.o (survives l.nodes (plan_at l.table) (2 * l.rounds - 1) l.held) ≡ true
