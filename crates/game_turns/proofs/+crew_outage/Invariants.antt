use Rattle.std.proofs.Common.{◌≡◌, ◌-◌, true, false}
use Rattle.base_laws.specs.Definitions.{all_below, any_below}
use Rattle.game_rules.specs.Turns.{saves, survives}
use Rattle.game_turns.specs.Table.{plan_at}
use Rattle.game_turns.proofs.+crew_outage.Given as goal

abbrev pub decreases-crew : goal.decreases-crew
decreases-crew l = l.left

abbrev pub decreases-outage : goal.decreases-outage
decreases-outage l = l.left

abbrev pub invariant-crew-loop-b : goal.invariant-crew-loop-b
invariant-crew-loop-b l = any_below l.b (saves l.nodes (plan_at l.table) (l.left - 1) l.held l.taken) ≡ false

abbrev pub invariant-outage-loop-o : goal.invariant-outage-loop-o
invariant-outage-loop-o l = all_below l.o (survives l.nodes (plan_at l.table) (l.left - 1) l.held) ≡ true
