-- `state_rows::sound_plan::same_shards` meets its contract: The invariant: every shard below s agrees. Assumes nothing.
use Prim.Native.Nat.{ℕ}
use mathlib.Core.Bool.{Bool, ◌&&◌}
use mathlib.Core.List.{List}
use mathlib.Core.Path.{sym, ◌∙◌}
use native.Mathlib.Omega.{arith}
use lib.Dec.{eqb}
use lib.ListN.{get_or}
use Rattle.base_laws.specs.Below.{all_none}
use Rattle.base_laws.proofs.Below.{all_more, all_fails, all_fewer}
use Rattle.base_ids.specs.declared.Node.{Node}
use Rattle.base_ids.specs.declared.Position.{Position}
use Rattle.report_views.specs.declared.Plan.{Plan}
use Rattle.report_views.specs.Definitions.{start, node_at, same_position}
use Rattle.report_views.specs.PlanLaws.{same_shard}
use Rattle.plan_seen.specs.declared.Seen.{Seen}
use Rattle.state_rows.specs.Matches.{same_shards}
use Rattle.state_rows.proofs.sound_plan.same_shards.Goals as goal

abbrev same : List Node → List Position → List Node → List Position → ℕ → Bool
same holders targets others goals s = eqb (node_at holders s) (node_at others s) && same_position (get_or targets s start) (get_or goals s start)

abbrev ok : Plan → Seen → ℕ → Bool
ok p x = same p.holders p.targets x.holders x.targets

pub loop-s-init : goal.loop-s-init
loop-s-init c = let a = c.args in all_none (ok a.p a.seen)

pub returns-then-not-same_shard : goal.returns-then-not-same_shard
unfolding same_shards same_shard
returns-then-not-same_shard c = let a = c.args in
    let k = c.same_shard in
    sym (all_fails 16 (ok a.p a.seen) c.loop-s.s (omega arith) (sym k.ensures ∙ c.if-not-same_shard.true))

pub loop-s-preserved : goal.loop-s-preserved
loop-s-preserved c = let a = c.args in
    let k = c.same_shard in
    let l = c.loop-s in all_more l.s (ok a.p a.seen) l.invariant (sym k.ensures ∙ c.if-not-same_shard.false)

pub returns : goal.returns
unfolding same_shards same_shard
returns c = let a = c.args in
    let l = c.loop-s in
    sym (all_fewer 16 l.s (ok a.p a.seen) (omega arith) l.invariant)
