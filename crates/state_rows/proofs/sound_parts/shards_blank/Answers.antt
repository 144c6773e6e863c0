-- `state_rows::sound_parts::shards_blank` meets its contract. The invariant: every shard below s passes. Assumes nothing.
use Prim.Native.Nat.{ℕ}
use mathlib.Core.Bool.{Bool, ◌&&◌}
use mathlib.Core.List.{List}
use mathlib.Core.Path.{sym, ◌∙◌}
use native.Mathlib.Omega.{arith}
use lib.Dec.{eqb}
use lib.ListN.{get_or}
use Rattle.base_laws.specs.Below.{all_none}
use Rattle.base_laws.proofs.Below.{all_more, all_fails, all_fewer}
use Rattle.base_ids.specs.declared.Node.{Node}
use Rattle.base_ids.specs.declared.Position.{Position}
use Rattle.report_views.specs.Definitions.{is_start, start, node_at}
use Rattle.state_rows.proofs.sound_parts.shards_blank.Goals as goal

abbrev ok : List Node → List Position → ℕ → Bool
ok holders targets s = eqb (node_at holders s) 0 && is_start (get_or targets s start)

pub loop-s-init : goal.loop-s-init
loop-s-init c = let p = c.args.p in all_none (ok p.holders p.targets)

pub returns-then-not-nothing_planned : goal.returns-then-not-nothing_planned
returns-then-not-nothing_planned c = let p = c.args.p in
    let k = c.nothing_planned in
    sym (all_fails 16 (ok p.holders p.targets) c.loop-s.s (omega arith) (sym k.ensures ∙ c.if-not-nothing_planned.true))

pub loop-s-preserved : goal.loop-s-preserved
loop-s-preserved c = let p = c.args.p in
    let k = c.nothing_planned in
    let l = c.loop-s in all_more l.s (ok p.holders p.targets) l.invariant (sym k.ensures ∙ c.if-not-nothing_planned.false)

pub returns : goal.returns
returns c = let p = c.args.p in
    let l = c.loop-s in
    sym (all_fewer 16 l.s (ok p.holders p.targets) (omega arith) l.invariant)
