-- `plan_losses::held_counts` meets its contract. The invariant: the counts of the sets below f are stored. Assumes nothing.
use native.Mathlib.Omega.{arith}
use Rattle.base_laws.proofs.Tables.{fill_start, fill_turn, fill_end}
use Rattle.plan_losses.specs.Needs.{held_in}
use Rattle.plan_losses.proofs.held_counts.Goals as goal

pub loop-f-init : goal.loop-f-init
loop-f-init c = let a = c.args in fill_start 16 0 (held_in a.settings.now a.held)

pub loop-f-preserved : goal.loop-f-preserved
loop-f-preserved c = let a = c.args in
    let l = c.loop-f in fill_turn 16 0 (held_in a.settings.now a.held) l.f l.counts c.held_in.result (omega arith) l.invariant c.held_in.ensures

pub returns : goal.returns
returns c = let a = c.args in
    let l = c.loop-f in fill_end 16 0 (held_in a.settings.now a.held) l.f l.counts (omega arith) (omega arith) l.invariant
