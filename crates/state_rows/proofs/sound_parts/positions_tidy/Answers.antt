-- `state_rows::sound_parts::positions_tidy` meets its contract. The invariant: every shard below s passes. Assumes nothing.
use mathlib.Core.Path.{sym, ◌∙◌}
use native.Mathlib.Omega.{arith}
use Rattle.base_laws.specs.Below.{all_none}
use Rattle.base_laws.proofs.Below.{all_more, all_fails, all_fewer}
use Rattle.state_rows.specs.Ready.{position_tidy}
use Rattle.state_rows.proofs.sound_parts.positions_tidy.Goals as goal

pub loop-s-init : goal.loop-s-init
loop-s-init c = let a = c.args in all_none (position_tidy a.settings.now a.t)

pub returns-then-not-position_tidy : goal.returns-then-not-position_tidy
unfolding position_tidy
returns-then-not-position_tidy c =
    let a = c.args in
    let k = c.position_tidy in
    sym (all_fails 16 (position_tidy a.settings.now a.t) c.loop-s.s (omega arith) (sym k.ensures ∙ c.if-not-position_tidy.true))

pub loop-s-preserved : goal.loop-s-preserved
unfolding position_tidy
loop-s-preserved c =
    let a = c.args in
    let k = c.position_tidy in
    let l = c.loop-s in all_more l.s (position_tidy a.settings.now a.t) l.invariant (sym k.ensures ∙ c.if-not-position_tidy.false)

pub returns : goal.returns
returns c =
    let a = c.args in
    let l = c.loop-s in
    sym (all_fewer 16 l.s (position_tidy a.settings.now a.t) (omega arith) l.invariant)
