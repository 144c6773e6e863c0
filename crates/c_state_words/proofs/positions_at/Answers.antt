-- At the loop's head the first s positions are stored.
use Prim.Native.Nat.{ℕ, ◌+◌, ◌*◌}
use mathlib.Core.List.{List}
use mathlib.Core.Path.{refl}
use native.Mathlib.Omega.{arith}
use lib.ListN.{get_or}
use Rattle.base_laws.proofs.Tables.{fill_start, fill_turn, fill_end}
use Rattle.base_ids.specs.declared.Position.{Position}
use Rattle.report_views.specs.Definitions.{pos, start}
use Rattle.c_state_words.specs.Definitions.{positions_at}
use Rattle.c_state_words.proofs.positions_at.Goals as goal

abbrev place : List ℕ → ℕ → ℕ → Position
place w at s = pos (get_or w (at + 2 * s) 0) (get_or w (at + 2 * s + 1) 0)

pub loop-s-init : goal.loop-s-init
loop-s-init c = fill_start 16 start (place c.args.words.now c.args.at)

pub loop-s-preserved : goal.loop-s-preserved
loop-s-preserved c =
    let a = c.args in
    let l = c.loop-s in fill_turn 16 start (place a.words.now a.at) l.s l.positions (place a.words.now a.at l.s) (omega arith) l.invariant refl

pub returns : goal.returns
unfolding positions_at
returns c =
    let a = c.args in
    let l = c.loop-s in
    fill_end 16 start (place a.words.now a.at) l.s l.positions l.auto.s-end (omega arith) l.invariant
