-- `place_rounds::repriced_table` meets its contract. The invariant: the costs below t are filled in. Assumes nothing.
use Prim.Native.Nat.{ℕ}
use mathlib.Core.List.{List}
use native.Mathlib.Omega.{arith}
use lib.ListN.{get_or}
use Rattle.base_laws.proofs.Tables.{fill_start, fill_turn, fill_end}
use Rattle.place_rounds.specs.Tables.{repriced, repriced_table}
use Rattle.place_rounds.proofs.repriced_table.Goals as goal

-- the cost at t
abbrev at : ℕ → List ℕ → ℕ → ℕ
at w costs t = repriced w (get_or costs t 0)

pub loop-t-init : goal.loop-t-init
loop-t-init c = let a = c.args in fill_start 512 0 (at a.w a.costs.now)

pub loop-t-preserved : goal.loop-t-preserved
loop-t-preserved c =
    let a = c.args in
    let l = c.loop-t in fill_turn 512 0 (at a.w a.costs.now) l.t l.table c.repriced.result (omega arith) l.invariant c.repriced.ensures

pub returns : goal.returns
unfolding repriced_table
returns c =
    let a = c.args in
    let l = c.loop-t in
    fill_end 512 0 (at a.w a.costs.now) l.t l.table (omega arith) (omega arith) l.invariant
