-- At the loop's head the first s nodes are stored.
use Prim.Native.Nat.{ℕ, ◌+◌}
use mathlib.Core.List.{List}
use mathlib.Core.Path.{refl}
use native.Mathlib.Omega.{arith}
use lib.ListN.{get_or}
use Rattle.base_laws.proofs.Tables.{fill_start, fill_turn, fill_end}
use Rattle.base_ids.specs.declared.Node.{Node}
use Rattle.c_state_words.specs.Definitions.{nodes_at}
use Rattle.c_state_words.proofs.nodes_at.Goals as goal

abbrev node : List ℕ → ℕ → ℕ → Node
node w at s = record { 0 = get_or w (at + s) 0 }

pub loop-s-init : goal.loop-s-init
loop-s-init c = fill_start 16 (record { 0 = 0 }) (node c.args.words.now c.args.at)

pub loop-s-preserved : goal.loop-s-preserved
loop-s-preserved c =
    let a = c.args in
    let l = c.loop-s in fill_turn 16 (record { 0 = 0 }) (node a.words.now a.at) l.s l.nodes (node a.words.now a.at l.s) (omega arith) l.invariant refl

pub returns : goal.returns
unfolding nodes_at
returns c =
    let a = c.args in
    let l = c.loop-s in
    fill_end 16 (record { 0 = 0 }) (node a.words.now a.at) l.s l.nodes l.auto.s-end (omega arith) l.invariant
