-- At the loop's head the first s words are stored.
use Prim.Native.Nat.{ℕ, ◌+◌}
use mathlib.Core.List.{List}
use mathlib.Core.Path.{refl}
use native.Mathlib.Omega.{arith}
use lib.ListN.{get_or}
use Rattle.base_laws.proofs.Tables.{fill_start, fill_turn, fill_end}
use Rattle.c_state_words.specs.Definitions.{span}
use Rattle.c_state_words.proofs.sixteen.Goals as goal

abbrev word : List ℕ → ℕ → ℕ → ℕ
word w at s = get_or w (at + s) 0

pub loop-s-init : goal.loop-s-init
loop-s-init c = fill_start 16 0 (word c.args.words.now c.args.at)

pub loop-s-preserved : goal.loop-s-preserved
loop-s-preserved c =
    let a = c.args in
    let l = c.loop-s in fill_turn 16 0 (word a.words.now a.at) l.s l.out (word a.words.now a.at l.s) (omega arith) l.invariant refl

pub returns : goal.returns
unfolding span
returns c =
    let a = c.args in
    let l = c.loop-s in
    fill_end 16 0 (word a.words.now a.at) l.s l.out l.auto.s-end (omega arith) l.invariant
