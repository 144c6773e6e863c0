-- At the loop's head the first n views are stored.
use Prim.Native.Nat.{ℕ, ◌+◌}
use mathlib.Core.List.{List}
use mathlib.Core.Path.{refl}
use native.Mathlib.Omega.{arith}
use lib.ListN.{get_or}
use Rattle.base_laws.proofs.Tables.{fill_start, fill_turn, fill_end}
use Rattle.base_ids.specs.declared.View.{View}
use Rattle.c_state_words.specs.Definitions.{views_at}
use Rattle.c_state_words.proofs.views_at.Goals as goal

abbrev entry : List ℕ → ℕ → ℕ → View
entry w at n = record { 0 = get_or w (at + n) 0 }

pub loop-n-init : goal.loop-n-init
loop-n-init c = fill_start 32 (record { 0 = 0 }) (entry c.args.words.now c.args.at)

pub loop-n-preserved : goal.loop-n-preserved
loop-n-preserved c =
    let a = c.args in
    let l = c.loop-n in fill_turn 32 (record { 0 = 0 }) (entry a.words.now a.at) l.n l.views (entry a.words.now a.at l.n) (omega arith) l.invariant refl

pub returns : goal.returns
unfolding views_at
returns c =
    let a = c.args in
    let l = c.loop-n in
    fill_end 32 (record { 0 = 0 }) (entry a.words.now a.at) l.n l.views l.auto.n-end (omega arith) l.invariant
