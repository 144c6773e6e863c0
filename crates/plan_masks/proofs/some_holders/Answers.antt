-- `plan_masks::some_holders` meets its contract. The invariant: what is said of the shards below s is stored.
use Prim.Native.Nat.{ℕ}
use mathlib.Core.List.{List}
use mathlib.Core.Path.{ap}
use native.Mathlib.Omega.{arith}
use lib.ListN.{get_or}
use Rattle.base_laws.proofs.Tables.{fill_start, fill_turn, fill_end}
use Rattle.base_ids.specs.declared.Node.{Node}
use Rattle.plan_masks.specs.Masks.{some_holder, some_holders}
use Rattle.plan_masks.proofs.some_holders.Goals as goal

abbrev none : Node
none = record { 0 = 0 }

abbrev node_in : ℕ → List ℕ → ℕ → Node
node_in held masks s = record { 0 = some_holder held (get_or masks s 0) }

pub loop-s-init : goal.loop-s-init
loop-s-init c = fill_start 16 none (node_in c.args.held c.args.masks.now)

pub loop-s-preserved : goal.loop-s-preserved
loop-s-preserved c = let a = c.args in
    let l = c.loop-s in fill_turn 16 none (node_in a.held a.masks.now) l.s l.holders c.some_holder.result (omega arith) l.invariant
    (ap (λ (x : ℕ). record { 0 = x }) c.some_holder.ensures)

pub returns : goal.returns
unfolding some_holders
returns c = let a = c.args in
    let l = c.loop-s in
    fill_end 16 none (node_in a.held a.masks.now) l.s l.holders l.auto.s-end (omega arith) l.invariant
