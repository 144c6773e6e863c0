-- `plan_seen::holders_seen` meets its contract. The invariant: the holders of the shards below s are stored.
use Prim.Native.Nat.{ℕ}
use mathlib.Core.Path.{◌≡◌, refl, ap, ◌∙◌}
use native.Mathlib.Omega.{arith}
use mathlib.Core.List.{List}
use lib.ListN.{replicate, get_or}
use Rattle.base_laws.specs.Tables.{filled}
use Rattle.base_laws.proofs.Tables.{fill_start, fill_turn, filled_else}
use Rattle.base_ids.specs.declared.Node.{Node}
use Rattle.plan_seen.specs.Fold.{holders_from}
use Rattle.plan_seen.proofs.holders_seen.Goals as goal

abbrev none : Node
none = record { 0 = 0 }

abbrev node_in : List ℕ → ℕ → Node
node_in list s = record { 0 = get_or list s 0 }

pub loop-s-init : goal.loop-s-init
loop-s-init c = fill_start 16 none (node_in c.args.list.now)

pub loop-s-preserved : goal.loop-s-preserved
loop-s-preserved c = let s = c in
    let l = c.loop-s in fill_turn 16 none (node_in s.args.list.now) l.s l.holders _ (omega (arith, s.requires, c.loop-s-test.true)) l.invariant refl

pub returns : goal.returns
unfolding holders_from
returns c = let s = c in
    let l = c.loop-s in
    let f = node_in s.args.list.now in
    let z : l.s ≡ s.args.count = omega arith in
    l.invariant ∙ ap (λ (k : ℕ). filled k f (replicate 16 none)) z ∙ filled_else none 16 s.args.count f s.requires
