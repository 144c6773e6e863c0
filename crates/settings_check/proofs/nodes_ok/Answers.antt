-- `settings_check::nodes_ok` meets its contract. The invariant: the nodes below i are right.
use mathlib.Core.Path.{sym}
use mathlib.Core.Bool.{Bool}
use mathlib.Core.List.{List}
use Prim.Native.Nat.{ℕ}
use native.Mathlib.Omega.{arith}
use lib.Dec.{ltb}
use borrow.Author.Tests.{le-ltb, lt-ltb}
use Rattle.base_laws.specs.Below.{all_none}
use Rattle.base_laws.proofs.Below.{all_more, all_fails, all_fewer}
use Rattle.settings_values.specs.Definitions.{nodes, sets, set_of, nodes_ok}
use Rattle.settings_check.proofs.nodes_ok.Goals as goal

abbrev ok : List ℕ → ℕ → Bool
ok σ n = ltb (set_of σ n) (sets σ)

pub loop-i-init : goal.loop-i-init
loop-i-init c = all_none (ok c.args.settings.now)

pub returns-then-f-settings : goal.returns-then-f-settings
unfolding nodes_ok
returns-then-f-settings c = let σ = c.args.settings.now in
    let i = c.loop-i.i in
    sym (all_fails (nodes σ) (ok σ) i (omega arith) (le-ltb (set_of σ i) (sets σ) c.if-f-settings.true))

pub loop-i-preserved : goal.loop-i-preserved
loop-i-preserved c = let σ = c.args.settings.now in
    let i = c.loop-i.i in all_more i (ok σ) c.loop-i.invariant (lt-ltb (set_of σ i) (sets σ) c.if-f-settings.false)

pub returns : goal.returns
unfolding nodes_ok
returns c = let σ = c.args.settings.now in
    let i = c.loop-i.i in
    sym (all_fewer (nodes σ) i (ok σ) (omega arith) c.loop-i.invariant)
