-- `plan_seen::views_seen` meets its contract. The invariant: the views of the nodes below n are stored.
use Prim.Native.Nat.{ℕ}
use mathlib.Core.Path.{◌≡◌, sym, ap, ◌∙◌}
use native.Mathlib.Omega.{arith}
use Rattle.base_ids.specs.declared.View.{View}
use lib.ListN.{replicate, length-replicate}
use Rattle.base_lent.specs.Definitions.{words_in}
use Rattle.base_laws.specs.Tables.{filled, filled_none, filled_all}
use Rattle.base_laws.proofs.Tables.{filled_turn}
use Rattle.plan_seen.specs.Sight.{view_seen, views_seen}
use Rattle.plan_seen.proofs.views_seen.Goals as goal

abbrev none : View
none = record { 0 = 0 }

pub loop-n-init : goal.loop-n-init
loop-n-init c = let a = c.args in sym (filled_none (view_seen a.held (words_in a.desk.now)) (replicate 32 none))

pub loop-n-preserved : goal.loop-n-preserved
loop-n-preserved c = let a = c.args in
    let l = c.loop-n in
    let few = length-replicate {A = View} 32 none in filled_turn l.n (view_seen a.held (words_in a.desk.now)) (replicate 32 none) l.views c.view_seen.result (omega (arith, few)) l.invariant c.view_seen.ensures

pub returns : goal.returns
unfolding views_seen
returns c = let a = c.args in
    let l = c.loop-n in
    let f = view_seen a.held (words_in a.desk.now) in
    let z : l.n ≡ 32 = omega arith in
    l.invariant ∙ ap (λ (k : ℕ). filled k f (replicate 32 none)) z ∙ filled_all 32 f (replicate 32 none) (length-replicate {A = View} 32 none)
