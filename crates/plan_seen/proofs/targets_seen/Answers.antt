-- `plan_seen::targets_seen` meets its contract. The invariant: the targets of the shards below s are stored.
use Prim.Native.Nat.{ℕ}
use mathlib.Core.Path.{◌≡◌, ap, ◌∙◌}
use native.Mathlib.Omega.{arith}
use mathlib.Core.List.{List}
use lib.ListN.{replicate, get_or}
use Rattle.base_laws.specs.Tables.{filled}
use Rattle.base_laws.proofs.Tables.{fill_start, fill_turn, filled_else}
use Rattle.base_ids.specs.declared.Position.{Position}
use Rattle.report_views.specs.Definitions.{start, position_at}
use Rattle.report_views.specs.declared.Termination.{Termination}
use Rattle.plan_seen.specs.Fold.{target_from, targets_from}
use Rattle.plan_seen.proofs.targets_seen.Goals as goal

abbrev target_in : Termination → List ℕ → ℕ → Position
target_in t tops s = target_from t.made (position_at t s) (get_or tops s 0)

pub loop-s-init : goal.loop-s-init
loop-s-init c = let a = c.args in c.no_positions-targets.ensures ∙ fill_start 16 start (target_in a.t a.tops.now)

pub loop-s-preserved : goal.loop-s-preserved
loop-s-preserved c = let s = c in
    let l = c.loop-s in fill_turn 16 start (target_in s.args.t s.args.tops.now) l.s l.targets c.target_of.result (omega (arith, s.requires, c.loop-s-test.true)) l.invariant c.target_of.ensures

pub returns : goal.returns
unfolding targets_from
returns c = let s = c in
    let l = c.loop-s in
    let f = target_in s.args.t s.args.tops.now in
    let z : l.s ≡ s.args.count = omega arith in
    l.invariant ∙ ap (λ (k : ℕ). filled k f (replicate 16 start)) z ∙ filled_else start 16 s.args.count f s.requires
