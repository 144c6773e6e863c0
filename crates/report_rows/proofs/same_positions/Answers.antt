-- `report_rows::same_positions` meets its contract. The invariant: the positions of the shards below s are the same.
use Prim.Native.Nat.{ℕ, ◌+◌}
use mathlib.Core.Bool.{Bool}
use mathlib.Core.List.{List}
use mathlib.Core.Path.{◌≡◌, sym, ◌∙◌}
use native.Mathlib.Omega.{arith}
use lib.ListN.{get_or}
use Rattle.base_laws.specs.Below.{all_none}
use Rattle.base_laws.proofs.Below.{all_more, all_fails}
use Rattle.base_ids.specs.declared.Position.{Position}
use Rattle.report_views.specs.Definitions.{start}
use Rattle.report_rows.specs.Comparisons.{record_same, positions_same}
use Rattle.report_rows.proofs.same_positions.Goals as goal

abbrev same : List Position → List ℕ → ℕ → ℕ → Bool
same positions b count s = record_same (get_or positions s start) b (count + s)

pub loop-s-init : goal.loop-s-init
loop-s-init c = let a = c.args in all_none (same a.positions a.body.now a.count)

pub returns-then-not-same_position : goal.returns-then-not-same_position
unfolding positions_same
returns-then-not-same_position c = let a = c.args in
    let p = c.same_position in
    sym (all_fails a.count (same a.positions a.body.now a.count) c.loop-s.s (omega arith)
    (sym p.ensures ∙ c.if-not-same_position.true))

pub loop-s-preserved : goal.loop-s-preserved
loop-s-preserved c = let a = c.args in
    let p = c.same_position in
    let l = c.loop-s in all_more l.s (same a.positions a.body.now a.count) l.invariant (sym p.ensures ∙ c.if-not-same_position.false)

pub returns : goal.returns
unfolding positions_same
returns c = let a = c.args in
    let l = c.loop-s in
    let e : l.s ≡ a.count = omega arith in
    sym (rw e at l.invariant)
