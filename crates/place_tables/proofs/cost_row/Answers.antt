-- `place_tables::cost_row` meets its contract. The invariant: the costs of the nodes below n are filled in. Assumes nothing.
use Prim.Native.Nat.{◌+◌, ◌*◌}
use mathlib.Core.Path.{◌≡◌, ap, ◌∙◌}
use native.Mathlib.Omega.{arith}
use lib.ListN.{get_or}
use Rattle.place_laws.specs.Cases.{shard_below}
use Rattle.place_laws.specs.Tables.{costs_below, costs_turn}
use Rattle.place_tables.proofs.cost_row.Goals as goal

pub loop-n-init : goal.loop-n-init
loop-n-init c =
    let a = c.args in
    let p = c.requires in (shard_below a.settings.now a.g p.settings a.s p.s_value, p.table_value ∙ ap (costs_below a.settings.now a.held (λ i. get_or a.old.now i 0) a.g) (let e : a.s * 32 ≡ a.s * 32 + 0 = omega arith in e))

pub cost_at-requires : goal.cost_at-requires
cost_at-requires c = let p = c.requires in record { settings = p.settings; held_bound = p.held_bound; sheet_value = p.sheet_value; w_value = p.w_value; s_value = p.s_value }

pub loop-n-preserved : goal.loop-n-preserved
loop-n-preserved c =
    let l = c.loop-n in
    let a = c.args in (l.invariant.0, costs_turn a.settings.now a.held (λ i. get_or a.old.now i 0) a.g a.s l.n l.table c.cost_at.result l.invariant.0 c.loop-n-test.true l.invariant.1 c.cost_at.ensures)

pub returns : goal.returns
returns c =
    let l = c.loop-n in
    let a = c.args in
    l.invariant.1 ∙ ap (costs_below a.settings.now a.held (λ i. get_or a.old.now i 0) a.g) (let e : a.s * 32 + l.n ≡ a.s * 32 + 32 = omega (arith, l.auto.n-end, c.loop-n-test.false) in e)
