-- `place_tables::costs` meets its contract. The invariant: the costs of the shards below s are filled in; those of another subgroup's
-- shards are 255, as the table has them from the start. Assumes nothing.
use Prim.Native.Nat.{◌+◌, ◌*◌, ◌/◌, ◌%◌}
use mathlib.Core.Path.{◌≡◌, sym, ap, ◌∙◌}
use native.Mathlib.Omega.{arith}
use lib.ListN.{get_or}
use Rattle.base_laws.proofs.Tables.{fill_start, fill_end}
use Rattle.place_laws.specs.Cases.{cost_in}
use Rattle.place_laws.specs.Tables.{costs_below}
use Rattle.place_laws.proofs.Tables.{costs_skip}
use Rattle.place_tables.proofs.costs.Goals as goal
use Rattle.place_tables.proofs.costs.Goals.{then-in_group, else-in_group}

pub loop-s-init : goal.loop-s-init
loop-s-init c = let a = c.args in fill_start 512 255 (λ k. cost_in a.settings.now a.held (λ i. get_or a.old.now i 0) a.g (k / 32) (k % 32))

pub cost_row-requires : goal.cost_row-requires
cost_row-requires c =
    let p = c.requires in
    record { settings = p.settings; held_bound = p.held_bound; sheet_value = p.sheet_value; w_value = c.move_cost-w.ensures; s_value = sym c.in_group.ensures ∙ c.if-in_group.true; table_value = c.loop-s.invariant }

pub loop-s-preserved : goal.loop-s-preserved
loop-s-preserved c =
    let a = c.args in
    let l = c.loop-s in
    let i : l.s * 32 + 32 ≡ (l.s + 1) * 32 = omega arith in (elim c.if-in_group.branch [
      | then-in_group w ↦ w.table-is ∙ w.cost_row.ensures
      | else-in_group w ↦ w.table-is ∙ (l.invariant ∙ costs_skip a.settings.now a.held (λ i. get_or a.old.now i 0) a.g l.s c.loop-s-test.true (sym c.in_group.ensures ∙ w.if-in_group.false))
    ])
    ∙ ap (costs_below a.settings.now a.held (λ i. get_or a.old.now i 0) a.g) i

pub returns : goal.returns
returns c =
    let a = c.args in
    let l = c.loop-s in
    fill_end 512 255 (λ k. cost_in a.settings.now a.held (λ i. get_or a.old.now i 0) a.g (k / 32) (k % 32)) (l.s * 32) l.table (omega arith) (omega arith) l.invariant
