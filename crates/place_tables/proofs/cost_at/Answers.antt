-- `place_tables::cost_at` meets its contract: each way out has the test that led there. An entry of 2 says that the node is not held, one
-- of 1 that a held node is no old member. Assumes nothing.
use mathlib.Core.Path.{sym, ◌∙◌}
use native.Mathlib.Omega.{arith}
use lib.ListN.{get_or}
use Rattle.base_laws.specs.Masks.{has_past}
use Rattle.settings_values.specs.Definitions.{nodes}
use Rattle.place_groups.proofs.Laws.{entry_none, entry_moves}
use Rattle.place_laws.specs.Cases.{group_shard, shard_below, cost_away}
use Rattle.place_laws.proofs.Cases.{cost_told}
use Rattle.place_tables.proofs.cost_at.Goals as goal

pub returns-then-n-nodes : goal.returns-then-n-nodes
returns-then-n-nodes c =
    let a = c.args in
    sym (cost_away a.settings.now a.held (λ i. get_or a.old.now i 0) a.g a.s a.n
    (has_past a.held (nodes a.settings.now) a.n c.requires.held_bound (omega (arith, c.nodes.ensures))))

pub entry-least-requires : goal.entry-least-requires
entry-least-requires c =
    let a = c.args in
    let p = c.requires in
    record { settings = p.settings; sheet_value = p.sheet_value; s_bound = shard_below a.settings.now a.g p.settings a.s p.s_value; n_bound = omega (arith, c.nodes.ensures) }

pub returns-then-least-eq2 : goal.returns-then-least-eq2
returns-then-least-eq2 c =
    let m = c in
    let a = m.args in
    sym (cost_away a.settings.now a.held (λ i. get_or a.old.now i 0) a.g a.s a.n
    (entry_none a.settings.now a.held (λ i. get_or a.old.now i 0) m.requires.settings a.s (group_shard a.settings.now a.g a.s m.requires.s_value) a.n
    (omega (arith, c.nodes.ensures)) (sym c.entry-least.ensures ∙ c.if-least-eq2.true)))

pub returns-then-not-has : goal.returns-then-not-has
returns-then-not-has c =
    let a = c.args in
    let h = c.has in
    sym (cost_away a.settings.now a.held (λ i. get_or a.old.now i 0) a.g a.s a.n (sym h.ensures ∙ c.if-not-has.true))

pub returns-then-least-eq1 : goal.returns-then-least-eq1
returns-then-least-eq1 c =
    let t = c in
    let m = t in
    let a = m.args in
    let h = c.has in
    let p = sym h.ensures ∙ c.if-not-has.false in
    m.requires.w_value
    ∙ sym (cost_told a.settings.now a.held (λ i. get_or a.old.now i 0) a.g a.s a.n m.requires.s_value p
    (entry_moves a.settings.now a.held (λ i. get_or a.old.now i 0) m.requires.settings a.s (group_shard a.settings.now a.g a.s m.requires.s_value) a.n
    (omega (arith, t.nodes.ensures)) (sym t.entry-least.ensures ∙ c.if-least-eq1.true) p))

pub bounds-old-s : goal.bounds-old-s
bounds-old-s c =
    let m = c in
    omega (arith, shard_below m.args.settings.now m.args.g m.requires.settings m.args.s m.requires.s_value)

pub returns-then-has : goal.returns-then-has
returns-then-has c =
    let h = c.has in
    let m = c in
    let a = m.args in
    sym (cost_told a.settings.now a.held (λ i. get_or a.old.now i 0) a.g a.s a.n m.requires.s_value
    (sym h.ensures ∙ c.if-not-has.false) (sym c.has-2.ensures ∙ c.if-has.true))

pub returns-else-has : goal.returns-else-has
returns-else-has c =
    let h = c.has in
    let m = c in
    let a = m.args in
    m.requires.w_value
    ∙ sym (cost_told a.settings.now a.held (λ i. get_or a.old.now i 0) a.g a.s a.n m.requires.s_value
    (sym h.ensures ∙ c.if-not-has.false) (sym c.has-2.ensures ∙ c.if-has.false))
