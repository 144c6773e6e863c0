-- The loop's invariant: every row from that of t to i is passed. At the end the cut is sound. Assumes nothing.
use Prim.Native.Nat.{ℕ, ◌+◌, ◌/◌}
use mathlib.Core.Path.{refl, sym, ◌∙◌, ap, subst}
use native.Mathlib.Nat.{le_antisymm}
use native.Mathlib.Omega.{arith}
use Rattle.search_laws.specs.Tables.{case_of, owners_of}
use Rattle.search_laws.specs.Duality.{gain, toll}
use Rattle.search_bounds.specs.Post.{weights_of}
use Rattle.search_bounds.specs.Rows.{RowsPassed, rows_none, rows_more, modest_of, sound_by}
use Rattle.search_bounds.proofs.cut.Goals as goal

pub all_steady-requires : goal.all_steady-requires
all_steady-requires c = c.requires.small

pub loop-i-init : goal.loop-i-init
loop-i-init c = let s = c in (omega arith, rows_none (s.args.t / 32) refl s.requires.rows_len)

pub cut_row-requires : goal.cut_row-requires
cut_row-requires c = let s = c in
    let l = c.loop-i in
    record { t_bound = (l.invariant.0, c.loop-i-test.true); low_bound = (omega (arith, c.takes.ensures.1, s.requires.t_bound.1), omega (arith, c.grants-high.ensures.1)); small = s.requires.small }

pub loop-i-preserved : goal.loop-i-preserved
loop-i-preserved c = let l = c.loop-i in
    let v = c.cut_row.ensures (c.if-not-cut_row.false) in (omega (arith, l.invariant.0), rows_more c.loop-i-test.true l.invariant.1 (record { kept = v.kept; stored = v.stored; keeps = v.keeps; marks = v.marks }))

pub must-requires : goal.must-requires
must-requires c = let s = c in
    (omega (arith, c.takes.ensures.1, s.requires.t_bound.1), omega (arith, c.grants-high.ensures.1))

pub returns : goal.returns
unfolding gain toll
returns c =
    let s = c in
    let l = c.loop-i in
    let g = c.grants-high in
    let h = c.takes in
    let a = c.all_steady in
    sound_by (case_of s.args.sets.now s.args.needs.now s.args.caps.now s.args.costs.now s.args.idle) (weights_of s.args.wants.now s.args.rooms.now s.args.nodes.now s.args.pairs.now)
    (owners_of s.args.owner.now) s.args.t s.args.k (s.args.k + h.result) g.result c.floor.result c.unowned-free.result c.must.result
    s.args.rows.now l.rows s.requires.small.below
    (modest_of s.args.wants.now s.args.rooms.now s.args.nodes.now s.args.pairs.now)
    s.requires.begun
    (sym a.ensures ∙ c.if-not-all_steady.false)
    (ap (λ (x : ℕ). s.args.k + x) h.ensures.0) g.ensures.0 c.floor.ensures c.unowned-free.ensures c.must.ensures
    (subst (λ (x : ℕ). RowsPassed (case_of s.args.sets.now s.args.needs.now s.args.caps.now s.args.costs.now s.args.idle) (weights_of s.args.wants.now s.args.rooms.now s.args.nodes.now s.args.pairs.now)
    c.unowned-free.result s.args.t (s.args.k + h.result) g.result x s.args.rows.now l.rows) (le_antisymm (l.auto.i-end (omega (arith, s.requires.t_bound.0))) c.loop-i-test.false) l.invariant.1)
