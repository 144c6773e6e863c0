-- `report_cuts::cut` meets its contract. The invariant: a is the end of what the logs share before runs i and j, and the cut is where the
-- logs after a stop being the same.
use mathlib.Core.Path.{sym, ◌∙◌}
use native.Mathlib.Omega.{arith}
use Rattle.report_cuts.specs.Walks.{walk_starts, walk_ends, walk_holder_ends, walk_stops, walk_goes}
use Rattle.report_cuts.proofs.cut.Goals as goal

pub loop-i-init : goal.loop-i-init
loop-i-init c = let x = c.args in
    let n = c.next_run-i in
    let m = c.next_run-j in
    (n.ensures.within, m.ensures.within, n.ensures.is-run, m.ensures.is-run, walk_starts x.body.now x.len x.holder.now x.hlen x.s.0 x.t n.result m.result n.ensures m.ensures)

pub returns-then-hlen-j : goal.returns-then-hlen-j
returns-then-hlen-j c = let x = c.args in
    let l = c.loop-i in
    walk_holder_ends x.body.now x.len x.holder.now x.hlen x.s.0 x.t l.a l.i l.j c.if-hlen-j.true ∙ sym l.invariant.4

pub returns-then-not-shared_whole : goal.returns-then-not-shared_whole
returns-then-not-shared_whole c = let x = c.args in
    let l = c.loop-i in
    let r = c.run_end-r in
    let q = c.run_end-q in
    let w = c.shared_whole in
    let below = c.loop-i-test.true in
    let holder-below = c.if-hlen-j.false in
    c.shared_part.ensures
    ∙ sym (l.invariant.4
    ∙ walk_stops x.body.now x.len x.holder.now x.hlen x.s.0 x.t l.a l.i l.j below holder-below
    (l.invariant.2 below) (l.invariant.3 holder-below) r.result q.result r.ensures q.ensures
    (sym w.ensures ∙ c.if-not-shared_whole.true))

pub loop-i-preserved : goal.loop-i-preserved
loop-i-preserved c = let x = c.args in
    let l = c.loop-i in
    let r = c.run_end-r in
    let q = c.run_end-q in
    let w = c.shared_whole in
    let n = c.next_run-i-in-loop-i in
    let m = c.next_run-j-in-loop-i in
    let below = c.loop-i-test.true in
    let holder-below = c.if-hlen-j.false in (
      n.ensures.within,
      m.ensures.within,
      n.ensures.is-run,
      m.ensures.is-run,
      l.invariant.4
          ∙ walk_goes x.body.now x.len x.holder.now x.hlen x.s.0 x.t l.a l.i l.j below holder-below
          (l.invariant.2 below) (l.invariant.3 holder-below) r.result q.result r.ensures q.ensures
          (sym w.ensures ∙ c.if-not-shared_whole.false) n.result m.result n.ensures m.ensures,
    )

pub loop-i-smaller : goal.loop-i-smaller
loop-i-smaller c = let n = c.next_run-i-in-loop-i in
    omega (arith, n.ensures.from, c.loop-i-test.true)

pub returns : goal.returns
returns c = let x = c.args in
    let l = c.loop-i in
    walk_ends x.body.now x.len x.holder.now x.hlen x.s.0 x.t l.a l.i l.j c.loop-i-test.false ∙ sym l.invariant.4
