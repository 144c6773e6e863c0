-- `program_run::Run::feed` meets its contract. The loop's invariant: the first i bytes are fed. Assumes nothing.
use Prim.Native.Nat.{◌-◌}
use mathlib.Core.Path.{refl, sym, ◌∙◌}
use native.Mathlib.Omega.{arith}
use Rattle.program_run.specs.Steps.{ready_lacks, gathers_gathered, gathers_on, gathers_feed, gathers_laid, laid_all, feeds_none, feeds_more, feeds_all}
use borrow.Author.Rules.{rules}
use Rattle.program_run.proofs.Run.feed.Goals as goal

pub loop-i-init : goal.loop-i-init
loop-i-init c = (search rules, (feeds_none c.requires.ready_run, (refl, refl)))

pub gather-end-requires : goal.gather-end-requires
gather-end-requires c = (ready_lacks c.loop-i.run c.loop-i.bytes c.loop-i.invariant.1.0.ready, c.loop-i.invariant.0)

pub settle-run-requires : goal.settle-run-requires
settle-run-requires c = record { bytes_gathered = gathers_gathered c.loop-i.run c.loop-i.bytes c.args.fed.now c.loop-i.i _ _ c.loop-i.invariant.1.0.ready c.gather-end.ensures; desk_len = c.loop-i.invariant.1.1.0 ∙ c.requires.desk_len }

pub overflow_sub-i : goal.overflow_sub-i
overflow_sub-i c = omega (arith, (gathers_on c.loop-i.run c.loop-i.bytes c.args.fed.now c.loop-i.i _ _ c.loop-i.invariant.1.0.ready c.gather-end.ensures c.loop-i-test.true).0)

pub overflow_add-i : goal.overflow_add-i
overflow_add-i c = omega (arith, (gathers_on c.loop-i.run c.loop-i.bytes c.args.fed.now c.loop-i.i _ _ c.loop-i.invariant.1.0.ready c.gather-end.ensures c.loop-i-test.true).1, c.well_formed.1.1.1)

pub loop-i-smaller : goal.loop-i-smaller
loop-i-smaller c =
    let on = gathers_on c.loop-i.run c.loop-i.bytes c.args.fed.now c.loop-i.i _ _ c.loop-i.invariant.1.0.ready c.gather-end.ensures c.loop-i-test.true in
    omega (arith, on.0, on.1)

pub loop-i-preserved : goal.loop-i-preserved
loop-i-preserved c = (
  (gathers_on c.loop-i.run c.loop-i.bytes c.args.fed.now c.loop-i.i _ _ c.loop-i.invariant.1.0.ready c.gather-end.ensures c.loop-i-test.true).1,
  (
    feeds_more c.args.fed.now c.loop-i.i (c.gather-end.result - c.loop-i.run.pending) c.loop-i.invariant.1.0 (gathers_feed c.loop-i.run c.loop-i.bytes c.args.fed.now c.loop-i.i _ _ c.loop-i.invariant.1.0.ready c.gather-end.ensures _ _ _ _ c.settle-run.ensures.feeds),
    (
      c.settle-run.auto.desk ∙ c.loop-i.invariant.1.1.0,
      c.loop-i.invariant.1.1.1
          ∙ gathers_laid c.loop-i.run c.loop-i.bytes c.args.fed.now c.loop-i.i _ _ c.loop-i.invariant.1.0.ready c.gather-end.ensures _ c.settle-run.ensures.pending_value,
    ),
  ),
)

pub shape_of-desk : goal.shape_of-desk
shape_of-desk c = c.loop-i.invariant.1.1.0

pub shape_of-bytes : goal.shape_of-bytes
shape_of-bytes c = c.loop-i.invariant.1.0.ready.room ∙ sym c.requires.ready_run.room

pub returns : goal.returns
returns c =
    record { feeds = feeds_all c.args.fed.now _ c.loop-i-test.false c.loop-i.invariant.1.0; bytes_after = laid_all _ c.loop-i.run.pending c.loop-i.i _ c.args.fed.now _ c.loop-i-test.false c.loop-i.invariant.1.1.1 }
