-- `program_run::settle` meets its contract: the block is not whole yet, or it is and is taken. Assumes nothing.
use native.Mathlib.Omega.{arith}
use Rattle.program_run.specs.Steps.{gathered_room, settle_waits, settle_waits_at, settle_takes, settle_takes_at, whole_comes}
use Rattle.program_run.proofs.settle.Goals as goal

pub slice_bounds-needed-end : goal.slice_bounds-needed-end
slice_bounds-needed-end c = gathered_room c.args.run c.args.bytes.now c.args.end c.requires.bytes_gathered

pub returns-then-end-needed : goal.returns-then-end-needed
returns-then-end-needed c = record { feeds = settle_waits c.args.run c.args.bytes.now c.args.end c.requires.bytes_gathered _ (omega (arith, c.needed.ensures)); pending_value = settle_waits_at c.args.run c.args.bytes.now c.args.end c.requires.bytes_gathered (omega (arith, c.needed.ensures)) }

pub take_bytes-requires : goal.take_bytes-requires
take_bytes-requires c = record { comes = whole_comes c.args.run c.args.bytes.now c.args.end c.requires.bytes_gathered (omega (arith, c.needed.ensures)); desk_len = c.requires.desk_len }

pub returns : goal.returns
returns c = record { feeds = settle_takes c.args.run c.args.bytes.now c.args.end c.requires.bytes_gathered (omega (arith, c.needed.ensures)) _ _ _ c.take_bytes.ensures; pending_value = settle_takes_at c.args.run c.args.bytes.now c.args.end c.requires.bytes_gathered _ (omega (arith, c.needed.ensures)) c.take_bytes.ensures.pending }
