-- `program_reading::turn` meets its contract: what the read left in the buffer is fed. Assumes nothing.
use native.Mathlib.Omega.{arith}
use Rattle.program_reading.specs.Laws.{turns_by}
use Rattle.program_reading.proofs.turn.Goals as goal

pub fed-requires : goal.fed-requires
fed-requires c = record {
  ready_run = (c.requires.ready_run, omega (arith, c.read-next.ensures.got_in_bounds, c.got-n.ensures));
  desk_len = c.requires.desk_len;
}

pub returns : goal.returns
returns c = turns_by c.args.intake c.read-next.result c.read-next.new.buffer c.got-n.result c.read-next.ensures.reads_on c.got-n.ensures c.fed.ensures
