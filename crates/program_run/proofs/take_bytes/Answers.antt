-- `program_run::take_bytes` meets its contract: the words of the block are taken. Assumes nothing.
use native.Mathlib.Omega.{arith}
use Rattle.program_run.specs.Steps.{comes_size, block_fits, takes_as, block_front}
use Rattle.program_run.proofs.take_bytes.Goals as goal

pub block_of-block-requires : goal.block_of-block-requires
block_of-block-requires c = (c.requires.comes.count, (c.requires.comes.within, c.requires.comes.room))

pub slice_bounds-take_block-end : goal.slice_bounds-take_block-end
slice_bounds-take_block-end c = omega (arith, block_fits _ _ (comes_size _ _ _ c.requires.comes) c.block_of-block.ensures)

pub take_block-requires : goal.take_block-requires
take_block-requires c = record { right_settings = c.requires.comes.settled; desk_len = c.requires.desk_len }

pub returns : goal.returns
returns c = takes_as _ _ _ _ _ _ (block_front _ _ (comes_size _ _ _ c.requires.comes) c.block_of-block.ensures) c.take_block.ensures
