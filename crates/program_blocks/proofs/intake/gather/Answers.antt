-- `program_blocks::intake::gather` meets its contract. Assumes nothing.
use mathlib.Core.Path.{refl}
use native.Mathlib.Omega.{arith}
use Rattle.program_blocks.specs.Intake.{lacks_few, lacks_from, gathers_fit, gathers_copied}
use Rattle.program_blocks.proofs.intake.gather.Goals as goal

pub slice_bounds-needed-end : goal.slice_bounds-needed-end
slice_bounds-needed-end c = omega (arith, lacks_few _ _ c.requires.0, c.requires.0.room)

pub overflow_sub-whole : goal.overflow_sub-whole
overflow_sub-whole c = lacks_from _ _ _ c.requires.0 c.needed-whole.ensures

pub slice_bounds-copy_from_slice-end : goal.slice_bounds-copy_from_slice-end
slice_bounds-copy_from_slice-end c = gathers_fit _ _ _ c.requires.0 c.needed-whole.ensures c.args.fed.now _ _ c.requires.1 c.min-n.ensures

pub returns : goal.returns
returns c = gathers_copied _ _ _ c.requires.0 c.needed-whole.ensures _ _ _ c.requires.1 c.min-n.ensures _ _ refl c.copy_from_slice.ensures.after
