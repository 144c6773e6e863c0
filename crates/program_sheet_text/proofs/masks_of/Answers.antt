-- `program_sheet_text::masks_of` meets its contract: the shifted 1 is 2 ^ n, since nothing is shifted out. Assumes nothing.
use native.Mathlib.Omega.{arith}
use Rattle.base_laws.specs.Masks.{shl-single}
use Rattle.program_sheet_text.proofs.masks_of.Goals as goal

pub returns : goal.returns
returns c = shl-single 32 c.args.nodes (omega (arith, c.requires))
