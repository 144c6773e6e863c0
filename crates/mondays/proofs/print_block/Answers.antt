-- `mondays::print_block` meets its contract. Assumes nothing.
use native.Mathlib.Omega.{arith}
use lib.ListN.{length-take}
use Rattle.mondays.specs.Program.{printed}
use borrow.Author.Rules.{rules}
use Rattle.mondays.proofs.print_block.Goals as goal

pub returns : goal.returns
returns g c =
    let s = c in
    let size = s.requires in
    printed _ _ _ _ _ (search rules) (omega (arith, length-take s.args.len s.args.block.now)) (search rules) c.take-taken.ensures
