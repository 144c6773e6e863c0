-- `program_arguments::put_told` meets its contract: one text after another. Assumes nothing.
use Prim.Native.Nat.{zero-le}
use Rattle.program_text.specs.Puts.{then-puts}
use Rattle.program_arguments.specs.Definitions.{told_line}
use Rattle.program_arguments.proofs.put_told.Goals as goal

pub returns : goal.returns
unfolding told_line
returns c =
    then-puts zero-le
    (then-puts zero-le (then-puts zero-le c.put_text-first.ensures c.put_text-second.ensures) c.put_text-third.ensures)
    c.put_byte.ensures
