-- `program_lines::wait_for` meets its contract: the reason, and after it the value. Assumes nothing.
use Prim.Native.Nat.{zero-le}
use Rattle.program_text.specs.Puts.{then-puts}
use Rattle.program_lines.specs.Definitions.{wait_for}
use Rattle.program_lines.proofs.wait_for.Goals as goal

pub returns : goal.returns
unfolding wait_for
returns c = then-puts zero-le c.put_field-next.ensures c.put_line.ensures
