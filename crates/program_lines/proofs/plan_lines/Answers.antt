-- `program_lines::plan_lines` meets its contract: view, moves and shards one after another. Assumes nothing.
use Prim.Native.Nat.{zero-le}
use Rattle.program_text.specs.Puts.{then-puts}
use Rattle.program_lines.specs.Definitions.{plan_lines}
use Rattle.program_lines.proofs.plan_lines.Goals as goal

pub returns : goal.returns
unfolding plan_lines
returns c = then-puts zero-le c.put_line-view.ensures (then-puts c.put_line-view.ensures.within c.put_line-moves.ensures c.put_shards.ensures)
