-- `program_reading::fed` meets its contract. Assumes nothing.
use Rattle.program_reading.specs.Laws.{feeds_front}
use Rattle.program_reading.proofs.fed.Goals as goal

pub returns : goal.returns
returns c = feeds_front c.args.n c.args.buffer.now c.feed.ensures.feeds
