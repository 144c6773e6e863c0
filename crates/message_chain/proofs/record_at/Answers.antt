-- `message_chain::record_at` meets its contract. Assumes nothing.
use borrow.Author.Tests.{lt-ltb, le-ltb}
use Rattle.message_chain.specs.Steps.{record_at}
use Rattle.message_chain.proofs.record_at.Goals as goal

pub returns-then-i-words : goal.returns-then-i-words
unfolding record_at
returns-then-i-words c = rw (lt-ltb _ _ c.if-i-words.true)

pub returns : goal.returns
unfolding record_at
returns c = rw (le-ltb _ _ c.if-i-words.false)
