-- `settings_check::shard_ok` meets its contract: the word is the shard's, and each way out has the tests that led there.
use borrow.Author.Tests.{le-leb, lt-leb}
use Rattle.settings_values.specs.Definitions.{shard_ok}
use Rattle.settings_check.proofs.shard_ok.Goals as goal

pub returns-then-word-gt3 : goal.returns-then-word-gt3
unfolding shard_ok
returns-then-word-gt3 c = rw (← c.shard_word-word.ensures, lt-leb _ _ c.if-word-gt3.true)

pub returns-then-not-from_to : goal.returns-then-not-from_to
unfolding shard_ok
returns-then-not-from_to c =
    rw (
      ← c.shard_word-word.ensures,
      le-leb _ _ c.if-word-gt3.false,
      ← c.from_to.ensures,
      c.if-not-from_to.true,
    )

pub returns : goal.returns
unfolding shard_ok
returns c =
    rw (
      ← c.shard_word-word.ensures,
      le-leb _ _ c.if-word-gt3.false,
      ← c.from_to.ensures,
      c.if-not-from_to.false,
      ← c.cap.ensures,
    ) c.from_to-2.ensures
