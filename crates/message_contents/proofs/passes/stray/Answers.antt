-- `message_contents::passes::stray` meets its contract: each way out has the tests that led there.
use mathlib.Core.Path.{sym}
use borrow.Author.Tests.{lt-ltb, le-ltb, le-leb, lt-leb}
use Rattle.message_contents.proofs.passes.stray.Goals as goal

pub returns-then-kind-lt4 : goal.returns-then-kind-lt4
returns-then-kind-lt4 c = simp (sym c.kind.ensures, lt-ltb _ _ c.if-kind-lt4.true, lt-leb _ _ c.if-kind-lt4.true)

pub returns : goal.returns
returns c = simp (sym c.kind.ensures, le-ltb _ _ c.if-kind-lt4.false, le-leb _ _ c.if-kind-lt4.false, sym c.shard-shard.ensures, sym c.has.ensures)
