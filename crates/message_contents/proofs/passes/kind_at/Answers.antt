-- `message_contents::passes::kind_at` meets its contract: each way out has the tests that led there.
use mathlib.Core.Path.{sym}
use Rattle.message_format.specs.Definitions.{kind_at}
use Rattle.message_contents.proofs.passes.kind_at.Goals as goal

pub returns-then-not-kind_ok : goal.returns-then-not-kind_ok
unfolding kind_at
returns-then-not-kind_ok c = simp (sym c.kind-kind.ensures, sym c.kind_ok.ensures, c.if-not-kind_ok.true)

pub returns : goal.returns
unfolding kind_at
returns c = simp (sym c.kind-kind.ensures, sym c.kind_ok.ensures, c.if-not-kind_ok.false, sym c.word2.ensures, sym c.plain.ensures)
