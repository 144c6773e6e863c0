-- `message_contents::passes::position_at` meets its contract, by what its calls ensure.
use mathlib.Core.Path.{sym}
use Rattle.message_format.specs.Definitions.{row11_at}
use Rattle.message_contents.proofs.passes.position_at.Goals as goal

pub returns : goal.returns
unfolding row11_at
returns c = simp (sym c.kind-kind.ensures, sym c.word2-second.ensures, sym c.word1-first.ensures) c.legal.ensures
