-- `message_contents::passes::sequence_at` meets its contract: each way out has the tests that led there.
use mathlib.Core.Bool.{not}
use mathlib.Core.Path.{sym, ap, ◌∙◌}
use Prim.Native.Nat.{ℕ}
use Rattle.message_contents.specs.Sequence.{stray_at}
use Rattle.message_format.specs.Definitions.{surplus, sequence_at}
use Rattle.message_contents.proofs.passes.sequence_at.Goals as goal

pub returns-then-not-follows : goal.returns-then-not-follows
unfolding sequence_at surplus
returns-then-not-follows c = simp (sym c.follows.ensures, c.if-not-follows.true)

pub returns : goal.returns
unfolding sequence_at surplus
returns c = let a = c.args in
    rw (sym c.follows.ensures ∙ c.if-not-follows.false)
    (ap not (c.stray.ensures ∙ ap (λ (m : ℕ). stray_at m a.body.now a.j) c.requires.carried_value))
