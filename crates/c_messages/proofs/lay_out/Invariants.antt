use mathlib.Core.Path.{◌≡◌}
use Rattle.c_messages.specs.Layout.{laid_out}
use Rattle.c_messages.proofs.lay_out.Given as goal

abbrev pub invariant-loop-k : goal.invariant-loop-k
invariant-loop-k l = l.words ≡ laid_out l.initial.words l.c.body l.k
