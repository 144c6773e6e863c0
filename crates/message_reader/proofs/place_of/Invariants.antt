use mathlib.Core.Path.{◌≡◌}
use Rattle.message_format.specs.Definitions.{place}
use Rattle.message_reader.proofs.place_of.Given as goal

abbrev pub invariant-loop-j : goal.invariant-loop-j
invariant-loop-j l = l.at ≡ place l.words l.j
