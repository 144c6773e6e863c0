use mathlib.Core.Path.{◌≡◌}
use Rattle.message_format.specs.Definitions.{shards_of}
use Rattle.message_contents.proofs.records.shards_of.Given as goal

abbrev pub invariant-loop-j : goal.invariant-loop-j
invariant-loop-j l = l.mask ≡ shards_of l.k l.c.body l.j
