-- `message_contents::records::covered` meets its contract, by what its two calls ensure.
use mathlib.Core.Path.{ap, ◌∙◌}
use Prim.Native.Nat.{ℕ}
use Rattle.base_laws.specs.Definitions.{subset}
use Rattle.message_contents.proofs.records.covered.Goals as goal

pub returns : goal.returns
returns c = c.subset.ensures ∙ ap (λ (m : ℕ). subset c.args.mask m) c.shards_of.ensures
