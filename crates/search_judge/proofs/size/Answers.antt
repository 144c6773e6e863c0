-- The count of the shard as an owner. Assumes nothing.
use Prim.Native.Nat.{ℕ}
use mathlib.Core.Path.{ap, ◌∙◌}
use Rattle.search_laws.specs.Case.{size}
use Rattle.search_laws.specs.Tables.{owners_of}
use Rattle.search_judge.proofs.size.Goals as goal

pub returns : goal.returns
returns c =
    c.wide.ensures.0
    ∙ (c.owned.ensures ∙ ap (λ (x : ℕ). size (owners_of c.args.owner.now) x) c.narrow.ensures)
