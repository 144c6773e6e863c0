-- `place_rounds::moves_of` meets its contract: the masks are those of the owners. Assumes nothing.
use mathlib.Core.List.{List}
use mathlib.Core.Path.{ap, ◌∙◌}
use Prim.Native.Nat.{ℕ}
use lib.ListN.{get_or}
use Rattle.place_groups.specs.Definitions.{group_moves}
use Rattle.place_laws.specs.Definitions.{masks_of}
use Rattle.place_rounds.proofs.moves_of.Goals as goal

pub returns : goal.returns
returns c =
    let a = c.args in
    c.group_moves.ensures
    ∙ ap (λ (m : List ℕ). group_moves a.settings.now (λ s. get_or a.old.now s 0) (masks_of m) a.g) c.masks_with-masks.ensures
