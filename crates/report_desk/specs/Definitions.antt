-- The desk with a message in a node's slot.
use Rattle.std.specs.Prelude.{ℕ, ◌+◌, ◌*◌, List, ◌++◌, take, drop}
use Rattle.base_laws.specs.Definitions.{padded}

-- the desk with a message, then zeros, in node n's slot
unfoldable pub desk_with : List ℕ → ℕ → List ℕ → List ℕ
desk_with d n w = take (512 * n) d ++ padded 512 w ++ drop (512 * n + 512) d
