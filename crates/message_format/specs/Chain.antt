-- How long a chain can be.
use Rattle.std.specs.Prelude.{ℕ, ◌≤◌, List}
use Rattle.base_laws.proofs.Below.{lowest_le}
use Rattle.message_format.specs.Definitions.{ends, place, following}

-- a law: at most 127 records follow the head
pub following_le : (w : List ℕ) → following w ≤ 127
unfolding following
following_le w = lowest_le 127 (λ j. ends w (place w j))
