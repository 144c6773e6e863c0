-- The least majority of a number of members: the least number that is more than half of it.
use Rattle.std.specs.Prelude.{◌≡◌, ℕ, ◌*◌, leb, ltb}
use Rattle.std.proofs.Common.{leb-true, ltb-true, le-leb, lt-ltb}
use Rattle.base_laws.specs.Bools.{same}
use Rattle.base_masks.specs.Majority.{LeastMajority, enough_more}

-- the two tests are one
pub enough_is_more : {members c : ℕ} → LeastMajority members c → (d : ℕ) → leb c d ≡ ltb members (2 * d)
enough_is_more {members} {c} m d =
    same (leb c d) (ltb members (2 * d))
    (λ h. lt-ltb members (2 * d) (enough_more m d (leb-true c d h)))
    (λ h. le-leb c d (m.least d (ltb-true members (2 * d) h)))
