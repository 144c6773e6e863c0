-- The least majority of a number of members: the least number that is more than half of it.
use Rattle.std.specs.Prelude.{◌≡◌, ℕ, ◌+◌, ◌*◌, ◌/◌, ◌<◌, ◌≤◌}
use Rattle.std.proofs.Common.{arith}

pub record LeastMajority (members c : ℕ) : Type 0 where
  pub more : members < 2 * c
  pub least : (d : ℕ) → members < 2 * d → c ≤ d

-- it is half the members, rounded down, and one more
pub half_and_one : (members : ℕ) → LeastMajority members (members / 2 + 1)
half_and_one members = record { more = omega arith; least = λ d l. omega arith }

-- there is one least majority
pub least_unique : {members c d : ℕ} → LeastMajority members c → LeastMajority members d → c ≡ d
least_unique {members} {c} {d} p q = omega (arith, p.least d q.more, q.least c p.more)

-- at least the least majority is more than half
pub enough_more : {members c : ℕ} → LeastMajority members c → (d : ℕ) → c ≤ d → members < 2 * d
enough_more m d l = omega (arith, m.more)
