-- Loops over the numbers below a bound that count, test each, stop at the first that fails, or change a value:
-- a turn, and the end.
use Rattle.std.specs.Prelude.{◌≡◌, Bool, true, false, not}
use Rattle.std.proofs.Common.{arith}
use Prim.Native.Nat.{ℕ, ◌≤◌, ◌<◌}
use Rattle.base_laws.specs.Bools.{not_of_true, not_of_false, of_not_true, of_not_false}
use Rattle.base_laws.specs.Definitions.{all_below, any_below}
use Rattle.base_laws.specs.Below.{all_at, all_of, any_none_of, lowest_none, lowest_first, lowest-holds}
use Rattle.base_laws.proofs.Below.{all_fails, lowest_at, lowest_some}
use Rattle.base_laws.specs.Loops.{first_bad}

pub none_bad : (n : ℕ) (f : ℕ → Bool) → all_below n f ≡ true → any_below n (λ k. not (f k)) ≡ false
none_bad n f h = any_none_of n (λ k. not (f k)) (λ k l. not_of_true (all_at n f h k l))

-- a loop that ends at k, the first that fails
pub bad_at : (n : ℕ) (f : ℕ → Bool) (k : ℕ) → k < n → all_below k f ≡ true → f k ≡ false → first_bad n f ≡ k
bad_at n f k l h p = lowest_at n (λ j. not (f j)) k l (none_bad k f h) (not_of_false p)

-- a loop that ends at the bound
pub bad_none : (n : ℕ) (f : ℕ → Bool) → all_below n f ≡ true → first_bad n f ≡ n
bad_none n f h = lowest_none n (λ k. not (f k)) (none_bad n f h)

-- what its value r tells
pub bad_fails : (n : ℕ) (f : ℕ → Bool) (r : ℕ) → r ≡ first_bad n f → r < n → all_below n f ≡ false
bad_fails n f r e l =
    let i : first_bad n f < n = omega arith in
    all_fails n f (first_bad n f) i
    (of_not_true (f (first_bad n f)) (lowest-holds n (λ k. not (f k)) (lowest_some n (λ k. not (f k)) i)))

pub bad-holds : (n : ℕ) (f : ℕ → Bool) (r : ℕ) → r ≡ first_bad n f → n ≤ r → all_below n f ≡ true
bad-holds n f r e l =
    all_of n f (λ k i. of_not_false (f k) (lowest_first n (λ j. not (f j)) k (omega arith)))
