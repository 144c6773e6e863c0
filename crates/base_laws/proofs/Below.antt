-- Laws of all, some, the lowest, and how many of the numbers below a bound. A law takes the bound and the test first, so that `all-at n f
-- h` is the statement for every number.
use Rattle.std.specs.Prelude.{◌≡◌, Bool, true, false, ℕ, ◌+◌, ◌≤◌, ◌<◌}
use Rattle.std.proofs.Common.{◌∙◌, ⊎_elim, arith}
use Rattle.base_laws.specs.Bools.{either, clash, no_true, and_both}
use Rattle.base_laws.specs.Definitions.{all_below, any_below, lowest}
use Rattle.base_laws.specs.Below.{all_step, all_at, all_of, any_fails, lowest_none, lowest_unique, lowest_below}

-- a turn of a loop in which f held
pub all_more : (n : ℕ) (f : ℕ → Bool) → all_below n f ≡ true → f n ≡ true → all_below (n + 1) f ≡ true
all_more n f h p = all_step n f ∙ and_both h p

-- one number of which f fails
pub all_fails : (n : ℕ) (f : ℕ → Bool) (k : ℕ) → k < n → f k ≡ false → all_below n f ≡ false
all_fails n f k l p = no_true (all_below n f) (λ h. clash (all_at n f h k l) p)

-- all below a bound, all below a lower one
pub all_fewer : (m n : ℕ) (f : ℕ → Bool) → m ≤ n → all_below n f ≡ true → all_below m f ≡ true
all_fewer m n f l h = all_of m f (λ k j. all_at n f h k (omega arith))

-- the turn of a loop in which f first held
pub lowest_at : (n : ℕ) (f : ℕ → Bool) (k : ℕ) → k < n → any_below k f ≡ false → f k ≡ true → lowest n f ≡ k
lowest_at n f k l h p = lowest_unique n f k l p (any_fails k f h)

pub lowest_le : (n : ℕ) (f : ℕ → Bool) → lowest n f ≤ n
lowest_le n f =
    ⊎_elim (λ h. omega (arith, lowest_below n f h)) (λ h. omega (arith, lowest_none n f h)) (either (any_below n f))

-- the lowest is below the bound just where some number holds
pub lowest_some : (n : ℕ) (f : ℕ → Bool) → lowest n f < n → any_below n f ≡ true
lowest_some n f l =
    ⊎_elim (λ h. h) (λ h. absurd (let e : lowest n f ≡ n = lowest_none n f h in omega arith)) (either (any_below n f))
