-- Laws of the i-th of the numbers below a bound of which a test holds. Its rank, how many such numbers lie below it, is i, so rank and
-- number are inverse to one another and rise together.
use Rattle.std.specs.Prelude.{ℕ, ◌+◌, ◌<◌, Bool, true, ◌≡◌, refl, eqb}
use Rattle.std.proofs.Common.{arith}
use Rattle.std.proofs.Math.Logic.{⊎_elim}
use borrow.Author.Tests.{eq-eqb, ne_eqb}
use Rattle.base_laws.specs.Bools.{either, and_both, and_fails_left, and_fails_right}
use Rattle.base_laws.specs.Definitions.{count_below}
use Rattle.base_laws.specs.Below.{lowest_unique, count_hit, count_longer}
use Rattle.base_sum_laws.specs.Definitions.{is_nth, nth}

module _ (f : ℕ → Bool) where
  -- a number of which f holds has a lower rank than any number above it
  pub rank_rises : (k n : ℕ) → k < n → f k ≡ true → count_below k f < count_below n f
  rank_rises k n l p = omega (arith, count_hit k f p, count_longer (k + 1) n f (omega arith))

  module _ (n : ℕ) where
    -- the number of a number's rank is that number
    pub nth_rank : (k : ℕ) → k < n → f k ≡ true → nth n f (count_below k f) ≡ k
    unfolding nth
    nth_rank k l p =
        lowest_unique n (is_nth f (count_below k f)) k l (and_both p (eq-eqb (count_below k f) (count_below k f) refl))
        (λ j m.
        ⊎_elim
        (λ q. and_fails_right (f j) (ne_eqb (count_below j f) (count_below k f) (λ e. omega (arith, rank_rises j k m q))))
        (λ q. and_fails_left (eqb (count_below j f) (count_below k f)) q)
        (either (f j)))
