-- The lowest bit of a mask is one of its bits.
use Rattle.std.specs.Prelude.{◌≡◌, refl, true, ℕ, zero, suc, ◌/◌, ◌%◌, ◌^◌, ◌<◌, eqb}
use Rattle.std.proofs.Common.{ap, ◌∙◌, mod-lt, zero-lt-suc, arith}
use Rattle.std.specs.Int.Count.{count_trailing_zeros, under}
use Rattle.base_laws.specs.Definitions.{has}
use Rattle.base_laws.specs.Masks.{has_lowest, has_suc}

-- by the lowest digit d
by_digit : (m d r : ℕ) → m % 2 ≡ d → (d ≡ 0 → has (m / 2) r ≡ true) → has m (under d r) ≡ true
by_digit m zero r e h = has_suc m r ∙ h refl
by_digit m (suc zero) r e h = has_lowest m ∙ ap (λ (x : ℕ). eqb x 1) e
by_digit m (suc (suc d)) r e h = absurd (omega (arith, mod-lt m (zero-lt-suc 1)))

pub lowest_has : (k m : ℕ) → m < 2 ^ k → 0 < m → has m (count_trailing_zeros k m) ≡ true
unfolding count_trailing_zeros
lowest_has zero m h l = absurd (omega arith)
lowest_has (suc k) m h l = by_digit m (m % 2) (count_trailing_zeros k (m / 2)) refl (λ e. lowest_has k (m / 2) (omega arith) (omega arith))
