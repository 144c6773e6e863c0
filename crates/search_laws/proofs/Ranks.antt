-- Fewest moves, then most stays, as one number: a stay costs 0, a move w, and a node that is placed nowhere 1, where w is more than the
-- nodes that the caps leave over the needs.
use Rattle.std.specs.Prelude.{ℕ, ◌*◌, ◌<◌}
use Rattle.std.proofs.Common.{ap, ⊎_elim, mul-le-mul_right}
use native.Mathlib.Omega.{arith}
use Rattle.base_laws.specs.Bools.{lt_or_le, eq_or_ne}
use Rattle.search_laws.specs.Case.{Case, Valid, LeastWeight, moves, weight}
use Rattle.search_laws.specs.Order.{First}
use Rattle.search_laws.specs.Ranks.{Priced, BestPlaced, spare, placed_close, weight_is, placed_is}

module _ (K : Case) (small : (n : ℕ) → n < 32 → K.set_of n < 16) where
  module _ {w : ℕ} {price : ℕ → ℕ → ℕ} (wide : spare K < w) (p : Priced K w price) where
    -- fewer moves weigh less
    fewer : (y z : ℕ → ℕ) → Valid K y → Valid K z → moves price y < moves price z → weight K y < weight K z
    fewer y z v u h =
        omega (arith, (weight_is K small wide p) y v, (weight_is K small wide p) z u, (placed_close K small) z y u v, mul-le-mul_right w h)

    pub least_best : {z : ℕ → ℕ} → LeastWeight K z → BestPlaced K price z
    least_best {z} l =
        record {
          valid = l.valid;
          fewest = λ y v. ⊎_elim (λ h. absurd (omega (arith, fewer y z v l.valid h, l.least y v))) (λ h. h) (lt_or_le (moves price y) (moves price z));
          most = λ y v e. omega (arith, (weight_is K small wide p) y v, (weight_is K small wide p) z l.valid, (placed_is K small wide p) y v, (placed_is K small wide p) z l.valid, l.least y v, ap (λ (m : ℕ). m * w) e);
        }

    pub best_least : {z : ℕ → ℕ} → BestPlaced K price z → LeastWeight K z
    best_least {z} b =
        record {
          valid = b.valid;
          least = λ y v. ⊎_elim
              (λ e. omega (arith, (weight_is K small wide p) y v, (weight_is K small wide p) z b.valid, (placed_is K small wide p) y v, (placed_is K small wide p) z b.valid, b.most y v e, ap (λ (m : ℕ). m * w) e))
              (λ e. omega (arith, fewer z y b.valid v (omega (arith, b.fewest y v))))
              (eq_or_ne (moves price y) (moves price z));
        }

    -- the first of least weight is the first of the best
    pub first_best : {z : ℕ → ℕ} → First (LeastWeight K) z → First (BestPlaced K price) z
    first_best {z} f = record { is = least_best f.is; first = λ y b. f.first y (best_least b) }
