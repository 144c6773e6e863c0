-- Fewest moves, then most stays, as one number: a stay costs 0, a move w, and a node that is placed nowhere 1, where w is more than the
-- nodes that the caps leave over the needs.
use Rattle.std.specs.Prelude.{◌≡◌, refl, Bool, ℕ, ◌+◌, ◌*◌, ◌-◌, ◌≤◌, ◌<◌}
use Rattle.std.proofs.Common.{◌∙◌, ltb-true}
use Rattle.std.proofs.Math.Bool.{true, false, cond}
use native.Mathlib.Omega.{arith}
use Rattle.base_sum_laws.specs.Definitions.{sum_below}
use Rattle.base_sum_laws.specs.Sums.{sum_cong, sum_mono, sum_add, sum_const, sum_scale}
use Rattle.base_sum_laws.proofs.Sums.{sum_none, sum_by_key}
use Rattle.search_laws.specs.Case.{Case, Valid, has_owner, size, spread, moves, weight}
use Rattle.search_laws.specs.Duality.{shard_cover}

-- by the same prices, the stays
unfoldable pub stays : (ℕ → ℕ → ℕ) → (ℕ → ℕ) → ℕ
stays price z = sum_below 32 (λ n. cond (has_owner z n) (1 - price (z n) n) 0)

-- the case's costs are the prices times w, and 1 for a node placed nowhere
pub record Priced (K : Case) (w : ℕ) (price : ℕ → ℕ → ℕ) : Type 0 where
  pub idle : K.idle ≡ 1
  pub low : (i n : ℕ) → i < 16 → n < 32 → K.cost i n < 255 → price i n ≤ 1
  pub cost : (i n : ℕ) → i < 16 → n < 32 → K.cost i n < 255 → K.cost i n ≡ price i n * w

-- valid, of fewest moves, and of those with the most stays
pub record BestPlaced (K : Case) (price : ℕ → ℕ → ℕ) (z : ℕ → ℕ) : Type 0 where
  pub valid : Valid K z
  pub fewest : (y : ℕ → ℕ) → Valid K y → moves price z ≤ moves price y
  pub most : (y : ℕ → ℕ) → Valid K y → moves price y ≡ moves price z → stays price y ≤ stays price z

-- how many nodes the caps allow over the needs
unfoldable pub spare : Case → ℕ
spare K = sum_below 16 (λ i. K.cap i - K.need i)

-- how many nodes are placed
unfoldable pub placed_count : (ℕ → ℕ) → ℕ
placed_count z = sum_below 32 (λ n. cond (has_owner z n) 1 0)

module _ (K : Case) (small : (n : ℕ) → n < 32 → K.set_of n < 16) where
  -- a shard meets no more sets than it has nodes
  pub spread_size : (z : ℕ → ℕ) (i : ℕ) → spread K z i ≤ size z i
  spread_size z i =
      omega (arith, shard_cover K z i 1 (λ f. 0) (λ n l e. small n l) (λ f l. omega arith), sum_none 16 (λ f. 0) (λ f l. refl))

  placed_sizes : (z : ℕ → ℕ) → placed_count z ≡ sum_below 16 (size z)
  unfolding placed_count
  placed_sizes z = sum_by_key 32 16 z (λ i. 1) ∙ sum_cong 16 (λ i. size z i * 1) (size z) (λ i l. omega arith)

  -- two valid placements differ by no more nodes than are to spare
  pub placed_close : (y z : ℕ → ℕ) → Valid K y → Valid K z → placed_count y ≤ placed_count z + spare K
  unfolding spare
  placed_close y z v w =
      omega (
        arith,
        placed_sizes y,
        placed_sizes z,
        sum_add 16 (size z) (λ i. K.cap i - K.need i),
        sum_mono 16 (size y) (λ i. size z i + (K.cap i - K.need i)) (λ i l. omega (arith, v.most i l, w.most i l, w.sets i l, spread_size z i)),
      )

  module _ {w : ℕ} {price : ℕ → ℕ → ℕ} (wide : spare K < w) (p : Priced K w price) where
    pub weight_is : (z : ℕ → ℕ) → Valid K z → weight K z + placed_count z ≡ moves price z * w + 32
    unfolding weight placed_count moves
    weight_is z v =
        omega (
          arith,
          sum_scale 32 w (λ n. cond (has_owner z n) (price (z n) n) 0),
          sum_add 32 (λ n. cond (has_owner z n) (K.cost (z n) n) K.idle) (λ n. cond (has_owner z n) 1 0),
          sum_add 32 (λ n. cond (has_owner z n) (price (z n) n) 0 * w) (λ n. 1),
          sum_cong 32 (λ n. cond (has_owner z n) (K.cost (z n) n) K.idle + cond (has_owner z n) 1 0) (λ n. cond (has_owner z n) (price (z n) n) 0 * w + 1) (λ n l. at n l (has_owner z n) refl),
          sum_const 32 1,
        )
      where
        at : (n : ℕ) → n < 32 → (b : Bool) → has_owner z n ≡ b → cond (has_owner z n) (K.cost (z n) n) K.idle + cond (has_owner z n) 1 0 ≡ cond (has_owner z n) (price (z n) n) 0 * w + 1
        at n l true e = simp e (omega (arith, p.cost (z n) n (ltb-true (z n) 16 e) l (v.allowed n l (ltb-true (z n) 16 e))))
        at n l false e = simp e (omega (arith, p.idle))

    pub placed_is : (z : ℕ → ℕ) → Valid K z → placed_count z ≡ moves price z + stays price z
    unfolding placed_count moves stays
    placed_is z v =
        sum_cong 32 (λ n. cond (has_owner z n) 1 0) (λ n. cond (has_owner z n) (price (z n) n) 0 + cond (has_owner z n) (1 - price (z n) n) 0) (λ n l. at n l (has_owner z n) refl)
        ∙ sum_add 32 (λ n. cond (has_owner z n) (price (z n) n) 0) (λ n. cond (has_owner z n) (1 - price (z n) n) 0)
      where
        at : (n : ℕ) → n < 32 → (b : Bool) → has_owner z n ≡ b → cond (has_owner z n) 1 0 ≡ cond (has_owner z n) (price (z n) n) 0 + cond (has_owner z n) (1 - price (z n) n) 0
        at n l true e = simp e (omega (arith, p.low (z n) n (ltb-true (z n) 16 e) l (v.allowed n l (ltb-true (z n) 16 e))))
        at n l false e = simp e
