-- Weak duality: weights of shards for their needs and for their caps, of nodes, and of pairs of a shard and a set
-- bound the weight of a valid placement from below. Node weights are counted from a base.
use Rattle.std.specs.Prelude.{◌≡◌, Bool}
use Rattle.std.proofs.Math.Path.{refl}
use Rattle.std.proofs.Math.Bool.{true, false, cond}
use Prim.Native.Nat.{ℕ, ◌+◌, ◌*◌, ◌≤◌, ◌<◌}
use Rattle.std.proofs.Common.{mul-le-mul_right, ltb-true, ltb-false}
use native.Mathlib.Omega.{arith}
use Rattle.std.proofs.Math.Dec.{eqb}
use Rattle.base_sum_laws.specs.Definitions.{sum_below}
use Rattle.base_sum_laws.specs.Sums.{sum_mono, sum_add}
use Rattle.base_sum_laws.proofs.Sums.{sum_by_key}
use Rattle.search_laws.specs.Case.{Case, Valid, has_owner, size, weight}
use Rattle.search_laws.specs.Shards.{by_shard}
use Rattle.search_laws.specs.Duality.{DualWeights, Modest, Bounds, gain, toll, shard_cover}

module _ (K : Case) (W : DualWeights) (z slack : ℕ → ℕ) (v : Valid K z) (small : (n : ℕ) → n < 32 → K.set_of n < 16) (modest : Modest W)
    (bounds : (n : ℕ) → n < 32 → Bounds K W z slack n) where
  -- the rooms that are used are at most all
  by_room : sum_below 32 (λ n. cond (has_owner z n) (W.room (z n)) 0) ≤ sum_below 16 (λ i. K.cap i * W.room i)
  by_room =
      omega (
        arith,
        sum_by_key 32 16 z W.room,
        sum_mono 16 (λ i. size z i * W.room i) (λ i. K.cap i * W.room i) (λ i l. mul-le-mul_right (W.room i) (v.most i l)),
      )

  -- the needs are met, but for what the pairs take
  by_need : sum_below 16 (λ i. K.need i * W.need i) + sum_below 32 (λ n. cond (has_owner z n) (W.pair (z n) (K.set_of n)) 0)
      ≤ sum_below 32 (λ n. cond (has_owner z n) (W.need (z n)) 0) + sum_below 16 (λ i. sum_below 16 (W.pair i))
  by_need =
      omega (
        arith,
        by_shard z (λ i n. W.pair i (K.set_of n)),
        sum_by_key 32 16 z W.need,
        sum_add 16 (λ i. K.need i * W.need i) (λ i. sum_below 32 (λ n. cond (eqb (z n) i) (W.pair i (K.set_of n)) 0)),
        sum_add 16 (λ i. size z i * W.need i) (λ i. sum_below 16 (W.pair i)),
        sum_mono 16 (λ i. K.need i * W.need i + sum_below 32 (λ n. cond (eqb (z n) i) (W.pair i (K.set_of n)) 0))
            (λ i. size z i * W.need i + sum_below 16 (W.pair i)) (λ i l. at i l),
      )
    where
      at : (i : ℕ) → i < 16 → K.need i * W.need i + sum_below 32 (λ n. cond (eqb (z n) i) (W.pair i (K.set_of n)) 0) ≤ size z i * W.need i + sum_below 16 (W.pair i)
      at i l =
          omega (
            arith,
            mul-le-mul_right (W.need i) (v.sets i l),
            shard_cover K z i (W.need i) (W.pair i) (λ n q e. small n q) (λ f q. modest.below i f l q),
          )

  -- the bound
  pub weak : gain K W + sum_below 32 slack ≤ weight K z + toll K W
  unfolding gain toll weight
  weak =
      omega (
        arith,
        by_room,
        by_need,
        sum_mono 32 (λ n. need n + W.base + slack n) (λ n. cost n + pair n + room n + W.node n) (λ n l. at n l (has_owner z n) refl),
        sum_add 32 (λ n. need n + W.base) slack,
        sum_add 32 need (λ n. W.base),
        sum_add 32 (λ n. cost n + pair n + room n) W.node,
        sum_add 32 (λ n. cost n + pair n) room,
        sum_add 32 cost pair,
      )
    where
      need : ℕ → ℕ
      need n = cond (has_owner z n) (W.need (z n)) 0

      cost : ℕ → ℕ
      cost n = cond (has_owner z n) (K.cost (z n) n) K.idle

      pair : ℕ → ℕ
      pair n = cond (has_owner z n) (W.pair (z n) (K.set_of n)) 0

      room : ℕ → ℕ
      room n = cond (has_owner z n) (W.room (z n)) 0

      at : (n : ℕ) → n < 32 → (b : Bool) → has_owner z n ≡ b → need n + W.base + slack n ≤ cost n + pair n + room n + W.node n
      at n l true e = simp e ((bounds n l).there (ltb-true (z n) 16 e))
      at n l false e = simp e (omega (arith, (bounds n l).nowhere (ltb-false (z n) 16 e)))
