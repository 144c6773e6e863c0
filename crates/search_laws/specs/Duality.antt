-- Weak duality: weights of shards for their needs and for their caps, of nodes, and of pairs of a shard and a set
-- bound the weight of a valid placement from below. Node weights are counted from a base.
use Rattle.std.specs.Prelude.{◌≡◌, Bool}
use Rattle.std.proofs.Math.Path.{refl}
use Rattle.std.proofs.Math.Bool.{true, false, cond}
use Prim.Native.Nat.{ℕ, ◌+◌, ◌*◌, ◌-◌, ◌≤◌, ◌<◌}
use Rattle.std.proofs.Common.{mul-le-mul_right, eqb-true}
use native.Mathlib.Omega.{arith}
use Rattle.std.proofs.Math.Dec.{eqb}
use Rattle.base_sum_laws.specs.Definitions.{sum_below}
use Rattle.base_sum_laws.specs.Sums.{sum_cong, sum_mono, sum_add, count_times}
use Rattle.search_laws.specs.Case.{Case, size, meets, spread}
use Rattle.search_laws.specs.Shards.{size_in, by_set, met_nodes}

-- the weights: of a shard for each set that it needs, of a shard for each node that it may have, of a node, and of shard i and set f
pub record DualWeights : Type 0 where
  pub base : ℕ
  pub need : ℕ → ℕ
  pub room : ℕ → ℕ
  pub node : ℕ → ℕ
  pub pair : ℕ → ℕ → ℕ

-- no pair weighs more than its shard's need
pub record Modest (W : DualWeights) : Type 0 where
  pub below : (i f : ℕ) → i < 16 → f < 16 → W.pair i f ≤ W.need i

-- what shard i asks with node n
abbrev pub asked : Case → DualWeights → ℕ → ℕ → ℕ
asked K W i n = K.cost i n + W.pair i (K.set_of n) + W.room i + W.node n

-- node n's inequality under placement z, with what it leaves over
pub record Bounds (K : Case) (W : DualWeights) (z slack : ℕ → ℕ) (n : ℕ) : Type 0 where
  pub there : z n < 16 → W.need (z n) + W.base + slack n ≤ asked K W (z n) n
  pub nowhere : 16 ≤ z n → W.base + slack n ≤ K.idle + W.node n

-- what all weights grant: the shards' needs and the base for each node
unfoldable pub gain : Case → DualWeights → ℕ
gain K W = sum_below 16 (λ i. K.need i * W.need i) + sum_below 32 (λ n. W.base)

-- what all weights take: the pairs, the caps and the nodes
unfoldable pub toll : Case → DualWeights → ℕ
toll K W = sum_below 16 (λ i. sum_below 16 (W.pair i)) + sum_below 16 (λ i. K.cap i * W.room i) + sum_below 32 W.node

-- one shard: each set that it meets counts at least once
module _ (K : Case) (z : ℕ → ℕ) (i u : ℕ) (w : ℕ → ℕ) (small : (n : ℕ) → n < 32 → z n ≡ i → K.set_of n < 16)
    (below : (f : ℕ) → f < 16 → w f ≤ u) where
  met : (f : ℕ) → f < 16 → cond (meets K z i f) (u - w f) 0 ≤ size_in K z i f * (u - w f)
  met f l = go (meets K z i f) refl
    where
      go : (b : Bool) → meets K z i f ≡ b → cond (meets K z i f) (u - w f) 0 ≤ size_in K z i f * (u - w f)
      go true e = simp e (omega (arith, mul-le-mul_right (u - w f) (met_nodes K z i f e)))
      go false e = simp e (omega arith)

  pub shard_cover : spread K z i * u + sum_below 32 (λ n. cond (eqb (z n) i) (w (K.set_of n)) 0) ≤ size z i * u + sum_below 16 w
  unfolding spread
  shard_cover =
      omega (
        arith,
        count_times 16 u (meets K z i),
        count_times 32 u (λ n. eqb (z n) i),
        sum_mono 16 (λ f. cond (meets K z i f) (u - w f) 0) (λ f. size_in K z i f * (u - w f)) met,
        by_set K z i small (λ f. u - w f),
        sum_add 32 (λ n. cond (eqb (z n) i) (u - w (K.set_of n)) 0) (λ n. cond (eqb (z n) i) (w (K.set_of n)) 0),
        sum_cong 32 (λ n. cond (eqb (z n) i) (u - w (K.set_of n)) 0 + cond (eqb (z n) i) (w (K.set_of n)) 0) (λ n. cond (eqb (z n) i) u 0) (λ n l. whole n l),
        sum_add 16 (λ f. cond (meets K z i f) (u - w f) 0) w,
        sum_mono 16 (λ f. cond (meets K z i f) u 0) (λ f. cond (meets K z i f) (u - w f) 0 + w f) (λ f l. part (meets K z i f) (w f)),
      )
    where
      whole : (n : ℕ) → n < 32 → cond (eqb (z n) i) (u - w (K.set_of n)) 0 + cond (eqb (z n) i) (w (K.set_of n)) 0 ≡ cond (eqb (z n) i) u 0
      whole n l = go (eqb (z n) i) refl
        where
          go : (b : Bool) → eqb (z n) i ≡ b → cond (eqb (z n) i) (u - w (K.set_of n)) 0 + cond (eqb (z n) i) (w (K.set_of n)) 0 ≡ cond (eqb (z n) i) u 0
          go true e = simp e (omega (arith, below (K.set_of n) (small n l (eqb-true (z n) i e))))
          go false e = simp e

      part : (b : Bool) (a : ℕ) → cond b u 0 ≤ cond b (u - a) 0 + a
      part true a = omega arith
      part false a = omega arith
