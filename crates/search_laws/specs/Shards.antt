-- Sums over the placed nodes, shard by shard, and over one shard's nodes, set by set.
use Rattle.std.specs.Prelude.{◌≡◌, refl, Bool, ◌&&◌, ℕ, ◌*◌, ◌≤◌, ◌<◌}
use Rattle.std.proofs.Math.Path.{sym, ap}
use Rattle.std.proofs.Common.{◌∙◌, arith, eqb-true, lt-ltb}
use Rattle.std.proofs.Math.Bool.{true, false, cond}
use Rattle.std.proofs.Math.Dec.{eqb}
use Rattle.base_laws.specs.Definitions.{count_below}
use Rattle.base_laws.specs.Below.{any_witness, count_none, count_pos}
use Rattle.base_sum_laws.specs.Definitions.{sum_below}
use Rattle.base_sum_laws.specs.Sums.{sum_cong, sum_single, count_sum, count_times}
use Rattle.base_sum_laws.proofs.Sums.{sum_none, sum_swap}
use Rattle.search_laws.specs.Case.{Case, has_owner, size, meets}

-- how many nodes of set f shard i has
unfoldable pub size_in : Case → (ℕ → ℕ) → ℕ → ℕ → ℕ
size_in K z i f = count_below 32 (λ n. eqb (z n) i && eqb (K.set_of n) f)

-- a sum over the placed nodes, shard by shard
pub by_shard : (z : ℕ → ℕ) (g : ℕ → ℕ → ℕ) →
    sum_below 32 (λ n. cond (has_owner z n) (g (z n) n) 0) ≡ sum_below 16 (λ i. sum_below 32 (λ n. cond (eqb (z n) i) (g i n) 0))
by_shard z g =
    sum_cong 32 (λ n. cond (has_owner z n) (g (z n) n) 0) (λ n. sum_below 16 (λ i. cond (eqb (z n) i) (g i n) 0))
    (λ n l. sym (sum_single 16 (z n) (λ i. g i n)))
    ∙ sum_swap 32 16 (λ n i. cond (eqb (z n) i) (g i n) 0)

module _ (K : Case) (z : ℕ → ℕ) (i : ℕ) where
  -- a set that is met has a node, and one that is not has none
  pub met_nodes : (f : ℕ) → meets K z i f ≡ true → 1 ≤ size_in K z i f
  unfolding meets size_in
  met_nodes f e =
      let (n, q, d) = any_witness 32 (λ n. eqb (z n) i && eqb (K.set_of n) f) e in
      count_pos 32 (λ n. eqb (z n) i && eqb (K.set_of n) f) n q d

  pub unmet_nodes : (f : ℕ) → meets K z i f ≡ false → size_in K z i f ≡ 0
  unfolding meets size_in
  unmet_nodes f e = count_none 32 (λ n. eqb (z n) i && eqb (K.set_of n) f) e

  module _ (small : (n : ℕ) → n < 32 → z n ≡ i → K.set_of n < 16) where
    -- a sum over the shard's nodes, set by set
    pub by_set : (g : ℕ → ℕ) → sum_below 32 (λ n. cond (eqb (z n) i) (g (K.set_of n)) 0) ≡ sum_below 16 (λ f. size_in K z i f * g f)
    unfolding size_in
    by_set g =
        sum_cong 32 (λ n. cond (eqb (z n) i) (g (K.set_of n)) 0) (λ n. sum_below 16 (λ f. cond (eqb (z n) i && eqb (K.set_of n) f) (g f) 0))
        (λ n l. at n l (eqb (z n) i) refl)
        ∙ (sum_swap 32 16 (λ n f. cond (eqb (z n) i && eqb (K.set_of n) f) (g f) 0)
        ∙ sum_cong 16 (λ f. sum_below 32 (λ n. cond (eqb (z n) i && eqb (K.set_of n) f) (g f) 0)) (λ f. count_below 32 (λ n. eqb (z n) i && eqb (K.set_of n) f) * g f)
        (λ f l. sym (count_times 32 (g f) (λ n. eqb (z n) i && eqb (K.set_of n) f))))
      where
        at : (n : ℕ) → n < 32 → (b : Bool) → eqb (z n) i ≡ b →
            cond (eqb (z n) i) (g (K.set_of n)) 0 ≡ sum_below 16 (λ f. cond (eqb (z n) i && eqb (K.set_of n) f) (g f) 0)
        at n l true e = rw e (sym (sum_single 16 (K.set_of n) g ∙ ap (λ (b : Bool). cond b (g (K.set_of n)) 0) (lt-ltb (K.set_of n) 16 (small n l (eqb-true (z n) i e)))))
        at n l false e = rw e (sym (sum_none 16 (λ f. 0) (λ f q. refl)))

    pub size_by_set : size z i ≡ sum_below 16 (size_in K z i)
    size_by_set =
        count_sum 32 (λ n. eqb (z n) i) ∙ (by_set (λ f. 1) ∙ sum_cong 16 (λ f. size_in K z i f * 1) (size_in K z i) (λ f l. omega arith))
