-- The choice of a placement for subgroup g depends on the settings' nodes and sets and on the words and old masks of g's own shards: under
-- other settings that agree on these it is the same choice.
use Rattle.std.specs.Prelude.{ℕ, ◌≤◌, ◌<◌, Bool, true, false, cond, List, ◌⊎◌, ◌≡◌}
use Rattle.std.proofs.Common.{arith, inl, inr, sym, ap₂, ◌∙◌}
use Rattle.std.proofs.Math.Path.{ap}
use Rattle.std.proofs.Math.Dec.{eqb}
use Rattle.base_laws.specs.Bools.{either}
use Rattle.base_sum_laws.specs.Definitions.{sum_below}
use Rattle.base_sum_laws.specs.Sums.{sum_cong, sum_past}
use Rattle.settings_values.specs.Definitions.{nodes, shards, set_of, subgroup, need, cap}
use Rattle.place_groups.specs.Definitions.{NotLater, of_group}
use Rattle.place_laws.specs.Cases.{group_is, group_past}

-- two settings are alike for subgroup g
pub record AlikeGroup (σ τ : List ℕ) (g : ℕ) : Type 0 where
  pub nodes_same : nodes σ ≡ nodes τ
  pub sets_same : (n : ℕ) → n < nodes σ → set_of σ n ≡ set_of τ n
  pub shards_same : (s : ℕ) → of_group σ g s ≡ of_group τ g s
  pub needs_same : (s : ℕ) → of_group σ g s ≡ true → need σ s ≡ need τ s
  pub caps_same : (s : ℕ) → of_group σ g s ≡ true → cap σ s ≡ cap τ s

-- a sum over the shards of a subgroup, by any bound from S up
group_sum : (σ : List ℕ) (g : ℕ) (f : ℕ → ℕ) → shards σ ≤ 16
    → sum_below (shards σ) (λ s. cond (eqb (subgroup σ s) g) (f s) 0) ≡ sum_below 16 (λ s. cond (of_group σ g s) (f s) 0)
group_sum σ g f few =
    sum_cong (shards σ) (λ s. cond (eqb (subgroup σ s) g) (f s) 0) (λ s. cond (of_group σ g s) (f s) 0)
    (λ s l. ap (λ (b : Bool). cond b (f s) 0) (sym (group_is σ g s l)))
    ∙ sym (sum_past (shards σ) 16 (λ s. cond (of_group σ g s) (f s) 0) few (λ s l m. ap (λ (b : Bool). cond b (f s) 0) (group_past σ g s l)))

module _ {σ τ : List ℕ} {g : ℕ} (few : shards σ ≤ 16) (few' : shards τ ≤ 16) (k : AlikeGroup σ τ g) where
  -- sums over g's shards of what old and new masks give
  module _ {old older : ℕ → ℕ} (same : (s : ℕ) → of_group σ g s ≡ true → old s ≡ older s) (f : ℕ → ℕ → ℕ) (masks : ℕ → ℕ) where
    pub sums_alike : sum_below (shards σ) (λ s. cond (eqb (subgroup σ s) g) (f (masks s) (old s)) 0)
        ≡ sum_below (shards τ) (λ s. cond (eqb (subgroup τ s) g) (f (masks s) (older s)) 0)
    sums_alike =
        group_sum σ g (λ s. f (masks s) (old s)) few
        ∙ sum_cong 16 (λ s. cond (of_group σ g s) (f (masks s) (old s)) 0) (λ s. cond (of_group τ g s) (f (masks s) (older s)) 0) (λ s l. one s (either (of_group σ g s)))
        ∙ sym (group_sum τ g (λ s. f (masks s) (older s)) few')
      where
        one : (s : ℕ) → (of_group σ g s ≡ true) ⊎ (of_group σ g s ≡ false)
            → cond (of_group σ g s) (f (masks s) (old s)) 0 ≡ cond (of_group τ g s) (f (masks s) (older s)) 0
        one s (inl o) = ap₂ (λ (b : Bool) (x : ℕ). cond b (f (masks s) x) 0) (k.shards_same s) (same s o)
        one s (inr o) = rw (o, sym (k.shards_same s) ∙ o)

  pub not_later_alike : {a b : ℕ → ℕ} → NotLater (of_group σ g) a b → NotLater (of_group τ g) a b
  not_later_alike (inl e) = inl (record { alike = λ s o. e.alike s (k.shards_same s ∙ o) })
  not_later_alike (inr e) =
      inr (record {
        shard = e.shard;
        picked = sym (k.shards_same e.shard) ∙ e.picked;
        alike = λ s l o. e.alike s l (k.shards_same s ∙ o);
        smaller = e.smaller;
      })

-- the same the other way
pub turned : {σ τ : List ℕ} {g : ℕ} → AlikeGroup σ τ g → AlikeGroup τ σ g
turned k =
    record {
      nodes_same = sym k.nodes_same;
      sets_same = λ n l. sym (k.sets_same n (omega (arith, k.nodes_same)));
      shards_same = λ s. sym (k.shards_same s);
      needs_same = λ s o. sym (k.needs_same s (k.shards_same s ∙ o));
      caps_same = λ s o. sym (k.caps_same s (k.shards_same s ∙ o));
    }
