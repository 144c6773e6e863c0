-- Laws of the choice among placements of least moves.
use Rattle.std.specs.Prelude.{ℕ, ◌+◌, ◌^◌, ◌≤◌, ◌<◌, Bool, true, false, cond, List, ◌≡◌, refl, eqb, ltb}
use Rattle.std.proofs.Common.{arith, inl, inr, ⊎_elim, sym, ap, ◌∙◌, subst}
use Rattle.std.specs.Int.Bits.{bit_and}
use Rattle.base_laws.specs.Bools.{lt_or_le}
use Rattle.base_laws.specs.Definitions.{has, count, minus}
use Rattle.base_laws.specs.Masks.{ext, count_and_minus}
use Rattle.base_sum_laws.specs.Definitions.{sum_below, list_from, list_before}
use Rattle.base_sum_laws.specs.Sums.{sum_add, sum_cong}
use Rattle.base_sum_laws.specs.Lists.{before_self, list_cong}
use Rattle.base_sum_laws.proofs.Lists.{list_tells}
use Rattle.settings_values.specs.Definitions.{shards, subgroup}
use Rattle.place_groups.specs.Definitions.{group_moves_at, group_moves, group_stays_at, group_stays, LowestUnplaced, plan_moves, nodes_in, SameNodes, Sooner, NotLater, AllValid}

-- s is a shard
unfoldable pub is_shard : List ℕ → ℕ → Bool
is_shard σ s = ltb s (shards σ)

-- the stays of all four subgroups
abbrev pub plan_stays : List ℕ → (ℕ → ℕ) → (ℕ → ℕ) → ℕ
plan_stays σ old masks = sum_below 4 (group_stays σ old masks)

-- the plan as a whole: valid in every subgroup, and none that is has fewer moves in all
pub record LeastPlan (σ : List ℕ) (held : ℕ) (old masks : ℕ → ℕ) : Type 0 where
  pub valid : AllValid σ held masks
  pub least : (other : ℕ → ℕ) → AllValid σ held other → plan_moves σ old masks ≤ plan_moves σ old other

-- of those with the most stays the first, over all shards whatever their subgroup
pub record ChosenPlan (σ : List ℕ) (held : ℕ) (old masks : ℕ → ℕ) : Type 0 where
  pub least : LeastPlan σ held old masks
  pub most : (other : ℕ → ℕ) → LeastPlan σ held old other → plan_stays σ old other ≤ plan_stays σ old masks
  pub first : (other : ℕ → ℕ) → LeastPlan σ held old other → plan_stays σ old other ≡ plan_stays σ old masks → NotLater (is_shard σ) masks other

-- ---- laws

-- there is one lowest subgroup without a valid placement
pub lowest_one : (σ : List ℕ) (held g h : ℕ) → LowestUnplaced σ held g → LowestUnplaced σ held h → g ≡ h
lowest_one σ held g h a b =
    ⊎_elim (λ l. let v = b.lower g l in absurd (a.none.none v.0 v.1))
    (λ l.
    ⊎_elim (λ m. let v = a.lower h m in absurd (b.none.none v.0 v.1)) (λ m. omega arith) (lt_or_le h g))
    (lt_or_le g h)

-- a placed node moves or stays
pub moves_stays : (σ : List ℕ) (old masks : ℕ → ℕ) (g : ℕ)
    → group_moves σ old masks g + group_stays σ old masks g ≡ sum_below (shards σ) (λ s. cond (eqb (subgroup σ s) g) (count (masks s)) 0)
unfolding group_moves group_moves_at group_stays group_stays_at
moves_stays σ old masks g =
    sym (sum_add (shards σ) (group_moves_at σ old masks g) (group_stays_at σ old masks g))
    ∙ sum_cong (shards σ) (λ s. group_moves_at σ old masks g s + group_stays_at σ old masks g s) (λ s. cond (eqb (subgroup σ s) g) (count (masks s)) 0)
    (λ s l. both (eqb (subgroup σ s) g) (masks s) (old s))
  where
    both : (b : Bool) (new was : ℕ) → cond b (count (minus new was)) 0 + cond b (count (bit_and new was)) 0 ≡ cond b (count new) 0
    both true new was = omega (arith, count_and_minus new was)
    both false new was = refl

-- a mask is told by its list
pub nodes_tell : (a b : ℕ) → a < 2 ^ 32 → b < 2 ^ 32 → nodes_in a ≡ nodes_in b → a ≡ b
unfolding nodes_in
nodes_tell a b p q e = ext 32 a b p q (λ n l. list_tells 32 0 (has a) (has b) e n (omega arith) (omega arith))

-- a mask of the numbers of which f holds has their list
pub nodes_listed : (mask : ℕ) (f : ℕ → Bool) → ((n : ℕ) → n < 32 → has mask n ≡ f n) → nodes_in mask ≡ list_from 0 32 f
unfolding nodes_in
nodes_listed mask f h = list_cong 32 0 (has mask) f (λ n p q. h n (omega arith))

-- masks that are equal at the lower of these shards: the smaller list at s decides
pub decided_at : {of : ℕ → Bool} {a b : ℕ → ℕ} (s : ℕ) → of s ≡ true → ((t : ℕ) → t < s → of t ≡ true → a t ≡ b t)
    → list_before (nodes_in (a s)) (nodes_in (b s)) ≡ true → Sooner of a b
decided_at s o h l = record { shard = s; picked = o; alike = λ t k p. ap nodes_in (h t k p); smaller = l }

module _ {of : ℕ → Bool} {a b : ℕ → ℕ} where
  pub same_back : SameNodes of a b → SameNodes of b a
  same_back e = record { alike = λ s o. sym (e.alike s o) }

  -- a shard with the same nodes is not the one that decides
  pub sooner_parts : (f : Sooner of a b) → nodes_in (a f.shard) ≡ nodes_in (b f.shard) → ⊥
  sooner_parts f e =
      before_self (nodes_in (b f.shard)) (subst (λ (l : List ℕ). list_before l (nodes_in (b f.shard)) ≡ true) e f.smaller)

-- masks that are equal at these shards stand in the same place
pub not_later_alike : {of : ℕ → Bool} {a b c d : ℕ → ℕ} → ((s : ℕ) → of s ≡ true → a s ≡ c s) → ((s : ℕ) → of s ≡ true → b s ≡ d s)
    → NotLater of a b → NotLater of c d
not_later_alike {of} {a} {b} {c} {d} p q (inl e) =
    inl (record { alike = λ s o. subst (λ (m : ℕ). nodes_in m ≡ nodes_in (d s)) (p s o) (subst (λ (m : ℕ). nodes_in (a s) ≡ nodes_in m) (q s o) (e.alike s o)) })
not_later_alike {of} {a} {b} {c} {d} p q (inr f) =
    inr (record {
      shard = f.shard;
      picked = f.picked;
      alike = λ s l o. subst (λ (m : ℕ). nodes_in m ≡ nodes_in (d s)) (p s o) (subst (λ (m : ℕ). nodes_in (a s) ≡ nodes_in m) (q s o) (f.alike s l o));
      smaller = subst (λ (m : ℕ). list_before (nodes_in m) (nodes_in (d f.shard)) ≡ true) (p f.shard f.picked)
          (subst (λ (m : ℕ). list_before (nodes_in (a f.shard)) (nodes_in m) ≡ true) (q f.shard f.picked) f.smaller);
    })
