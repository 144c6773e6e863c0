-- The choice in every subgroup is the choice over all shards, and the other way: subgroups share no shard, so moves and stays add up, and at the
-- first shard that differs, whatever its subgroup, the list is the smaller.
use Rattle.std.specs.Prelude.{◌≡◌, refl, true, List, ◌⊎◌, ℕ, zero, suc, ◌≤◌, ◌<◌}
use Rattle.std.proofs.Common.{sym, subst, inl, inr, ⊎_elim, arith, lt-ltb, ltb-true}
use Rattle.std.proofs.Math.Bool.{cond}
use Rattle.base_laws.specs.Bools.{lt_or_le, eq_or_ne}
use Rattle.base_sum_laws.specs.Sums.{sum_mono}
use Rattle.base_sum_laws.proofs.Sums.{sum_tight}
use Rattle.settings_values.specs.Definitions.{shards, subgroup, Settings}
use Rattle.place_groups.specs.Definitions.{group_moves, group_stays, LeastMoves, nodes_in, Sooner, NotLater, Chosen, of_group}
use Rattle.place_groups.specs.Chosen.{is_shard, plan_stays, LeastPlan, ChosenPlan, sooner_parts}
use Rattle.place_laws.specs.Cases.{of-group, group_shard}

pub is-shard : (σ : List ℕ) (s : ℕ) → s < shards σ → is_shard σ s ≡ true
unfolding is_shard
is-shard σ s l = lt-ltb s (shards σ) l

pub shard_is : (σ : List ℕ) (s : ℕ) → is_shard σ s ≡ true → s < shards σ
unfolding is_shard
shard_is σ s h = ltb-true s (shards σ) h

-- ---- from the subgroups to the whole

-- the order: not later in each subgroup is not later over all shards
module _ {σ : List ℕ} {a b : ℕ → ℕ} (right : Settings σ) (each : (g : ℕ) → g < 4 → NotLater (of_group σ g) a b) where
  -- the shards below k
  abbrev SameBelow : ℕ → Type 0
  SameBelow k = (s : ℕ) → s < k → nodes_in (a s) ≡ nodes_in (b s)

  grown : (k : ℕ) → SameBelow k → nodes_in (a k) ≡ nodes_in (b k) → SameBelow (suc k)
  grown k h e s l = ⊎_elim (λ d. subst (λ (i : ℕ). nodes_in (a i) ≡ nodes_in (b i)) (sym d) e) (λ d. h s (omega arith)) (eq_or_ne s k)

  -- one shard more
  next : (k : ℕ) → k < shards σ → SameBelow k → NotLater (of_group σ (subgroup σ k)) a b → SameBelow (suc k) ⊎ Sooner (is_shard σ) a b
  next k l h (inl e) = inl (grown k h (e.alike k (of-group σ (subgroup σ k) k l refl)))
  next k l h (inr f) =
      ⊎_elim (λ i. absurd (sooner_parts f (h f.shard i)))
      (λ i.
      ⊎_elim
      (λ e. inr (record {
        shard = f.shard;
        picked = is-shard σ f.shard (group_shard σ (subgroup σ k) f.shard f.picked);
        alike = λ s j o. h s (omega arith);
        smaller = f.smaller;
      }))
      (λ e. inl (grown k h (f.alike k (omega arith) (of-group σ (subgroup σ k) k l refl))))
      (eq_or_ne k f.shard))
      (lt_or_le f.shard k)

  upto : (k : ℕ) → k ≤ shards σ → SameBelow k ⊎ Sooner (is_shard σ) a b
  upto zero l = inl (λ s h. absurd (omega arith))
  upto (suc k) l =
      ⊎_elim (λ h. next k (omega arith) h (each (subgroup σ k) (omega (arith, right.subgroup_to k (omega arith))))) (λ f. inr f) (upto k (omega arith))

  pub not_later_whole : NotLater (is_shard σ) a b
  not_later_whole =
      ⊎_elim (λ h. inl (record { alike = λ s o. h s (shard_is σ s o) })) (λ f. inr f) (upto (shards σ) (omega arith))

-- least in every subgroup is least in all
pub least_whole : {σ : List ℕ} {held : ℕ} {old masks : ℕ → ℕ} → ((g : ℕ) → g < 4 → LeastMoves σ held old masks g) → LeastPlan σ held old masks
least_whole {σ} {held} {old} {masks} h =
    record {
      valid = λ g l. (h g l).valid;
      least = λ other v. sum_mono 4 (group_moves σ old masks) (group_moves σ old other) (λ g l. (h g l).least other (v g l));
    }

-- what is least in all is least in every subgroup in which something is
least_part : {σ : List ℕ} {held : ℕ} {old masks other : ℕ → ℕ} → ((g : ℕ) → g < 4 → LeastMoves σ held old masks g) → LeastPlan σ held old other
    → (g : ℕ) → g < 4 → LeastMoves σ held old other g
least_part {σ} {held} {old} {masks} {other} h w g l =
    record {
      valid = w.valid g l;
      least = λ p v.
          omega (
            arith,
            (h g l).least p v,
            sum_tight 4 (group_moves σ old masks) (group_moves σ old other) (λ k i. (h k i).least other (w.valid k i)) (w.least masks (λ k i. (h k i).valid)) g l,
          );
    }

pub chosen_whole : {σ : List ℕ} {held : ℕ} {old masks : ℕ → ℕ} → Settings σ → ((g : ℕ) → g < 4 → Chosen σ held old masks g) → ChosenPlan σ held old masks
chosen_whole {σ} {held} {old} {masks} right h =
    record {
      least = least_whole (λ g l. (h g l).least);
      most = λ other w. sum_mono 4 (group_stays σ old other) (group_stays σ old masks) (fewer other w);
      first = λ other w e. not_later_whole right (λ g l. (h g l).first other (part other w g l) (as_many other w e g l));
    }
  where
    part : (other : ℕ → ℕ) → LeastPlan σ held old other → (g : ℕ) → g < 4 → LeastMoves σ held old other g
    part other w = least_part (λ k i. (h k i).least) w

    fewer : (other : ℕ → ℕ) → LeastPlan σ held old other → (g : ℕ) → g < 4 → group_stays σ old other g ≤ group_stays σ old masks g
    fewer other w g l = (h g l).most other (part other w g l)

    -- as many in all, and nowhere more: as many in each subgroup
    as_many : (other : ℕ → ℕ) → LeastPlan σ held old other → plan_stays σ old other ≡ plan_stays σ old masks → (g : ℕ) → g < 4 → group_stays σ old other g ≡ group_stays σ old masks g
    as_many other w e g l =
        omega (arith, fewer other w g l, sum_tight 4 (group_stays σ old other) (group_stays σ old masks) (fewer other w) (omega arith) g l)

-- ---- from the whole to a subgroup

-- the masks of subgroup g from a, the others from b
unfoldable pub spliced : List ℕ → ℕ → (ℕ → ℕ) → (ℕ → ℕ) → ℕ → ℕ
spliced σ g a b s = cond (of_group σ g s) (a s) (b s)
