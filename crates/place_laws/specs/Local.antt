-- Validity, moves and stays of a placement of subgroup g speak of the masks of g's own shards alone, so the masks of several subgroups
-- can stand in one array.
use Rattle.std.specs.Prelude.{◌≡◌, Bool, true, cond, List, ℕ, ◌≤◌, ◌<◌, eqb}
use Rattle.std.proofs.Common.{sym, ap, ◌∙◌, subst, ⊎_elim, arith, eqb-true}
use Rattle.std.specs.Int.Bits.{bit_and}
use Rattle.base_laws.specs.Bools.{either}
use Rattle.base_laws.specs.Definitions.{count, subset, disjoint, minus}
use Rattle.base_sum_laws.specs.Sums.{sum_cong}
use Rattle.settings_values.specs.Definitions.{shards, subgroup, need, cap}
use Rattle.place_groups.specs.Definitions.{sets_in, group_valid, group_moves_at, group_moves, group_stays_at, group_stays, LeastMoves, of_group}
use Rattle.place_laws.specs.Cases.{of-group, group_shard, group_subgroup}
use Rattle.place_laws.specs.Shards.{ShardPlaced, group_valid_of, shard_placed}

-- the masks are alike at subgroup g's shards
pub record AlikeInGroup (σ : List ℕ) (g : ℕ) (a b : ℕ → ℕ) : Type 0 where
  pub at : (s : ℕ) → of_group σ g s ≡ true → a s ≡ b s

module _ {σ : List ℕ} {g : ℕ} {a b : ℕ → ℕ} (k : AlikeInGroup σ g a b) where
  pub valid_local : (held : ℕ) → group_valid σ held a g ≡ true → group_valid σ held b g ≡ true
  valid_local held v = group_valid_of σ held b g (λ s o. moved s o (shard_placed σ held a g v s o))
    where
      lower : (s t : ℕ) → of_group σ g s ≡ true → t < s → subgroup σ t ≡ subgroup σ s → of_group σ g t ≡ true
      lower s t o l e = of-group σ g t (omega (arith, group_shard σ g s o)) (e ∙ group_subgroup σ g s o)

      moved : (s : ℕ) → of_group σ g s ≡ true → ShardPlaced σ held a s → ShardPlaced σ held b s
      moved s o w = record {
        inside = subst (λ (m : ℕ). subset m held ≡ true) (k.at s o) w.inside;
        sized = subst (λ (m : ℕ). count m ≤ cap σ s) (k.at s o) w.sized;
        spreads = subst (λ (m : ℕ). need σ s ≤ sets_in σ m) (k.at s o) w.spreads;
        shares = λ t l e. subst (λ (m : ℕ). disjoint m (b s) ≡ true) (k.at t (lower s t o l e))
            (subst (λ (m : ℕ). disjoint (a t) m ≡ true) (k.at s o) (w.shares t l e));
      }

  -- a sum over the subgroup's shards
  module _ (value : ℕ → ℕ → ℕ) where
    value_local : (s : ℕ) → s < shards σ → cond (eqb (subgroup σ s) g) (value (a s) s) 0 ≡ cond (eqb (subgroup σ s) g) (value (b s) s) 0
    value_local s l =
        ⊎_elim
        (λ e. ap (λ (m : ℕ). cond (eqb (subgroup σ s) g) (value m s) 0) (k.at s (of-group σ g s l (eqb-true (subgroup σ s) g e))))
        (λ e. ap (λ (c : Bool). cond c (value (a s) s) 0) e ∙ sym (ap (λ (c : Bool). cond c (value (b s) s) 0) e))
        (either (eqb (subgroup σ s) g))

  pub moves_local : (old : ℕ → ℕ) → group_moves σ old a g ≡ group_moves σ old b g
  unfolding group_moves group_moves_at
  moves_local old = sum_cong (shards σ) (group_moves_at σ old a g) (group_moves_at σ old b g) (value_local (λ m s. count (minus m (old s))))

  pub stays_local : (old : ℕ → ℕ) → group_stays σ old a g ≡ group_stays σ old b g
  unfolding group_stays group_stays_at
  stays_local old = sum_cong (shards σ) (group_stays_at σ old a g) (group_stays_at σ old b g) (value_local (λ m s. count (bit_and m (old s))))

  pub least_local : {held : ℕ} {old : ℕ → ℕ} → LeastMoves σ held old a g → LeastMoves σ held old b g
  least_local {held} {old} w = record {
    valid = valid_local held w.valid;
    least = λ other v. omega (arith, w.least other v, moves_local old);
  }
