-- The choice by masks: it is the search's first placement of least weight, it speaks of its subgroup's masks alone, and there is at
-- most one.
use Rattle.std.specs.Prelude.{◌≡◌, refl, Bool, true, ℕ, ◌^◌, ◌<◌}
use Rattle.std.proofs.Math.Path.{sym, ap}
use Rattle.std.proofs.Common.{◌∙◌, inl, lt_of_lt_of_le, lt_of_le_of_lt, arith, pow_mono}
use Rattle.std.proofs.Math.Bool.{false, cond}
use mathlib.Core.List.{List}
use Rattle.std.specs.Int.Bits.{bit_and}
use Rattle.std.proofs.Math.Dec.{eqb}
use Rattle.base_laws.specs.Bools.{clash}
use Rattle.base_laws.specs.Definitions.{count, minus}
use Rattle.base_laws.specs.Masks.{subset_le}
use Rattle.base_sum_laws.proofs.Sums.{sum_none}
use Rattle.settings_values.specs.Definitions.{nodes, shards, subgroup, Settings}
use Rattle.place_groups.specs.Definitions.{group_valid, group_moves_at, group_moves, group_stays_at, group_stays, SameNodes, Chosen, of_group}
use Rattle.place_groups.specs.Chosen.{nodes_tell, not_later_alike}
use Rattle.place_groups.proofs.Chosen.{not_later_both}
use Rattle.place_laws.specs.Cases.{of-group, group_is}
use Rattle.place_laws.specs.Shards.{group_valid_of, shard_placed}
use Rattle.place_laws.specs.Local.{AlikeInGroup, stays_local, least_local}

-- ---- one subgroup's masks alone

pub chosen_local : {σ : List ℕ} {g : ℕ} {a b : ℕ → ℕ} {held : ℕ} {old : ℕ → ℕ} → AlikeInGroup σ g a b → Chosen σ held old a g → Chosen σ held old b g
chosen_local {old = old} k w =
    record {
      least = least_local k w.least;
      most = λ other l. omega (arith, w.most other l, stays_local k old);
      first = λ other l e. not_later_alike k.at (λ s o. refl) (w.first other l (e ∙ sym (stays_local k old)));
    }

-- ---- a subgroup without shards

module _ (σ : List ℕ) (g : ℕ) (empty : (s : ℕ) → of_group σ g s ≡ false) where
  not_ours : (s : ℕ) → s < shards σ → eqb (subgroup σ s) g ≡ false
  not_ours s l = sym (group_is σ g s l) ∙ empty s

  -- nothing moves
  pub none_moves : (old masks : ℕ → ℕ) → group_moves σ old masks g ≡ 0
  unfolding group_moves group_moves_at
  none_moves old masks =
      sum_none (shards σ) (group_moves_at σ old masks g) (λ s l. ap (λ (b : Bool). cond b (count (minus (masks s) (old s))) 0) (not_ours s l))

  none_stays : (old masks : ℕ → ℕ) → group_stays σ old masks g ≡ 0
  unfolding group_stays group_stays_at
  none_stays old masks =
      sum_none (shards σ) (group_stays_at σ old masks g) (λ s l. ap (λ (b : Bool). cond b (count (bit_and (masks s) (old s))) 0) (not_ours s l))

  -- so any masks are its choice
  pub chosen_none : (held : ℕ) (old masks : ℕ → ℕ) → Chosen σ held old masks g
  chosen_none held old masks =
      record {
        least =
            record {
              valid = group_valid_of σ held masks g (λ s o. clash o (empty s));
              least = λ other v. omega (arith, none_moves old masks);
            };
        most = λ other l. omega (arith, none_stays old other);
        first = λ other l e. inl (record { alike = λ s o. clash o (empty s) });
      }

-- ---- at most one

module _ {σ : List ℕ} {held : ℕ} (right : Settings σ) (inside : held < 2 ^ nodes σ) (g : ℕ) where
  -- a mask of a valid placement has no node from 32 up
  pub mask_small : (masks : ℕ → ℕ) → group_valid σ held masks g ≡ true → (s : ℕ) → of_group σ g s ≡ true → masks s < 2 ^ 32
  mask_small masks v s o =
      lt_of_le_of_lt (subset_le (masks s) held (shard_placed σ held masks g v s o).inside) (lt_of_lt_of_le inside (pow_mono right.sizes.nodes_to))

  -- valid placements with the same lists are the same
  pub same_masks : {a b : ℕ → ℕ} → group_valid σ held a g ≡ true → group_valid σ held b g ≡ true → SameNodes (of_group σ g) a b
      → (s : ℕ) → of_group σ g s ≡ true → a s ≡ b s
  same_masks {a} {b} v w e s o = nodes_tell (a s) (b s) (mask_small a v s o) (mask_small b w s o) (e.alike s o)

  -- two choices for one subgroup are one
  pub chosen_unique : {old a b : ℕ → ℕ} → Chosen σ held old a g → Chosen σ held old b g → (s : ℕ) → s < shards σ → subgroup σ s ≡ g → a s ≡ b s
  chosen_unique {old} {a} {b} p q s l e =
      let more = p.most b q.least in
      let less = q.most a p.least in
      same_masks p.least.valid q.least.valid (not_later_both (p.first b q.least (omega arith)) (q.first a p.least (omega arith))) s (of-group σ g s l e)
