-- The choice in every subgroup is the choice over all shards, and the other way: subgroups share no shard, so moves and stays add up, and at the
-- first shard that differs, whatever its subgroup, the list is the smaller.
use Rattle.std.specs.Prelude.{◌≡◌, refl, Bool, true, false, List, ℕ, ◌+◌, ◌^◌, ◌<◌}
use Rattle.std.proofs.Common.{sym, subst, inl, inr, ⊎_elim, arith}
use Rattle.std.proofs.Math.Path.{ap}
use Rattle.std.proofs.Math.Bool.{cond}
use Rattle.base_laws.specs.Bools.{either, eq_or_ne}
use Rattle.base_sum_laws.proofs.Sums.{sum_but_one}
use Rattle.base_sum_laws.specs.Definitions.{list_before}
use Rattle.settings_values.specs.Definitions.{nodes, shards, subgroup, Settings}
use Rattle.place_groups.specs.Definitions.{group_valid, group_moves, group_stays, LeastMoves, nodes_in, NotLater, Chosen, plan_moves, AllValid, of_group}
use Rattle.place_groups.specs.Chosen.{is_shard, plan_stays, LeastPlan, ChosenPlan, sooner_parts}
use Rattle.place_laws.specs.Cases.{group_shard, group_other}
use Rattle.place_laws.specs.Local.{AlikeInGroup, valid_local, moves_local, stays_local}
use Rattle.place_laws.specs.Choice.{chosen_unique}
use Rattle.place_laws.specs.Whole.{is-shard, spliced}

module _ (σ : List ℕ) (g : ℕ) (a b : ℕ → ℕ) where
  spliced_ours : (s : ℕ) → of_group σ g s ≡ true → spliced σ g a b s ≡ a s
  unfolding spliced
  spliced_ours s o = ap (λ (c : Bool). cond c (a s) (b s)) o

  spliced_other : (s : ℕ) → of_group σ g s ≡ false → spliced σ g a b s ≡ b s
  unfolding spliced
  spliced_other s o = ap (λ (c : Bool). cond c (a s) (b s)) o

  ours_alike : AlikeInGroup σ g a (spliced σ g a b)
  ours_alike = record { at = λ s o. sym (spliced_ours s o) }

  other_alike : (h : ℕ) → (h ≡ g → ⊥) → AlikeInGroup σ h b (spliced σ g a b)
  other_alike h d = record { at = λ s o. sym (spliced_other s (group_other σ g h s d o)) }

  spliced_valid : (held : ℕ) → group_valid σ held a g ≡ true → AllValid σ held b → AllValid σ held (spliced σ g a b)
  spliced_valid held v w h l =
      ⊎_elim (λ e. subst (λ (k : ℕ). group_valid σ held (spliced σ g a b) k ≡ true) (sym e) (valid_local ours_alike held v))
      (λ e. valid_local (other_alike h e) held (w h l)) (eq_or_ne h g)

  spliced_moves : (old : ℕ → ℕ) → g < 4 → plan_moves σ old (spliced σ g a b) + group_moves σ old b g ≡ plan_moves σ old b + group_moves σ old a g
  spliced_moves old l =
      omega (
        arith,
        sum_but_one 4 (group_moves σ old (spliced σ g a b)) (group_moves σ old b) g l (λ h i e. sym (moves_local (other_alike h e) old)),
        moves_local ours_alike old,
      )

  spliced_stays : (old : ℕ → ℕ) → g < 4 → plan_stays σ old (spliced σ g a b) + group_stays σ old b g ≡ plan_stays σ old b + group_stays σ old a g
  spliced_stays old l =
      omega (
        arith,
        sum_but_one 4 (group_stays σ old (spliced σ g a b)) (group_stays σ old b) g l (λ h i e. sym (stays_local (other_alike h e) old)),
        stays_local ours_alike old,
      )

module _ {σ : List ℕ} {held : ℕ} {old masks : ℕ → ℕ} (c : ChosenPlan σ held old masks) (g : ℕ) (l : g < 4) where
  pub part_least : LeastMoves σ held old masks g
  part_least =
      record {
        valid = c.least.valid g l;
        least = λ other v. omega (arith, c.least.least (spliced σ g other masks) (spliced_valid σ g other masks held v c.least.valid), spliced_moves σ g other masks old l);
      }

  spliced_least : (other : ℕ → ℕ) → LeastMoves σ held old other g → LeastPlan σ held old (spliced σ g other masks)
  spliced_least other w =
      record {
        valid = spliced_valid σ g other masks held w.valid c.least.valid;
        least = λ p v. omega (arith, c.least.least p v, w.least masks (c.least.valid g l), spliced_moves σ g other masks old l);
      }

  -- the choice over all shards is the choice in every subgroup
  pub chosen_part : Chosen σ held old masks g
  chosen_part = record {
    least = part_least;
    most = λ other w. omega (arith, c.most (spliced σ g other masks) (spliced_least other w), spliced_stays σ g other masks old l);
    first = λ other w e. within other (c.first (spliced σ g other masks) (spliced_least other w) (omega (arith, spliced_stays σ g other masks old l)));
  }
    where
      shard-of : (s : ℕ) → of_group σ g s ≡ true → is_shard σ s ≡ true
      shard-of s o = is-shard σ s (group_shard σ g s o)

      within : (other : ℕ → ℕ) → NotLater (is_shard σ) masks (spliced σ g other masks) → NotLater (of_group σ g) masks other
      within other (inl e) =
          inl (record { alike = λ s o. subst (λ (m : ℕ). nodes_in (masks s) ≡ nodes_in m) (spliced_ours σ g other masks s o) (e.alike s (shard-of s o)) })
      within other (inr f) =
          ⊎_elim
          (λ o. inr (record {
            shard = f.shard;
            picked = o;
            alike = λ s i p. subst (λ (m : ℕ). nodes_in (masks s) ≡ nodes_in m) (spliced_ours σ g other masks s p) (f.alike s i (shard-of s p));
            smaller = subst (λ (m : ℕ). list_before (nodes_in (masks f.shard)) (nodes_in m) ≡ true) (spliced_ours σ g other masks f.shard o) f.smaller;
          }))
          (λ o. absurd (sooner_parts f (sym (ap nodes_in (spliced_other σ g other masks f.shard o)))))
          (either (of_group σ g f.shard))

-- ---- at most one

-- two choices over all shards are one
pub whole_unique : {σ : List ℕ} {held : ℕ} {old a b : ℕ → ℕ} → Settings σ → held < 2 ^ nodes σ → ChosenPlan σ held old a → ChosenPlan σ held old b
    → (s : ℕ) → s < shards σ → a s ≡ b s
whole_unique {σ} {held} {old} {a} {b} right inside p q s l =
    let small : subgroup σ s < 4 = omega (arith, right.subgroup_to s l) in
    chosen_unique right inside (subgroup σ s) (chosen_part p (subgroup σ s) small) (chosen_part q (subgroup σ s) small) s l refl
