-- The case of subgroup g, from the settings σ, the mask of held nodes and the members that each shard had in the kept view (old).
use Rattle.std.specs.Prelude.{◌≡◌, Bool, ◌&&◌, List, ℕ, ◌*◌, ◌-◌, ◌≤◌, ◌<◌}
use Rattle.std.proofs.Math.Path.{ap}
use Rattle.std.proofs.Common.{◌∙◌, ⊎_elim}
use Rattle.std.proofs.Math.Bool.{true, false, cond}
use native.Mathlib.Omega.{arith}
use Rattle.base_laws.specs.Bools.{either, and_both}
use Rattle.base_laws.specs.Definitions.{has}
use Rattle.base_sum_laws.proofs.Sums.{sum_bound}
use Rattle.settings_values.specs.Definitions.{Settings}
use Rattle.place_groups.specs.Definitions.{of_group}
use Rattle.place_laws.specs.Cases.{need_in, cap_in, move_cost, price_in, cost_in, group_shard, need-of, need_none, cap_of, cap_none, cost_held}

-- a need is no more than the cap
pub need_cap : (σ : List ℕ) (g s : ℕ) → Settings σ → need_in σ g s ≤ cap_in σ g s
need_cap σ g s right =
    ⊎_elim (λ o. omega (arith, need-of σ g s o, cap_of σ g s o, right.cap_from s (group_shard σ g s o))) (λ o. omega (arith, need_none σ g s o))
    (either (of_group σ g s))

-- a shard may have at most 15 nodes more than it needs, so a move costs at most 241
pub spare_most : (σ : List ℕ) (g s : ℕ) → Settings σ → cap_in σ g s - need_in σ g s ≤ 15
spare_most σ g s right =
    ⊎_elim
    (λ o. omega (arith, need-of σ g s o, cap_of σ g s o, right.need_from s (group_shard σ g s o), right.cap_to s (group_shard σ g s o)))
    (λ o. omega (arith, cap_none σ g s o)) (either (of_group σ g s))

pub move_most : (σ : List ℕ) (g : ℕ) → Settings σ → move_cost σ g ≤ 241
unfolding move_cost
move_most σ g right = omega (arith, sum_bound 16 15 (λ s. cap_in σ g s - need_in σ g s) (λ s l. spare_most σ g s right))

module _ (σ : List ℕ) (held : ℕ) (old : ℕ → ℕ) (g s n : ℕ) where
  -- a cost is the price times that of a move
  pub cost_price : (of_group σ g s && has held n) ≡ true → cost_in σ held old g s n ≡ price_in old s n * move_cost σ g
  unfolding price_in
  cost_price h = (cost_held σ held old g s n) h ∙ times (has (old s) n)
    where
      times : (b : Bool) → cond b 0 (move_cost σ g) ≡ cond b 0 1 * move_cost σ g
      times true = omega arith
      times false = omega arith

  pub cost_low : Settings σ → (of_group σ g s && has held n) ≡ true → cost_in σ held old g s n < 255
  cost_low right h = omega (arith, (cost_held σ held old g s n) h, low (has (old s) n))
    where
      low : (b : Bool) → cond b 0 (move_cost σ g) < 255
      low true = omega arith
      low false = omega (arith, move_most σ g right)

  -- the three tests, one after the other
  pub cost_told : {b : Bool} → of_group σ g s ≡ true → has held n ≡ true → has (old s) n ≡ b → cost_in σ held old g s n ≡ cond b 0 (move_cost σ g)
  cost_told o h e = (cost_held σ held old g s n) (and_both o h) ∙ ap (λ (b : Bool). cond b 0 (move_cost σ g)) e
