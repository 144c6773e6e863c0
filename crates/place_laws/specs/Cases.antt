-- The case of subgroup g, from the settings σ, the mask of held nodes and the members that each shard had in the kept view (old).
use Rattle.std.specs.Prelude.{◌≡◌, Bool, ◌&&◌, List, ℕ, ◌+◌, ◌-◌, ◌^◌, ◌≤◌, ◌<◌, eqb, ltb}
use Rattle.std.proofs.Math.Path.{refl, ap}
use Rattle.std.proofs.Common.{sym, ◌∙◌, ⊎_elim, ltb-true, lt-ltb, le-ltb, eqb-true, eq-eqb}
use Rattle.std.proofs.Math.Bool.{true, false, cond}
use native.Mathlib.Omega.{arith}
use Rattle.base_laws.specs.Bools.{and_both, and_left, and_right, and_fails_left, and_fails_right, no_true, lt_or_le}
use Rattle.base_laws.specs.Definitions.{has}
use Rattle.base_laws.specs.Masks.{has_below}
use Rattle.base_sum_laws.specs.Definitions.{sum_below}
use Rattle.settings_values.specs.Definitions.{nodes, shards, set_of, subgroup, need, cap, Settings}
use Rattle.place_groups.specs.Definitions.{of_group}
use Rattle.search_laws.specs.Case.{Case}

-- the failure set of node n; 0 from N up
unfoldable pub set_in : List ℕ → ℕ → ℕ
set_in σ n = cond (ltb n (nodes σ)) (set_of σ n) 0

-- from how many sets shard s needs nodes; none if it is not of subgroup g
unfoldable pub need_in : List ℕ → ℕ → ℕ → ℕ
need_in σ g s = cond (of_group σ g s) (need σ s) 0

-- how many nodes shard s may have; none if it is not of subgroup g
unfoldable pub cap_in : List ℕ → ℕ → ℕ → ℕ
cap_in σ g s = cond (of_group σ g s) (cap σ s) 0

-- what a move costs in subgroup g: one more than the nodes that its caps allow over its needs
unfoldable pub move_cost : List ℕ → ℕ → ℕ
move_cost σ g = 1 + sum_below 16 (λ s. cap_in σ g s - need_in σ g s)

-- node n in shard s: 0 it was a member, 1 it was none and moves
unfoldable pub price_in : (ℕ → ℕ) → ℕ → ℕ → ℕ
price_in old s n = cond (has (old s) n) 0 1

-- of a shard of subgroup g and a held node: 0 it was a member, the cost of a move if it was none; of any other pair 255, not allowed
unfoldable pub cost_in : List ℕ → ℕ → (ℕ → ℕ) → ℕ → ℕ → ℕ → ℕ
cost_in σ held old g s n = cond (of_group σ g s && has held n) (cond (has (old s) n) 0 (move_cost σ g)) 255

-- K is a case of subgroup g: it has its sets, needs and caps, and allows what g allows
pub record CaseFor (σ : List ℕ) (held g : ℕ) (K : Case) : Type 0 where
  pub sets : (n : ℕ) → n < 32 → K.set_of n ≡ set_in σ n
  pub needs : (s : ℕ) → s < 16 → K.need s ≡ need_in σ g s
  pub caps : (s : ℕ) → s < 16 → K.cap s ≡ cap_in σ g s
  pub allowed : (s n : ℕ) → s < 16 → n < 32 → K.cost s n < 255 → (of_group σ g s && has held n) ≡ true
  pub allows : (s n : ℕ) → s < 16 → n < 32 → (of_group σ g s && has held n) ≡ true → K.cost s n < 255

-- ---- shards of a subgroup

pub of-group : (σ : List ℕ) (g s : ℕ) → s < shards σ → subgroup σ s ≡ g → of_group σ g s ≡ true
unfolding of_group
of-group σ g s l e = and_both (lt-ltb s (shards σ) l) (eq-eqb (subgroup σ s) g e)

pub group_shard : (σ : List ℕ) (g s : ℕ) → of_group σ g s ≡ true → s < shards σ
unfolding of_group
group_shard σ g s h = ltb-true s (shards σ) (and_left (ltb s (shards σ)) (eqb (subgroup σ s) g) h)

pub group_subgroup : (σ : List ℕ) (g s : ℕ) → of_group σ g s ≡ true → subgroup σ s ≡ g
unfolding of_group
group_subgroup σ g s h = eqb-true (subgroup σ s) g (and_right (ltb s (shards σ)) (eqb (subgroup σ s) g) h)

-- a test in two steps, as a program makes it
pub group_past : (σ : List ℕ) (g s : ℕ) → shards σ ≤ s → of_group σ g s ≡ false
unfolding of_group
group_past σ g s l = and_fails_left (eqb (subgroup σ s) g) (le-ltb s (shards σ) l)

pub group_is : (σ : List ℕ) (g s : ℕ) → s < shards σ → of_group σ g s ≡ eqb (subgroup σ s) g
unfolding of_group
group_is σ g s l = ap (λ (b : Bool). b && eqb (subgroup σ s) g) (lt-ltb s (shards σ) l)

-- a shard is of one subgroup
pub group_other : (σ : List ℕ) (g h s : ℕ) → (h ≡ g → ⊥) → of_group σ h s ≡ true → of_group σ g s ≡ false
group_other σ g h s d o = no_true (of_group σ g s) (λ p. d (sym (group_subgroup σ h s o) ∙ group_subgroup σ g s p))

pub shard_below : (σ : List ℕ) (g : ℕ) → Settings σ → (s : ℕ) → of_group σ g s ≡ true → s < 16
shard_below σ g right s h = omega (arith, group_shard σ g s h, right.sizes.shards_to)

-- ---- needs, caps, sets and costs

pub need-of : (σ : List ℕ) (g s : ℕ) → of_group σ g s ≡ true → need_in σ g s ≡ need σ s
unfolding need_in
need-of σ g s h = ap (λ (b : Bool). cond b (need σ s) 0) h

pub need_none : (σ : List ℕ) (g s : ℕ) → of_group σ g s ≡ false → need_in σ g s ≡ 0
unfolding need_in
need_none σ g s h = ap (λ (b : Bool). cond b (need σ s) 0) h

pub cap_of : (σ : List ℕ) (g s : ℕ) → of_group σ g s ≡ true → cap_in σ g s ≡ cap σ s
unfolding cap_in
cap_of σ g s h = ap (λ (b : Bool). cond b (cap σ s) 0) h

pub cap_none : (σ : List ℕ) (g s : ℕ) → of_group σ g s ≡ false → cap_in σ g s ≡ 0
unfolding cap_in
cap_none σ g s h = ap (λ (b : Bool). cond b (cap σ s) 0) h

pub move_least : (σ : List ℕ) (g : ℕ) → 1 ≤ move_cost σ g
unfolding move_cost
move_least σ g = omega arith

pub set_past : (σ : List ℕ) (n : ℕ) → nodes σ ≤ n → set_in σ n ≡ 0
unfolding set_in
set_past σ n l = ap (λ (b : Bool). cond b (set_of σ n) 0) (le-ltb n (nodes σ) l)

pub set-in : (σ : List ℕ) (n : ℕ) → n < nodes σ → set_in σ n ≡ set_of σ n
unfolding set_in
set-in σ n l = ap (λ (b : Bool). cond b (set_of σ n) 0) (lt-ltb n (nodes σ) l)

pub set_held : (σ : List ℕ) (held n : ℕ) → held < 2 ^ nodes σ → has held n ≡ true → set_in σ n ≡ set_of σ n
set_held σ held n l p = set-in σ n (has_below held (nodes σ) n l p)

-- every failure set is below 16
pub set_small : (σ : List ℕ) (n : ℕ) → Settings σ → set_in σ n < 16
set_small σ n right =
    ⊎_elim (λ l. omega (arith, set-in σ n l, right.set_below n l, right.sizes.sets_to)) (λ l. omega (arith, set_past σ n l)) (lt_or_le n (nodes σ))

pub price_most : (old : ℕ → ℕ) (s n : ℕ) → price_in old s n ≤ 1
unfolding price_in
price_most old s n = low (has (old s) n)
  where
    low : (b : Bool) → ◌≤◌ (cond b 0 1) 1
    low true = omega arith
    low false = omega arith

module _ (σ : List ℕ) (held : ℕ) (old : ℕ → ℕ) (g s n : ℕ) where
  pub cost_held : (of_group σ g s && has held n) ≡ true → cost_in σ held old g s n ≡ cond (has (old s) n) 0 (move_cost σ g)
  unfolding cost_in
  cost_held h = ap (λ (b : Bool). cond b (cond (has (old s) n) 0 (move_cost σ g)) 255) h

  pub cost_out : of_group σ g s ≡ false → cost_in σ held old g s n ≡ 255
  unfolding cost_in
  cost_out h = ap (λ (b : Bool). cond (b && has held n) (cond (has (old s) n) 0 (move_cost σ g)) 255) h

  pub cost_away : has held n ≡ false → cost_in σ held old g s n ≡ 255
  unfolding cost_in
  cost_away h = ap (λ (b : Bool). cond b (cond (has (old s) n) 0 (move_cost σ g)) 255) (and_fails_right (of_group σ g s) h)

  -- a pair is allowed just where the shard is of the subgroup and the node is held
  pub cost_allowed : cost_in σ held old g s n < 255 → (of_group σ g s && has held n) ≡ true
  unfolding cost_in
  cost_allowed h = low (of_group σ g s && has held n) h
    where
      low : (b : Bool) → cond b (cond (has (old s) n) 0 (move_cost σ g)) 255 < 255 → b ≡ true
      low true i = refl
      low false i = absurd (omega arith)
