-- Placements of three shards of one subgroup, looked through one and all. In case A, of six held nodes, the placement of document
-- 01's plan is the only valid one with at most two moves; in I none is valid.
use Rattle.std.specs.Prelude.{ℕ, zero, suc, ◌+◌, ◌<◌, ◌≤◌, Bool, true, false, ◌&&◌, ◌||◌, List, ◌≡◌, refl, eqb, ltb}
use Rattle.std.proofs.Math.Bool.{not}
use Rattle.std.proofs.Common.{inl, ⊎_elim, ap, ◌∙◌, subst, arith, eqb-true, eq-eqb, le-leb, ltb-true}
use Rattle.std.proofs.Math.Path.{sym}
use Rattle.std.proofs.Math.Dec.{leb}
use Rattle.std.specs.Int.Count.{ones, ones_in}
use Rattle.base_laws.specs.Bools.{clash, and_both, and_left, and_right, or-holds, of_not_true, lt_or_le}
use Rattle.base_laws.specs.Definitions.{all_below, any_below, count_below, count, subset, disjoint}
use Rattle.base_laws.specs.Below.{all_at}
use Rattle.base_laws.specs.Masks.{subset_le}
use Rattle.base_sum_laws.specs.Definitions.{sum_below}
use Rattle.settings_values.specs.Definitions.{shards, subgroup, need, cap}
use Rattle.message_format.specs.Definitions.{shard_apart}
use Rattle.place_groups.specs.Definitions.{meets_set, sets_in, shard_valid, group_valid, group_valid_at, group_moves, group_moves_at, group_stays, group_stays_at, Impossible, LeastMoves, of_group, nodes_in, Chosen}
use Rattle.report_views.specs.Definitions.{mask_at}
use Rattle.history_cases.specs.Runs.{case_settings, settings_with, view7}

-- a mask for each of three shards
abbrev pub three : ℕ → ℕ → ℕ → ℕ → ℕ
three a b c zero = a
three a b c (suc zero) = b
three a b c (suc (suc s)) = c

-- a mask that shard s may have
abbrev shard_fits : List ℕ → ℕ → ℕ → ℕ → Bool
shard_fits σ held s m = shard_valid σ held (λ i. m) s

-- f of every placement whose masks fit and share no node
abbrev pub everywhere : List ℕ → ℕ → (ℕ → ℕ → ℕ → Bool) → Bool
everywhere σ held f =
    all_below (held + 1)
    (λ a. not (shard_fits σ held 0 a)
    || all_below (held + 1)
    (λ b. not (disjoint a b && shard_fits σ held 1 b)
    || all_below (held + 1) (λ c. not (disjoint a c && disjoint b c && shard_fits σ held 2 c) || f a b c)))

implied : (p q : Bool) → (not p || q) ≡ true → p ≡ true → q ≡ true
implied p q h e = ⊎_elim (λ n. clash e (of_not_true p n)) (λ y. y) (or-holds (not p) q h)

module _ (σ : List ℕ) (held : ℕ) (f : ℕ → ℕ → ℕ → Bool) (test : everywhere σ held f ≡ true) where
  -- what the test leaves after each mask
  last : ℕ → ℕ → ℕ → Bool
  last x y z = not (disjoint x z && disjoint y z && shard_fits σ held 2 z) || f x y z

  next : ℕ → ℕ → Bool
  next x y = not (disjoint x y && shard_fits σ held 1 y) || all_below (held + 1) (λ z. not (disjoint x z && disjoint y z && shard_fits σ held 2 z) || f x y z)

  -- what the test gives for a placement
  at : (a b c : ℕ) → a < held + 1 → b < held + 1 → c < held + 1 → shard_fits σ held 0 a ≡ true → shard_fits σ held 1 b ≡ true
      → shard_fits σ held 2 c ≡ true
      → disjoint a b ≡ true
      → disjoint a c ≡ true
      → disjoint b c ≡ true
      → f a b c ≡ true
  unfolding last next
  at a b c la lb lc fa fb fc ab ac bc =
      implied (disjoint a c && disjoint b c && shard_fits σ held 2 c) (f a b c)
      (all_at (held + 1) (last a b)
      (implied (disjoint a b && shard_fits σ held 1 b) (all_below (held + 1) (last a b))
      (all_at (held + 1) (next a)
      (implied (shard_fits σ held 0 a) (all_below (held + 1) (next a)) (all_at (held + 1) (λ x. not (shard_fits σ held 0 x) || all_below (held + 1) (next x)) test a la) fa) b lb)
      (and_both ab fb)) c lc)
      (and_both (and_both ac bc) fc)

-- a placement of the one subgroup: each shard's mask fits, and no two share a node
pub record Apart (σ : List ℕ) (held : ℕ) (P : ℕ → ℕ) : Type 0 where
  pub fit : (s : ℕ) → s < 3 → shard_fits σ held s (P s) ≡ true
  pub below : (s : ℕ) → s < 3 → P s < held + 1
  pub apart : (s t : ℕ) → s < 3 → t < s → disjoint (P t) (P s) ≡ true

-- three shards of subgroup 0
pub record OneGroup (σ : List ℕ) : Type 0 where
  pub all : shards σ ≡ 3
  pub group : (s : ℕ) → s < 3 → subgroup σ s ≡ 0

module _ (σ : List ℕ) (held : ℕ) (P : ℕ → ℕ) (one : OneGroup σ) (valid : group_valid σ held P 0 ≡ true) where
  shard-at : (s : ℕ) → s < 3 → (shard_valid σ held P s && all_below s (shard_apart σ P s)) ≡ true
  unfolding group_valid group_valid_at
  shard-at s l =
      implied (eqb (subgroup σ s) 0) (shard_valid σ held P s && all_below s (shard_apart σ P s))
      (all_at (shards σ) (group_valid_at σ held P 0) valid s (subst (λ (n : ℕ). s < n) (sym one.all) l))
      (eq-eqb (subgroup σ s) 0 (one.group s l))

  apart_at : (s t : ℕ) → s < 3 → t < s → disjoint (P t) (P s) ≡ true
  unfolding shard_apart
  apart_at s t l k =
      implied (eqb (subgroup σ t) (subgroup σ s)) (disjoint (P t) (P s))
      (all_at s (shard_apart σ P s) (and_right (shard_valid σ held P s) (all_below s (shard_apart σ P s)) (shard-at s l)) t k)
      (eq-eqb (subgroup σ t) (subgroup σ s) (one.group t (omega arith) ∙ sym (one.group s l)))

  below_at : (s : ℕ) → s < 3 → P s < held + 1
  unfolding shard_valid
  below_at s l =
      let fits = leb (count (P s)) (cap σ s) in
      let many = leb (need σ s) (sets_in σ (P s)) in
      let inside = and_left (subset (P s) held) fits (and_left (subset (P s) held && fits) many (and_left (shard_valid σ held P s) (all_below s (shard_apart σ P s)) (shard-at s l))) in
      omega (arith, subset_le (P s) held inside)

  group_apart : Apart σ held P
  unfolding shard_valid
  group_apart =
      record {
        fit = λ s l. and_left (shard_valid σ held P s) (all_below s (shard_apart σ P s)) (shard-at s l);
        below = below_at;
        apart = apart_at;
      }

-- f of a placement's masks, from the test over all
pub placed_at : (σ : List ℕ) (held : ℕ) (f : ℕ → ℕ → ℕ → Bool) → everywhere σ held f ≡ true → OneGroup σ → (P : ℕ → ℕ) → group_valid σ held P 0 ≡ true
    → f (P 0) (P 1) (P 2) ≡ true
placed_at σ held f test one P valid =
    let a = group_apart σ held P one valid in
    at σ held f test (P 0) (P 1) (P 2) (a.below 0 (omega arith)) (a.below 1 (omega arith)) (a.below 2 (omega arith))
    (a.fit 0 (omega arith))
    (a.fit 1 (omega arith))
    (a.fit 2 (omega arith))
    (a.apart 1 0 (omega arith) (omega arith))
    (a.apart 2 0 (omega arith) (omega arith))
    (a.apart 2 1 (omega arith) (omega arith))

-- what holds of each of the three
pub one_group : (n : ℕ) (P : ℕ → Type 0) → P 0 → P 1 → P 2 → n < 3 → P n
one_group zero P a b c l = a
one_group (suc zero) P a b c l = b
one_group (suc (suc zero)) P a b c l = c
one_group (suc (suc (suc n))) P a b c l = absurd (omega arith)

-- case A: the only valid placement of at most two moves
only : ℕ → ℕ → ℕ → Bool
only a b c = not (leb (group_moves case_settings (mask_at view7) (three a b c) 0) 2) || (eqb a 5 && eqb b 50 && eqb c 8)

a_test : everywhere case_settings 63 only ≡ true
unfolding only all_below ones ones_in sum_below any_below count_below cap meets_set sets_in shard_valid group_moves group_moves_at
a_test = refl

i-test : everywhere (settings_with 4 3) 63 (λ a b c. false) ≡ true
unfolding all_below ones ones_in any_below count_below cap meets_set sets_in shard_valid
i-test = refl

a_shards : OneGroup case_settings
a_shards = record { all = refl; group = λ s l. one_group s (λ n. subgroup case_settings n ≡ 0) refl refl refl l }

i_shards : OneGroup (settings_with 4 3)
i_shards = record { all = refl; group = λ s l. one_group s (λ n. subgroup (settings_with 4 3) n ≡ 0) refl refl refl l }

-- the placement of document 01's plan: 0 and 2, 1, 4 and 5, and 3
abbrev pub plan_a : ℕ → ℕ
plan_a = three 5 50 8

pub a_valid : group_valid case_settings 63 plan_a 0 ≡ true
unfolding all_below ones ones_in any_below count_below cap meets_set sets_in shard_valid shard_apart group_valid group_valid_at
a_valid = refl

pub a_moves : group_moves case_settings (mask_at view7) plan_a 0 ≡ 2
unfolding ones ones_in sum_below group_moves group_moves_at
a_moves = refl

-- the moves of a placement depend on its three masks
three_moves : (P : ℕ → ℕ) → group_moves case_settings (mask_at view7) P 0 ≡ group_moves case_settings (mask_at view7) (three (P 0) (P 1) (P 2)) 0
unfolding sum_below group_moves group_moves_at
three_moves P = refl

three_stays : (P : ℕ → ℕ) → group_stays case_settings (mask_at view7) P 0 ≡ group_stays case_settings (mask_at view7) (three (P 0) (P 1) (P 2)) 0
unfolding sum_below group_stays group_stays_at
three_stays P = refl

-- case A: a valid placement of at most two moves is that of the plan
pub a_only : (P : ℕ → ℕ) → group_valid case_settings 63 P 0 ≡ true → group_moves case_settings (mask_at view7) P 0 ≤ 2 → (P 0 ≡ 5) × (P 1 ≡ 50) × (P 2 ≡ 8)
unfolding only
a_only P valid few =
    let cheap : leb (group_moves case_settings (mask_at view7) (three (P 0) (P 1) (P 2)) 0) 2 ≡ true =
    le-leb (group_moves case_settings (mask_at view7) (three (P 0) (P 1) (P 2)) 0) 2 (subst (λ (m : ℕ). m ≤ 2) (three_moves P) few) in
    let same =
    implied (leb (group_moves case_settings (mask_at view7) (three (P 0) (P 1) (P 2)) 0) 2) (eqb (P 0) 5 && eqb (P 1) 50 && eqb (P 2) 8)
    (placed_at case_settings 63 only a_test a_shards P valid)
    cheap in
    let two = and_left (eqb (P 0) 5 && eqb (P 1) 50) (eqb (P 2) 8) same in (
      eqb-true (P 0) 5 (and_left (eqb (P 0) 5) (eqb (P 1) 50) two),
      eqb-true (P 1) 50 (and_right (eqb (P 0) 5) (eqb (P 1) 50) two),
      eqb-true (P 2) 8 (and_right (eqb (P 0) 5 && eqb (P 1) 50) (eqb (P 2) 8) same),
    )

-- case A: so is every placement with the least moves
pub a_least : (P : ℕ → ℕ) → LeastMoves case_settings 63 (mask_at view7) P 0 → (P 0 ≡ 5) × (P 1 ≡ 50) × (P 2 ≡ 8)
a_least P l = a_only P l.valid (omega (arith, l.least plan_a a_valid, a_moves))

-- case A: so nothing has fewer moves than the plan
pub a_fewest : LeastMoves case_settings 63 (mask_at view7) plan_a 0
a_fewest = record { valid = a_valid; least = λ other v. at_least other v }
  where
    at_least : (P : ℕ → ℕ) → group_valid case_settings 63 P 0 ≡ true → group_moves case_settings (mask_at view7) plan_a 0 ≤ group_moves case_settings (mask_at view7) P 0
    at_least P v =
        ⊎_elim
        (λ l. omega (arith, a_moves))
        (λ l.
        let m = a_only P v l in
        let same : group_moves case_settings (mask_at view7) P 0 ≡ group_moves case_settings (mask_at view7) plan_a 0 =
        three_moves P ∙ rw (m.0, m.1, m.2) in
        omega arith)
        (lt_or_le 2 (group_moves case_settings (mask_at view7) P 0))

-- case A: the plan's placement is the chosen one, and what is chosen is the plan's
pub a_chosen : Chosen case_settings 63 (mask_at view7) plan_a 0
unfolding of_group
a_chosen =
    record {
      least = a_fewest;
      most = λ other l. let m = a_least other l in omega (arith, staying other m);
      first = λ other l e. inl (record { alike = λ s o. ap nodes_in (at other l s (ltb-true s 3 (and_left (ltb s 3) (eqb (subgroup case_settings s) 0) o))) });
    }
  where
    at : (P : ℕ → ℕ) → LeastMoves case_settings 63 (mask_at view7) P 0 → (s : ℕ) → s < 3 → plan_a s ≡ P s
    at P l s k = let m = a_least P l in one_group s (λ n. plan_a n ≡ P n) (sym m.0) (sym m.1) (sym m.2) k

    staying : (P : ℕ → ℕ) → (P 0 ≡ 5) × (P 1 ≡ 50) × (P 2 ≡ 8) → group_stays case_settings (mask_at view7) P 0 ≡ group_stays case_settings (mask_at view7) plan_a 0
    staying P m = three_stays P ∙ rw (m.0, m.1, m.2)

-- case I: shard 0 needs 3
pub i_none : Impossible (settings_with 4 3) 63 0
i_none = record { none = λ P valid. clash (placed_at (settings_with 4 3) 63 (λ a b c. false) i-test i_shards P valid) refl }
