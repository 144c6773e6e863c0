-- What shards of a subgroup need together, and what the failure sets have for it. A shard needs nodes of different sets and shares none with another
-- of its subgroup: so of each set at most as many nodes serve as are held, and at most as many as there are shards.
use Prim.Native.Nat.{ℕ, ◌+◌, ◌^◌, ◌<◌, ◌≤◌, min}
use Rattle.std.specs.Prelude.{Bool, false, ◌&&◌, List, refl, leb, get_or}
use Rattle.std.proofs.Math.Bool.{true, cond, not}
use Rattle.std.proofs.Math.Logic.{⊎_elim}
use Rattle.std.proofs.Math.Path.{◌≡◌, subst}
use Rattle.std.proofs.Common.{sym, ◌∙◌}
use native.Mathlib.Omega.{arith}
use Rattle.std.specs.Int.Bits.{bit_or}
use Rattle.std.proofs.Math.Dec.{eqb}
use borrow.Author.Tests.{eqb-true, eq-eqb, ne_eqb}
use Rattle.base_laws.specs.Bools.{either, clash, no_true, and_both, and_left, and_right, and_fails_left, or-holds, lt_or_le}
use Rattle.base_laws.specs.Definitions.{count_below, has, with, without, tabulate}
use Rattle.base_laws.specs.Below.{count_mono, count_none, count_pos, count_single, count_without, any_none_of, any_witness}
use Rattle.base_laws.specs.Masks.{has_or, has_zero, has_with, has_without, has_below, subset_has, disjoint_has}
use Rattle.base_laws.proofs.Masks.{minus_subset}
use Rattle.base_laws.specs.Tables.{get_d_tabulate}
use Rattle.base_sum_laws.specs.Definitions.{sum_below}
use Rattle.base_sum_laws.specs.Sums.{sum_add, sum_mono, sum_cong, count_sum, count_once}
use Rattle.base_sum_laws.proofs.Sums.{sum_swap}
use Rattle.settings_values.specs.Definitions.{nodes, shards, set_of, subgroup, need, Settings}
use Rattle.place_groups.specs.Definitions.{meets_set, sets_in, group_valid}
use Rattle.place_laws.specs.Cases.{of-group}
use Rattle.place_laws.specs.Shards.{ShardPlaced, shard_placed}
use Rattle.plan_masks.specs.Definitions.{Placeable}

-- shard s is of subgroup g and needs k or more
unfoldable pub needs_at : List ℕ → ℕ → ℕ → ℕ → Bool
needs_at σ g k s = eqb (subgroup σ s) g && leb k (need σ s)

-- how many shards these are
unfoldable pub needy_shards : List ℕ → ℕ → ℕ → ℕ
needy_shards σ g k = count_below (shards σ) (needs_at σ g k)

-- what shard s needs, if it is one of them
unfoldable pub need_of : List ℕ → ℕ → ℕ → ℕ → ℕ
need_of σ g k s = cond (needs_at σ g k s) (need σ s) 0

-- what they need together
unfoldable pub group_needs : List ℕ → ℕ → ℕ → ℕ
group_needs σ g k = sum_below (shards σ) (need_of σ g k)

-- node n is held and of failure set f
unfoldable pub held_of : List ℕ → ℕ → ℕ → ℕ → Bool
held_of σ held f n = has held n && eqb (set_of σ n) f

-- how many held nodes are of failure set f
unfoldable pub held_in : List ℕ → ℕ → ℕ → ℕ
held_in σ held f = count_below (nodes σ) (held_of σ held f)

-- how many nodes serve j shards, of each set one node a shard, where set f has h f
unfoldable pub served_by : (ℕ → ℕ) → ℕ → ℕ
served_by h j = sum_below 16 (λ f. min (h f) j)

-- without a held node of a set in m there is no placement
pub record Tight (σ : List ℕ) (held m : ℕ) : Type 0 where
  pub none : (n : ℕ) → has held n ≡ true → has m (set_of σ n) ≡ true → Placeable σ (without held n) → ⊥

-- the sets in m are below k and have j nodes or fewer
pub record LowBelow (counts : List ℕ) (j k m : ℕ) : Type 0 where
  pub low : (f : ℕ) → has m f ≡ true → (f < k) × (get_or counts f 0 ≤ j)

-- ---- each node counts once

-- tests of which each number passes at most one pass no more than pass some
count_apart : (n m : ℕ) (p : ℕ → ℕ → Bool) (b : ℕ → Bool) → ((i k : ℕ) → i < n → p i k ≡ true → b k ≡ true)
    → ((i j k : ℕ) → i < n → j < n → p i k ≡ true → p j k ≡ true → i ≡ j) → sum_below n (λ i. count_below m (p i)) ≤ count_below m b
count_apart n m p b some one =
    omega (
      arith,
      sum_cong n (λ i. count_below m (p i)) (λ i. sum_below m (λ k. cond (p i k) 1 0)) (λ i l. count_sum m (p i)),
      sum_swap n m (λ i k. cond (p i k) 1 0),
      sum_mono m (λ k. sum_below n (λ i. cond (p i k) 1 0)) (λ k. cond (b k) 1 0) (λ k l. each k),
      count_sum m b,
    )
  where
    each : (k : ℕ) → sum_below n (λ i. cond (p i k) 1 0) ≤ cond (b k) 1 0
    each k = ⊎_elim yes no (either (b k))
      where
        yes : b k ≡ true → sum_below n (λ i. cond (p i k) 1 0) ≤ cond (b k) 1 0
        yes e =
            let few : count_below n (λ i. p i k) ≤ 1 = count_once n (λ i. p i k) (λ i j l o. one i j k l o) in
            rw e (omega (arith, few, count_sum n (λ i. p i k)))

        no : b k ≡ false → sum_below n (λ i. cond (p i k) 1 0) ≤ cond (b k) 1 0
        no e =
            let none : count_below n (λ i. p i k) ≡ 0 = count_none n (λ i. p i k) (any_none_of n (λ i. p i k) (λ i l. no_true (p i k) (λ q. clash (some i k l q) e))) in
            rw e (omega (arith, none, count_sum n (λ i. p i k)))

-- ---- a subgroup that is placed is served

module _ (σ : List ℕ) (held g k : ℕ) (P : ℕ → ℕ) (valid : group_valid σ held P g ≡ true) where
  -- shard s is one of them and has node n, of set f
  abbrev has_of : ℕ → ℕ → ℕ → Bool
  has_of f s n = needs_at σ g k s && (has (P s) n && eqb (set_of σ n) f)

  -- shard s is one of them and has a node of set f
  abbrev meets_in : ℕ → ℕ → Bool
  meets_in f s = needs_at σ g k s && meets_set σ (P s) f

  in_group : (s : ℕ) → needs_at σ g k s ≡ true → subgroup σ s ≡ g
  unfolding needs_at
  in_group s e = eqb-true (subgroup σ s) g (and_left (eqb (subgroup σ s) g) (leb k (need σ s)) e)

  placed : (s : ℕ) → s < shards σ → needs_at σ g k s ≡ true → ShardPlaced σ held P s
  placed s l e = shard_placed σ held P g valid s (of-group σ g s l (in_group s e))

  each_shard : (s : ℕ) → s < shards σ → need_of σ g k s ≤ sum_below 16 (λ f. cond (meets_in f s) 1 0)
  unfolding need_of sets_in
  each_shard s l = ⊎_elim yes no (either (needs_at σ g k s))
    where
      yes : needs_at σ g k s ≡ true → need_of σ g k s ≤ sum_below 16 (λ f. cond (meets_in f s) 1 0)
      yes e =
          let w = placed s l e in
          let is : need_of σ g k s ≡ need σ s = rw e in
          omega (
            arith,
            is,
            w.spreads,
            count_mono 16 (meets_set σ (P s)) (λ f. meets_in f s) (λ f m h. and_both e h),
            count_sum 16 (λ f. meets_in f s),
          )

      no : needs_at σ g k s ≡ false → need_of σ g k s ≤ sum_below 16 (λ f. cond (meets_in f s) 1 0)
      no e = let is : need_of σ g k s ≡ 0 = rw e in omega arith

  one_of : (f s n : ℕ) → has_of f s n ≡ true → needs_at σ g k s ≡ true
  one_of f s n p = and_left (needs_at σ g k s) (has (P s) n && eqb (set_of σ n) f) p

  its : (f s n : ℕ) → has_of f s n ≡ true → (has (P s) n && eqb (set_of σ n) f) ≡ true
  its f s n p = and_right (needs_at σ g k s) (has (P s) n && eqb (set_of σ n) f) p

  has_node : (f s n : ℕ) → has_of f s n ≡ true → has (P s) n ≡ true
  has_node f s n p = and_left (has (P s) n) (eqb (set_of σ n) f) (its f s n p)

  is_held : (f s n : ℕ) → s < shards σ → has_of f s n ≡ true → held_of σ held f n ≡ true
  unfolding held_of
  is_held f s n l p =
      and_both (subset_has (P s) held (placed s l (one_of f s n p)).inside n (has_node f s n p)) (and_right (has (P s) n) (eqb (set_of σ n) f) (its f s n p))

  lower : (f i j n : ℕ) → i < j → j < shards σ → has_of f i n ≡ true → has_of f j n ≡ true → ⊥
  lower f i j n l m p q =
      let same : subgroup σ i ≡ subgroup σ j = in_group i (one_of f i n p) ∙ sym (in_group j (one_of f j n q)) in
      clash (has_node f j n q) (disjoint_has (P i) (P j) ((placed j m (one_of f j n q)).shares i l same) n (has_node f i n p))

  one : (f i j n : ℕ) → i < shards σ → j < shards σ → has_of f i n ≡ true → has_of f j n ≡ true → i ≡ j
  one f i j n l m p q =
      ⊎_elim (λ a. absurd (lower f i j n a m p q)) (λ a. ⊎_elim (λ b. absurd (lower f j i n b l q p)) (λ b. omega arith) (lt_or_le j i)) (lt_or_le i j)

  by_node : (f s : ℕ) → cond (meets_in f s) 1 0 ≤ count_below (nodes σ) (has_of f s)
  unfolding meets_set
  by_node f s = ⊎_elim yes no (either (meets_in f s))
    where
      yes : meets_in f s ≡ true → cond (meets_in f s) 1 0 ≤ count_below (nodes σ) (has_of f s)
      yes e =
          let w = any_witness (nodes σ) (λ n. has (P s) n && eqb (set_of σ n) f) (and_right (needs_at σ g k s) (meets_set σ (P s) f) e) in
          let some : 0 < count_below (nodes σ) (has_of f s) =
          count_pos (nodes σ) (has_of f s) w.0 w.1 (and_both (and_left (needs_at σ g k s) (meets_set σ (P s) f) e) w.2) in
          let is : ◌≡◌ {A = ℕ} (cond (meets_in f s) 1 0) 1 = rw e in omega arith

      no : meets_in f s ≡ false → cond (meets_in f s) 1 0 ≤ count_below (nodes σ) (has_of f s)
      no e = let is : ◌≡◌ {A = ℕ} (cond (meets_in f s) 1 0) 0 = rw e in omega arith

  each_set : (f : ℕ) → sum_below (shards σ) (λ s. cond (meets_in f s) 1 0) ≤ min (held_in σ held f) (needy_shards σ g k)
  unfolding held_in needy_shards
  each_set f =
      let total : count_below (shards σ) (meets_in f) ≡ sum_below (shards σ) (λ s. cond (meets_in f s) 1 0) = count_sum (shards σ) (meets_in f) in
      let many : count_below (shards σ) (meets_in f) ≤ needy_shards σ g k =
      count_mono (shards σ) (meets_in f) (needs_at σ g k) (λ s l h. and_left (needs_at σ g k s) (meets_set σ (P s) f) h) in
      let nodes-of : sum_below (shards σ) (λ s. cond (meets_in f s) 1 0) ≤ sum_below (shards σ) (λ s. count_below (nodes σ) (has_of f s)) =
      sum_mono (shards σ) (λ s. cond (meets_in f s) 1 0) (λ s. count_below (nodes σ) (has_of f s)) (λ s l. by_node f s) in
      let held-of : sum_below (shards σ) (λ s. count_below (nodes σ) (has_of f s)) ≤ held_in σ held f =
      count_apart (shards σ) (nodes σ) (has_of f) (held_of σ held f) (λ s n l p. is_held f s n l p) (λ i j n l m p q. one f i j n l m p q) in
      omega (arith, total, many, nodes-of, held-of)

  needs_served : group_needs σ g k ≤ served_by (held_in σ held) (needy_shards σ g k)
  unfolding group_needs served_by
  needs_served =
      omega (
        arith,
        sum_mono (shards σ) (need_of σ g k) (λ s. sum_below 16 (λ f. cond (meets_in f s) 1 0)) each_shard,
        sum_swap (shards σ) 16 (λ s f. cond (meets_in f s) 1 0),
        sum_mono 16 (λ f. sum_below (shards σ) (λ s. cond (meets_in f s) 1 0)) (λ f. min (held_in σ held f) (needy_shards σ g k)) (λ f l. each_set f),
      )

-- ---- what is left when a node is lost

module _ (σ : List ℕ) (held n : ℕ) (inside : n < nodes σ) (is : has held n ≡ true) where
  fewer : (f : ℕ) → held_in σ (without held n) f ≤ held_in σ held f
  unfolding held_in held_of
  fewer f =
      count_mono (nodes σ) (held_of σ (without held n) f) (held_of σ held f)
      (λ m l h. and_both
      (subset_has (without held n) held (minus_subset held (2 ^ n)) m (and_left (has (without held n) m) (eqb (set_of σ m) f) h))
      (and_right (has (without held n) m) (eqb (set_of σ m) f) h))

  one_less : held_in σ (without held n) (set_of σ n) + 1 ≤ held_in σ held (set_of σ n)
  unfolding held_in held_of
  one_less =
      omega (
        arith,
        count_mono (nodes σ) (held_of σ (without held n) (set_of σ n)) (λ m. held_of σ held (set_of σ n) m && not (eqb n m)) stays,
        count_without (nodes σ) (held_of σ held (set_of σ n)) n inside own,
      )
    where
      own : held_of σ held (set_of σ n) n ≡ true
      own = and_both is (eq-eqb (set_of σ n) (set_of σ n) refl)

      stays : (m : ℕ) → m < nodes σ → held_of σ (without held n) (set_of σ n) m ≡ true → (held_of σ held (set_of σ n) m && not (eqb n m)) ≡ true
      stays m l h =
          let p : (has held m && not (eqb n m)) ≡ true =
          sym (has_without held n m) ∙ and_left (has (without held n) m) (eqb (set_of σ m) (set_of σ n)) h in
          and_both
          (and_both (and_left (has held m) (not (eqb n m)) p) (and_right (has (without held n) m) (eqb (set_of σ m) (set_of σ n)) h))
          (and_right (has held m) (not (eqb n m)) p)

  served-less : (j : ℕ) → served_by (held_in σ (without held n)) j ≤ served_by (held_in σ held) j
  unfolding served_by
  served-less j =
      sum_mono 16 (λ f. min (held_in σ (without held n) f) j) (λ f. min (held_in σ held f) j) (λ f l. let z = fewer f in omega arith)

  -- where its set has no more nodes than there are shards, it served one
  served_low : (j : ℕ) → set_of σ n < 16 → held_in σ held (set_of σ n) ≤ j → served_by (held_in σ (without held n)) j + 1 ≤ served_by (held_in σ held) j
  unfolding served_by
  served_low j l low =
      omega (
        arith,
        sum_mono 16 (λ f. min (held_in σ (without held n) f) j + cond (eqb (set_of σ n) f) 1 0) (λ f. min (held_in σ held f) j) (λ f m. each f),
        sum_add 16 (λ f. min (held_in σ (without held n) f) j) (λ f. cond (eqb (set_of σ n) f) 1 0),
        count_sum 16 (eqb (set_of σ n)),
        count_single 16 (set_of σ n) l,
      )
    where
      each : (f : ℕ) → min (held_in σ (without held n) f) j + cond (eqb (set_of σ n) f) 1 0 ≤ min (held_in σ held f) j
      each f = ⊎_elim yes no (either (eqb (set_of σ n) f))
        where
          yes : eqb (set_of σ n) f ≡ true → min (held_in σ (without held n) f) j + cond (eqb (set_of σ n) f) 1 0 ≤ min (held_in σ held f) j
          yes e =
              let same : set_of σ n ≡ f = eqb-true (set_of σ n) f e in
              let less : held_in σ (without held n) f + 1 ≤ held_in σ held f =
              subst (λ (x : ℕ). held_in σ (without held n) x + 1 ≤ held_in σ held x) same one_less in
              let few : held_in σ held f ≤ j = subst (λ (x : ℕ). held_in σ held x ≤ j) same low in
              let one : ◌≡◌ {A = ℕ} (cond (eqb (set_of σ n) f) 1 0) 1 = rw e in
              omega (arith, less, few, one)

          no : eqb (set_of σ n) f ≡ false → min (held_in σ (without held n) f) j + cond (eqb (set_of σ n) f) 1 0 ≤ min (held_in σ held f) j
          no e = let none : ◌≡◌ {A = ℕ} (cond (eqb (set_of σ n) f) 1 0) 0 = rw e in omega (arith, none, fewer f)

-- ---- the sets of which no node can be lost

module _ (σ : List ℕ) (held : ℕ) where
  pub tight_none : Tight σ held 0
  tight_none = record { none = λ n h z p. clash z (has_zero (set_of σ n)) }

module _ (σ : List ℕ) (held g k : ℕ) (right : Settings σ) (small : held < 2 ^ nodes σ) (group : g < 4) where
  -- what a placement of the rest says
  left_served : (n : ℕ) → Placeable σ (without held n) → group_needs σ g k ≤ served_by (held_in σ (without held n)) (needy_shards σ g k)
  left_served n p = let w = p g group in needs_served σ (without held n) g k w.0 w.1

  -- all, where the held nodes are too few as they are
  pub tight_all : (m : ℕ) → served_by (held_in σ held) (needy_shards σ g k) < group_needs σ g k → Tight σ held m
  tight_all m l =
      record {
        none = λ n h z p. let inside : n < nodes σ = has_below held (nodes σ) n small h in
            let a = served-less σ held n inside h (needy_shards σ g k) in
            let b = left_served n p in omega (arith, a, b, l);
      }

  -- the sets with as many nodes as shards or fewer, where no more are served than are needed
  pub tight_more : (m t : ℕ) → served_by (held_in σ held) (needy_shards σ g k) ≤ group_needs σ g k
      → ((f : ℕ) → has t f ≡ true → held_in σ held f ≤ needy_shards σ g k) → Tight σ held m → Tight σ held (bit_or m t)
  tight_more m t l low w =
      record {
        none = λ n h z p.
            ⊎_elim (λ q. w.none n h q p)
            (λ q. let inside : n < nodes σ = has_below held (nodes σ) n small h in
            let set : set_of σ n < 16 = let a = right.set_below n inside in let b = right.sizes.sets_to in omega (arith, a, b) in
            let a = served_low σ held n inside h (needy_shards σ g k) set (low (set_of σ n) q) in
            let b = left_served n p in omega (arith, a, b, l))
            (or-holds (has m (set_of σ n)) (has t (set_of σ n)) (sym (has_or m t (set_of σ n)) ∙ z));
      }

-- ---- what the code counts

-- by the counts as by the sets
pub served_counted : (h : ℕ → ℕ) (counts : List ℕ) (j : ℕ) → counts ≡ tabulate 16 h → served_by (λ f. get_or counts f 0) j ≡ served_by h j
unfolding served_by
served_counted h counts j e =
    sum_cong 16 (λ f. min (get_or counts f 0) j) (λ f. min (h f) j)
    (λ f l. let z : get_or counts f 0 ≡ h f = subst (λ (c : List ℕ). get_or c f 0 ≡ h f) (sym e) (get_d_tabulate 16 h f 0 l) in omega (arith, z))

pub low_counted : (h : ℕ → ℕ) (counts : List ℕ) (j m : ℕ) → counts ≡ tabulate 16 h → LowBelow counts j 16 m → (f : ℕ) → has m f ≡ true → h f ≤ j
low_counted h counts j m e w f p =
    let q = w.low f p in
    let z : get_or counts f 0 ≡ h f = subst (λ (c : List ℕ). get_or c f 0 ≡ h f) (sym e) (get_d_tabulate 16 h f 0 q.0) in
    let few = q.1 in omega (arith, z, few)

pub low_none : (counts : List ℕ) (j : ℕ) → LowBelow counts j 0 0
low_none counts j = record { low = λ f h. clash h (has_zero f) }

pub low_not : (counts : List ℕ) (j k m : ℕ) → LowBelow counts j k m → LowBelow counts j (k + 1) m
low_not counts j k m w = record { low = λ f h. let z = w.low f h in (let q = z.0 in omega arith, z.1) }

pub low_with : (counts : List ℕ) (j k m : ℕ) → get_or counts k 0 ≤ j → LowBelow counts j k m → LowBelow counts j (k + 1) (with m k)
low_with counts j k m few w =
    record {
      low = λ f h.
          ⊎_elim (λ p. let z = w.low f p in (let q = z.0 in omega arith, z.1))
          (λ p. let e : k ≡ f = eqb-true k f p in (omega arith, subst (λ (x : ℕ). get_or counts x 0 ≤ j) e few))
          (or-holds (has m f) (eqb k f) (sym (has_with m k f) ∙ h));
    }

pub held_not : (σ : List ℕ) (held f n : ℕ) → has held n ≡ false → false ≡ held_of σ held f n
unfolding held_of
held_not σ held f n e = sym (and_fails_left (eqb (set_of σ n) f) e)

pub held_is : (σ : List ℕ) (held f n : ℕ) (r : Bool) → has held n ≡ true → r ≡ eqb (set_of σ n) f → r ≡ held_of σ held f n
unfolding held_of
held_is σ held f n r e h = rw e h

pub needs_not : (σ : List ℕ) (g k s : ℕ) → (subgroup σ s ≡ g → ⊥) → false ≡ needs_at σ g k s
unfolding needs_at
needs_not σ g k s e = sym (and_fails_left (leb k (need σ s)) (ne_eqb (subgroup σ s) g e))

pub needs_is : (σ : List ℕ) (g k s : ℕ) (r : Bool) → subgroup σ s ≡ g → r ≡ leb k (need σ s) → r ≡ needs_at σ g k s
unfolding needs_at
needs_is σ g k s r e h = rw (eq-eqb (subgroup σ s) g e) h

pub need_other : (σ : List ℕ) (g k s : ℕ) → needs_at σ g k s ≡ false → 0 ≡ need_of σ g k s
unfolding need_of
need_other σ g k s e = rw e

pub need_own : (σ : List ℕ) (g k s r : ℕ) → needs_at σ g k s ≡ true → r ≡ need σ s → r ≡ need_of σ g k s
unfolding need_of
need_own σ g k s r e h = rw e h
