-- The rounds leave no freedom, their end is valid, enough of them have least moves, and the gap bounds what any other placement saves.
use Rattle.std.specs.Prelude.{ℕ, ◌+◌, ◌^◌, ◌≤◌, ◌<◌, Bool, true, false, List, ◌⊎◌, ◌≡◌, refl, eqb}
use Rattle.std.proofs.Common.{arith, inl, inr, ⊎_elim, ◌∙◌, subst, eq-eqb, ne_eqb, lt-ltb}
use Rattle.std.proofs.Math.Bool.{cond}
use Rattle.std.proofs.Math.Path.{sym, ap}
use Rattle.base_laws.specs.Bools.{either, lt_or_le, eq_or_ne}
use Rattle.base_sum_laws.specs.Definitions.{sum_below}
use Rattle.base_sum_laws.specs.Sums.{sum_cong, sum_mono, sum_add, sum_single}
use Rattle.base_sum_laws.proofs.Sums.{sum_swap, sum_bound}
use Rattle.settings_values.specs.Definitions.{nodes, shards, subgroup, Settings}
use Rattle.place_groups.specs.Definitions.{group_valid, group_moves, LeastMoves, of_group, plan_moves, AllValid}
use Rattle.place_groups.proofs.Chosen.{not_later_both}
use Rattle.place_laws.specs.Cases.{of-group, group_shard, group_other}
use Rattle.place_laws.specs.Local.{AlikeInGroup, valid_local, moves_local}
use Rattle.place_laws.proofs.Tables.{case_for}
use Rattle.place_laws.proofs.Owners.{owner_masked, from_masks, moves_small}
use Rattle.place_laws.specs.Choice.{same_masks}
use Rattle.place_laws.specs.Definitions.{lacking}
use Rattle.place_laws.specs.Floor.{group_floor}
use Rattle.place_laws.proofs.Floor.{floor_least}
use Rattle.place_rounds.specs.Definitions.{FirstValid, FirstFewer, NoneFewer, Round, SamePlan, Rounds, over, done, more, plan_floor, gap_of, Bettered}

-- the same nodes for every shard, within a subgroup
alike_in : {σ : List ℕ} {a b : ℕ → ℕ} → SamePlan σ a b → (g : ℕ) → AlikeInGroup σ g a b
alike_in {σ} e g = record { at = λ s o. e s (group_shard σ g s o) }

same_moves : (σ : List ℕ) (old a b : ℕ → ℕ) → SamePlan σ a b → (g : ℕ) → group_moves σ old a g ≡ group_moves σ old b g
same_moves σ old a b e g = moves_local (record { at = λ s o. e s (group_shard σ g s o) }) old

-- another subgroup's shards keep theirs
round_alike : {σ : List ℕ} {held : ℕ} {old a b : ℕ → ℕ} (r : Round σ held old a b) (h : ℕ) → (h ≡ r.at → ⊥) → AlikeInGroup σ h a b
round_alike {σ} r h d = record { at = λ s o. sym (r.else s (group_shard σ h s o) (group_other σ r.at h s d o)) }

none_alike : {σ : List ℕ} {held : ℕ} {old a b : ℕ → ℕ} {g : ℕ} → AlikeInGroup σ g a b → NoneFewer σ held old a g → NoneFewer σ held old b g
none_alike {old = old} k w = record { none = λ other v. omega (arith, w.none other v, moves_local k old) }

module _ {σ : List ℕ} {held : ℕ} {old : ℕ → ℕ} where
  -- valid all along
  pub rounds_valid : {n : ℕ} {a c : ℕ → ℕ} → AllValid σ held a → Rounds σ held old n a c → AllValid σ held c
  rounds_valid v (over e) = λ g l. valid_local (alike_in e g) held (v g l)
  rounds_valid v (done d e) = λ g l. valid_local (alike_in e g) held (v g l)
  rounds_valid v (more {b = b} r s) =
      rounds_valid
      (λ g l. ⊎_elim (λ e. subst (λ (h : ℕ). group_valid σ held b h ≡ true) (sym e) r.better.valid) (λ e. valid_local (round_alike r g e) held (v g l)) (eq_or_ne g r.at))
      s

  -- what is reached is valid
  pub bettered_valid : {n : ℕ} {c : ℕ → ℕ} → Bettered σ held old n c → AllValid σ held c
  bettered_valid b = rounds_valid (λ g l. (b.first g l).valid) b.rounds

  round_lowers : {a b : ℕ → ℕ} → Round σ held old a b → plan_moves σ old b < plan_moves σ old a
  round_lowers {a} {b} r =
      omega (
        arith,
        sum_mono 4 (λ h. group_moves σ old b h + cond (eqb r.at h) 1 0) (group_moves σ old a) step,
        sum_add 4 (group_moves σ old b) (λ h. cond (eqb r.at h) 1 0),
        sum_single 4 r.at (λ h. 1),
        ap {B = ℕ} (λ (c : Bool). cond c 1 0) (lt-ltb r.at 4 r.below),
      )
    where
      step : (h : ℕ) → h < 4 → group_moves σ old b h + cond (eqb r.at h) 1 0 ≤ group_moves σ old a h
      step h l =
          ⊎_elim
          (λ e. subst (λ (g : ℕ). group_moves σ old b g + cond (eqb r.at g) 1 0 ≤ group_moves σ old a g) e (simp (eq-eqb r.at r.at refl) (omega (arith, r.better.fewer))))
          (λ e. simp (ne_eqb r.at h e) (omega (arith, moves_local (round_alike r h (λ d. e (sym d))) old)))
          (eq_or_ne r.at h)

  lowered : {n : ℕ} {a c : ℕ → ℕ} → Rounds σ held old n a c → ((g : ℕ) → g < 4 → NoneFewer σ held old c g) ⊎ (plan_moves σ old c + n ≤ plan_moves σ old a)
  lowered {a = a} {c = c} (over e) =
      inr (omega (arith, sum_cong 4 (group_moves σ old a) (group_moves σ old c) (λ g l. moves_local (alike_in e g) old)))
  lowered (done d e) = inl (λ g l. none_alike (alike_in e g) (d g l))
  lowered (more r s) = ⊎_elim (λ d. inl d) (λ l. inr (omega (arith, round_lowers r))) (lowered s)

  -- where the rounds are as many as the moves at first less a floor of all, no subgroup has fewer
  pub rounds_least : {n : ℕ} {a c : ℕ → ℕ} (floor : ℕ) → ((other : ℕ → ℕ) → AllValid σ held other → floor ≤ plan_moves σ old other)
      → AllValid σ held a → plan_moves σ old a ≤ n + floor → Rounds σ held old n a c → (g : ℕ) → g < 4 → LeastMoves σ held old c g
  rounds_least {n} {a} {c} floor low v h r g l =
      let w = rounds_valid v r in
      record {
        valid = w g l;
        least = ⊎_elim (λ d. (d g l).none) (λ k other u. lowest g l k other u) (lowered r);
      }
    where
      lowest : (g : ℕ) → g < 4 → plan_moves σ old c + n ≤ plan_moves σ old a → (other : ℕ → ℕ) → group_valid σ held other g ≡ true → group_moves σ old c g ≤ group_moves σ old other g
      lowest g l k other u =
          ⊎_elim (λ q. absurd (omega (arith, low mixed mixed_valid, mixed_moves q))) (λ q. q) (lt_or_le (group_moves σ old other g) (group_moves σ old c g))
        where
          mixed : ℕ → ℕ
          mixed s = cond (of_group σ g s) (other s) (c s)

          ours : AlikeInGroup σ g other mixed
          ours = record { at = λ s o. sym (ap (λ (b : Bool). cond b (other s) (c s)) o) }

          theirs : (h : ℕ) → (h ≡ g → ⊥) → AlikeInGroup σ h c mixed
          theirs h d = record { at = λ s o. sym (ap (λ (b : Bool). cond b (other s) (c s)) (group_other σ g h s d o)) }

          mixed_valid : AllValid σ held mixed
          mixed_valid h q =
              ⊎_elim (λ e. subst (λ (i : ℕ). group_valid σ held mixed i ≡ true) (sym e) (valid_local ours held u)) (λ e. valid_local (theirs h e) held (rounds_valid v r h q)) (eq_or_ne h g)

          mixed_moves : group_moves σ old other g < group_moves σ old c g → plan_moves σ old mixed < plan_moves σ old c
          mixed_moves q =
              omega (
                arith,
                sum_mono 4 (λ h. group_moves σ old mixed h + cond (eqb g h) 1 0) (group_moves σ old c) step,
                sum_add 4 (group_moves σ old mixed) (λ h. cond (eqb g h) 1 0),
                sum_single 4 g (λ h. 1),
                ap {B = ℕ} (λ (c : Bool). cond c 1 0) (lt-ltb g 4 l),
              )
            where
              step : (h : ℕ) → h < 4 → group_moves σ old mixed h + cond (eqb g h) 1 0 ≤ group_moves σ old c h
              step h i =
                  ⊎_elim
                  (λ e. subst (λ (x : ℕ). group_moves σ old mixed x + cond (eqb g x) 1 0 ≤ group_moves σ old c x) e (simp (eq-eqb g g refl) (omega (arith, moves_local ours old))))
                  (λ e. simp (ne_eqb g h e) (omega (arith, moves_local (theirs h (λ d. e (sym d))) old)))
                  (eq_or_ne g h)

module _ {σ : List ℕ} {held : ℕ} (right : Settings σ) (inside : held < 2 ^ nodes σ) where
  -- the first of all is one
  pub start_one : {a b : ℕ → ℕ} → ((g : ℕ) → g < 4 → FirstValid σ held a g) → ((g : ℕ) → g < 4 → FirstValid σ held b g) → SamePlan σ a b
  start_one {a} {b} p q s l =
      let g : ℕ = subgroup σ s in
      let small : subgroup σ s < 4 = omega (arith, right.subgroup_to s l) in
      let x = p (subgroup σ s) small in
      let y = q (subgroup σ s) small in
      same_masks right inside (subgroup σ s) x.valid y.valid (not_later_both (x.first b y.valid) (y.first a x.valid)) s (of-group σ (subgroup σ s) s l refl)

module _ {σ : List ℕ} {held : ℕ} (right : Settings σ) (inside : held < 2 ^ nodes σ) {old : ℕ → ℕ} where
  round_one : {a a' b b' : ℕ → ℕ} → SamePlan σ a a' → Round σ held old a b → Round σ held old a' b' → SamePlan σ b b'
  round_one {a} {a'} {b} {b'} e r q = by (lt_or_le r.at q.at) (lt_or_le q.at r.at)
    where
      by : (r.at < q.at) ⊎ (q.at ≤ r.at) → (q.at < r.at) ⊎ (r.at ≤ q.at) → SamePlan σ b b'
      by (inl l) y = absurd (omega (arith, (q.lower r.at l).none b r.better.valid, same_moves σ old a a' e r.at, r.better.fewer))
      by (inr l) (inl m) = absurd (omega (arith, (r.lower q.at m).none b' q.better.valid, same_moves σ old a a' e q.at, q.better.fewer))
      by (inr l) (inr m) = same
        where
          at : q.at ≡ r.at
          at = omega arith

          other : FirstFewer σ held old a' b' r.at
          other = subst (λ (g : ℕ). FirstFewer σ held old a' b' g) at q.better

          here : (s : ℕ) → of_group σ r.at s ≡ true → b s ≡ b' s
          here s o =
              same_masks right inside r.at r.better.valid other.valid
              (not_later_both
              (r.better.first b' other.valid (omega (arith, other.fewer, same_moves σ old a a' e r.at)))
              (other.first b r.better.valid (omega (arith, r.better.fewer, same_moves σ old a a' e r.at))))
              s o

          there : (s : ℕ) → s < shards σ → of_group σ r.at s ≡ false → b s ≡ b' s
          there s k o = r.else s k o ∙ (e s k ∙ sym (q.else s k (subst (λ (g : ℕ). of_group σ g s ≡ false) (sym at) o)))

          same : SamePlan σ b b'
          same s k = ⊎_elim (here s) (there s k) (either (of_group σ r.at s))

  -- a round is made only where a better one is
  unlike : {a a' b : ℕ → ℕ} → SamePlan σ a a' → (r : Round σ held old a' b) → NoneFewer σ held old a r.at → ⊥
  unlike {a} {a'} {b} e r d = omega (arith, d.none b r.better.valid, r.better.fewer, same_moves σ old a a' e r.at)

  -- the rounds from one start end at one place
  pub rounds_one : {n : ℕ} {a a' c c' : ℕ → ℕ} → SamePlan σ a a' → Rounds σ held old n a c → Rounds σ held old n a' c' → SamePlan σ c c'
  rounds_one e (over p) (over q) = λ s l. sym (p s l) ∙ (e s l ∙ q s l)
  rounds_one e (over p) (done d q) = λ s l. sym (p s l) ∙ (e s l ∙ q s l)
  rounds_one e (done d p) (over q) = λ s l. sym (p s l) ∙ (e s l ∙ q s l)
  rounds_one e (done d p) (done f q) = λ s l. sym (p s l) ∙ (e s l ∙ q s l)
  rounds_one {a = a} {a' = a'} e (done d p) (more r s) = absurd (unlike e r (d r.at r.below))
  rounds_one {a = a} {a' = a'} e (more r s) (done d p) = absurd (unlike (λ i l. sym (e i l)) r (d r.at r.below))
  rounds_one e (more r s) (more q t) = rounds_one (round_one e r q) s t

  pub bettered_one : {n : ℕ} {a b : ℕ → ℕ} → Bettered σ held old n a → Bettered σ held old n b → SamePlan σ a b
  bettered_one p q = rounds_one (start_one right inside p.first q.first) p.rounds q.rounds

-- ---- the gap

module _ (σ : List ℕ) (held : ℕ) (old : ℕ → ℕ) (right : Settings σ) (inside : held < 2 ^ nodes σ) where
  pub floor_groups : plan_floor σ held old ≡ sum_below 4 (group_floor σ held old)
  unfolding plan_floor group_floor
  floor_groups =
      sum_cong (shards σ) (lacking σ held old) (λ s. sum_below 4 (λ g. cond (eqb (subgroup σ s) g) (lacking σ held old s) 0)) (λ s l. sym (once s l))
      ∙ sum_swap (shards σ) 4 (λ s g. cond (eqb (subgroup σ s) g) (lacking σ held old s) 0)
    where
      once : (s : ℕ) → s < shards σ → sum_below 4 (λ g. cond (eqb (subgroup σ s) g) (lacking σ held old s) 0) ≡ lacking σ held old s
      once s l =
          sum_single 4 (subgroup σ s) (λ g. lacking σ held old s)
          ∙ ap (λ (b : Bool). cond b (lacking σ held old s) 0) (lt-ltb (subgroup σ s) 4 (omega (arith, right.subgroup_to s l)))

  pub floor_low : (masks : ℕ → ℕ) → AllValid σ held masks → plan_floor σ held old ≤ plan_moves σ old masks
  floor_low masks v =
      omega (arith, floor_groups, sum_mono 4 (group_floor σ held old) (group_moves σ old masks) (λ g l. floor_least σ held old g right inside masks (v g l)))

  -- nothing is cut off by the subtraction
  pub gap_is : (masks : ℕ → ℕ) → AllValid σ held masks → gap_of σ held old masks + plan_floor σ held old ≡ plan_moves σ old masks
  unfolding gap_of
  gap_is masks v = omega (arith, floor_low masks v)

  -- no valid placement has fewer moves by more than the gap
  pub gap_bounds : (masks other : ℕ → ℕ) → AllValid σ held masks → AllValid σ held other
      → plan_moves σ old masks ≤ plan_moves σ old other + gap_of σ held old masks
  gap_bounds masks other v w = omega (arith, gap_is masks v, floor_low other w)

  -- as many rounds as the gap at first are enough
  pub enough_rounds : {n : ℕ} {c : ℕ → ℕ} (b : Bettered σ held old n c) → gap_of σ held old b.start ≤ n → (g : ℕ) → g < 4 → LeastMoves σ held old c g
  enough_rounds {n} b h =
      let v : AllValid σ held b.start = λ g l. (b.first g l).valid in
      rounds_least (plan_floor σ held old) floor_low v (omega (arith, gap_is b.start v)) b.rounds

  -- no valid placement has more than 128 moves
  moves_most : (masks : ℕ → ℕ) → AllValid σ held masks → plan_moves σ old masks ≤ 128
  moves_most masks v =
      omega (
        arith,
        sum_bound 4 32 (group_moves σ old masks)
            (λ g l. let c = case_for σ held old g right in
            moves_small right inside c (owner_masked σ held g masks right inside (v g l)) (from_masks right inside c masks (v g l)) old),
      )

  pub gap_most : (masks : ℕ → ℕ) → AllValid σ held masks → gap_of σ held old masks ≤ 128
  gap_most masks v = omega (arith, gap_is masks v, moves_most masks v)

  -- 128 rounds are always enough
  pub rounds_most : {c : ℕ → ℕ} → Bettered σ held old 128 c → (g : ℕ) → g < 4 → LeastMoves σ held old c g
  rounds_most b = enough_rounds b (gap_most b.start (λ g l. (b.first g l).valid))
