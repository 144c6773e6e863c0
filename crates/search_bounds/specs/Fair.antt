-- What weights tell of a placement that agrees with the owners before t and takes open pairs only: it weighs no less than a floor, more where
-- it takes a pair whose inequality leaves much over, and more where it leaves a node nowhere whose inequality leaves much over there.
use Rattle.std.specs.Prelude.{◌≡◌, refl, Bool, true, cond, List, ℕ, ◌+◌, ◌-◌, ◌*◌, ◌≤◌, ◌<◌, eqb, get_or}
use Rattle.std.proofs.Common.{sym, ap, subst, ⊎_elim, arith, eq-eqb, ne_eqb, lt-ltb}
use Rattle.base_laws.specs.Bools.{lt_or_le, eq_or_ne}
use Rattle.base_laws.specs.Definitions.{has}
use Rattle.base_sum_laws.specs.Sums.{sum_single}
use Rattle.base_sum_laws.proofs.Sums.{sum_none}
use Rattle.search_laws.specs.Case.{Case, Valid, weight}
use Rattle.search_laws.specs.Order.{Agree, Begun}
use Rattle.search_laws.specs.Duality.{DualWeights, Modest, Bounds, asked, gain, toll}
use Rattle.search_laws.proofs.Duality.{weak}
use Rattle.search_laws.specs.Cut.{keeps, open_pair}
use Rattle.search_bounds.specs.Post.{OpenFor}

-- the inequalities hold for each node that has an owner, for each that has none and stays so, and for each open pair
pub record FairOpen (K : Case) (W : DualWeights) (o : ℕ → ℕ) (t : ℕ) (rows : List ℕ) : Type 0 where
  pub modest : Modest W
  pub given : (n : ℕ) → n < 32 → o n < 16 → W.need (o n) + W.base ≤ asked K W (o n) n
  pub free : (n : ℕ) → n < 32 → 16 ≤ o n → W.base ≤ K.idle + W.node n
  pub rest : (i n : ℕ) → i < 16 → n < 32 → t ≤ i * 32 + n → has (get_or rows i 0) n ≡ true → 16 ≤ o n → W.need i + W.base ≤ asked K W i n

module _ {K : Case} {W : DualWeights} {o y : ℕ → ℕ} {t : ℕ} {rows : List ℕ} (sets : (n : ℕ) → n < 32 → K.set_of n < 16) (b : Begun o t)
    (f : FairOpen K W o t rows) (v : Valid K y) (a : Agree y o t) (u : OpenFor rows y) where
  fair_at : (n : ℕ) → n < 32 → y n < 16 → W.need (y n) + W.base ≤ asked K W (y n) n
  fair_at n l p =
      ⊎_elim
      (λ h. subst (λ (i : ℕ). W.need i + W.base ≤ asked K W i n) (sym (keeps b a n l h)) (f.given n l h))
      (λ h. f.rest (y n) n p l (open_pair b a n l p h) (u.bit n l p) h)
      (lt_or_le (o n) 16)

  -- a node that is placed nowhere has no owner
  bare : (n : ℕ) → n < 32 → 16 ≤ y n → 16 ≤ o n
  bare n l p = ⊎_elim (λ q. absurd (omega (arith, keeps b a n l q))) (λ q. q) (lt_or_le (o n) 16)

  rests : (n : ℕ) → n < 32 → 16 ≤ y n → W.base ≤ K.idle + W.node n
  rests n l p = f.free n l (bare n l p)

  bounds : (slack : ℕ → ℕ) → ((n : ℕ) → n < 32 → y n < 16 → W.need (y n) + W.base + slack n ≤ asked K W (y n) n) →
      ((n : ℕ) → n < 32 → 16 ≤ y n → W.base + slack n ≤ K.idle + W.node n) → (n : ℕ) → n < 32 → Bounds K W y slack n
  bounds slack h g n l = record { there = λ p. h n l p; nowhere = λ p. g n l p }

  -- the floor
  pub floor : gain K W ≤ weight K y + toll K W
  floor =
      omega (
        arith,
        weak K W y (λ n. 0) v sets f.modest (bounds (λ n. 0) (λ n l p. omega (arith, fair_at n l p)) (λ n l p. omega (arith, rests n l p))),
        sum_none 32 (λ n. 0) (λ n l. refl),
      )

  -- one node's slack
  single : (n over : ℕ) → n < 32 → (y n < 16 → W.need (y n) + W.base + over ≤ asked K W (y n) n) → (16 ≤ y n → W.base + over ≤ K.idle + W.node n) →
      gain K W + over ≤ weight K y + toll K W
  single n over l h g =
      omega (
        arith,
        weak K W y slack v sets f.modest (bounds slack more none),
        sum_single 32 n (λ m. over),
        ap (λ (c : Bool). cond c over 0) (lt-ltb n 32 l),
      )
    where
      slack : ℕ → ℕ
      slack m = cond (eqb n m) over 0

      more : (m : ℕ) → m < 32 → y m < 16 → W.need (y m) + W.base + slack m ≤ asked K W (y m) m
      more m q r =
          ⊎_elim
          (λ e. subst (λ (j : ℕ). y j < 16 → W.need (y j) + W.base + slack j ≤ asked K W (y j) j) e (λ s. simp (eq-eqb n n refl) (h s)) r)
          (λ e. simp (ne_eqb n m e) (omega (arith, fair_at m q r)))
          (eq_or_ne n m)

      none : (m : ℕ) → m < 32 → 16 ≤ y m → W.base + slack m ≤ K.idle + W.node m
      none m q r =
          ⊎_elim
          (λ e. subst (λ (j : ℕ). 16 ≤ y j → W.base + slack j ≤ K.idle + W.node j) e (λ s. simp (eq-eqb n n refl) (g s)) r)
          (λ e. simp (ne_eqb n m e) (omega (arith, rests m q r)))
          (eq_or_ne n m)

  -- the bound of a pair that the placement takes
  pub dear : (n : ℕ) → n < 32 → y n < 16 → gain K W + asked K W (y n) n ≤ weight K y + toll K W + W.need (y n) + W.base
  dear n l p =
      omega (
        arith,
        fair_at n l p,
        single n (asked K W (y n) n - (W.need (y n) + W.base)) l (λ q. omega (arith, fair_at n l p)) (λ q. absurd (omega arith)),
      )

  -- the bound of a node that the placement leaves nowhere
  pub away : (n : ℕ) → n < 32 → 16 ≤ y n → gain K W + (K.idle + W.node n) ≤ weight K y + toll K W + W.base
  away n l p =
      omega (arith, rests n l p, single n (K.idle + W.node n - W.base) l (λ q. absurd (omega arith)) (λ q. omega (arith, rests n l p)))
