-- The pass over the rows of open pairs: what is known before row i. A pair is left as it was, or excluded for a reason: its node has no
-- owner, and its bound is above k. Once every row is passed, the cut is sound.
use Rattle.std.specs.Prelude.{◌≡◌, refl, Bool, true, false, cond, not, ◌&&◌, List, ◌⊎◌, ℕ, ◌+◌, ◌*◌, ◌/◌, ◌-◌, ◌^◌, ◌≤◌, ◌<◌, eqb, leb, ltb, length, get_or, set}
use Rattle.std.proofs.Common.{sym, ap, ap₂, ◌∙◌, subst, subst₂, inl, inr, ⊎_elim, arith, length-set, get_or-set_same, get_or-set_other, leb-true, ltb-true, le-leb, lt-ltb, le-ltb, ne_eqb, pow_pos}
use Rattle.std.specs.Int.Bits.{bit_and, bit_or}
use Rattle.base_laws.specs.Bools.{either, clash, and_both, and_left, and_right, or-holds, eq_or_ne, lt_or_le, not_of_false}
use Rattle.base_laws.specs.Definitions.{all_below, has, without, minus}
use Rattle.base_laws.specs.Below.{all_at}
use Rattle.base_laws.specs.Masks.{has_and, has_or, has_minus, has_without, has_past, has_zero}
use Rattle.base_sum_laws.specs.Definitions.{mask_below}
use Rattle.base_sum_laws.specs.Picked.{mask-at}
use Rattle.search_laws.specs.Case.{Case, Valid, weight}
use Rattle.search_laws.specs.Order.{Agree, Begun}
use Rattle.search_laws.specs.Duality.{DualWeights, Modest, asked, gain, toll}
use Rattle.search_bounds.specs.Fair.{FairOpen, floor, dear, away}
use Rattle.search_bounds.specs.Post.{weights_of, OpenFor, SoundBound, steady}

-- the nodes of m whose pairs with shard i are not before t
pub record Onward (m t i r : ℕ) : Type 0 where
  pub from : (n : ℕ) → n < 32 → t ≤ i * 32 + n → has m n ≡ true → has r n ≡ true
  pub within : (n : ℕ) → has r n ≡ true → has m n ≡ true

-- a row after its nodes of `from` were looked at
pub record Sifted (ask : ℕ → ℕ) (row from least most kept : ℕ) : Type 0 where
  pub keeps : (n : ℕ) → n < 32 → has row n ≡ true → has from n ≡ true → least ≤ ask n
  pub marks : (n : ℕ) → n < 32 → has row n ≡ true → (has kept n ≡ true) ⊎ ((has from n ≡ true) × (most < ask n))

-- one row: the masks before and after
pub record RowCut (K : Case) (W : DualWeights) (free t low high i : ℕ) (rows after : List ℕ) : Type 0 where
  pub kept : ℕ
  pub stored : after ≡ set rows i kept
  pub keeps : (n : ℕ) → n < 32 → t ≤ i * 32 + n → has (get_or rows i 0) n ≡ true → has free n ≡ true → W.need i + W.base ≤ asked K W i n
  pub marks : (n : ℕ) → n < 32 → has (get_or rows i 0) n ≡ true →
      (has kept n ≡ true) ⊎ ((has free n ≡ true) × (low + W.need i + W.base < high + asked K W i n))

-- ---- the leaves

pub modest_of : (wants rooms nodes pairs : List ℕ) → Modest (weights_of wants rooms nodes pairs)
modest_of wants rooms nodes pairs = record { below = λ i f l q. omega arith }

pub onward_all : (m t i : ℕ) → Onward m t i m
onward_all m t i = record { from = λ n l h p. p; within = λ n p. p }

pub onward_rest : (m t i b : ℕ) → i * 32 ≤ t → b ≡ 2 ^ (t - i * 32) - 1 → Onward m t i (minus m b)
onward_rest m t i b l e =
    record {
      from = λ n q h p. has_minus m b n ∙ and_both p (not_of_false (past n h));
      within = λ n p. and_left (has m n) (not (has b n)) (sym (has_minus m b n) ∙ p);
    }
  where
    past : (n : ℕ) → t ≤ i * 32 + n → has b n ≡ false
    past n h = has_past b (t - i * 32) n (omega (arith, pow_pos (t - i * 32))) (omega arith)

-- the loop over a row: m has the nodes that are still to be looked at
module _ (ask : ℕ → ℕ) (row from least most : ℕ) where
  pub record Sifting (m kept : ℕ) : Type 0 where
    pub keeps : (n : ℕ) → n < 32 → has row n ≡ true → has from n ≡ true → (has m n ≡ true) ⊎ (least ≤ ask n)
    pub marks : (n : ℕ) → n < 32 → has row n ≡ true → (has kept n ≡ true) ⊎ ((has from n ≡ true) × (most < ask n))
    pub inside : (n : ℕ) → has m n ≡ true → has from n ≡ true

  pub sift_start : Sifting (bit_and row from) row
  sift_start =
      record {
        keeps = λ n l p q. inl (has_and row from n ∙ and_both p q);
        marks = λ n l p. inl p;
        inside = λ n p. and_right (has row n) (has from n) (sym (has_and row from n) ∙ p);
      }

  -- node n looked at
  pub sift_turn : {m kept : ℕ} (n x : ℕ) (b : Bool) → has m n ≡ true → x ≡ ask n → least ≤ x → (b ≡ true → most < x) → Sifting m kept →
      Sifting (without m n) (cond b (without kept n) kept)
  sift_turn {m} {kept} n x b p e h g s = record { keeps = keeps; marks = λ j l q. marks j l q (either b); inside = inside }
    where
      others : (j : ℕ) → (j ≡ n → ⊥) → (z : ℕ) → has z j ≡ true → has (without z n) j ≡ true
      others j d z q = has_without z n j ∙ and_both q (not_of_false (ne_eqb n j (λ c. d (sym c))))

      keeps : (j : ℕ) → j < 32 → has row j ≡ true → has from j ≡ true → (has (without m n) j ≡ true) ⊎ (least ≤ ask j)
      keeps j l q r =
          ⊎_elim (λ d. inr (subst (λ (i : ℕ). least ≤ ask i) (sym d) (omega arith)))
          (λ d. ⊎_elim (λ a. inl (others j d m a)) (λ a. inr a) (s.keeps j l q r))
          (eq_or_ne j n)

      inside : (j : ℕ) → has (without m n) j ≡ true → has from j ≡ true
      inside j q = s.inside j (and_left (has m j) (not (eqb n j)) (sym (has_without m n j) ∙ q))

      here : (j : ℕ) → j ≡ n → b ≡ true → (has from j ≡ true) × (most < ask j)
      here j d t = (subst (λ (i : ℕ). has from i ≡ true) (sym d) (s.inside n p), subst (λ (i : ℕ). most < ask i) (sym d) (omega (arith, g t)))

      marks : (j : ℕ) → j < 32 → has row j ≡ true → (b ≡ true) ⊎ (b ≡ false) → (has (cond b (without kept n) kept) j ≡ true) ⊎ ((has from j ≡ true) × (most < ask j))
      marks j l q (inr t) = ⊎_elim (λ a. inl (ap (λ (c : Bool). has (cond c (without kept n) kept) j) t ∙ a)) (λ a. inr a) (s.marks j l q)
      marks j l q (inl t) =
          ⊎_elim (λ d. inr (here j d t))
          (λ d. ⊎_elim (λ a. inl (ap (λ (c : Bool). has (cond c (without kept n) kept) j) t ∙ others j d kept a)) (λ a. inr a) (s.marks j l q))
          (eq_or_ne j n)

  pub sift_end : {m kept : ℕ} → m ≡ 0 → Sifting m kept → Sifted ask row from least most kept
  sift_end {m} e s =
      record {
        keeps = λ n l p q. ⊎_elim (λ a. clash a (ap (λ (z : ℕ). has z n) e ∙ has_zero n)) (λ a. a) (s.keeps n l p q);
        marks = s.marks;
      }

-- ---- a row

-- a sifted row, with its limits: u is the need's weight from the base, h the room's
pub row_cut : (K : Case) (W : DualWeights) (free t low high i u h least most from kept : ℕ) (rows : List ℕ) → u ≡ W.need i + W.base → h ≡ W.room i →
    least ≡ u - h → most ≡ low + u - (high + h) → Onward free t i from →
    Sifted (λ n. K.cost i n + W.pair i (K.set_of n) + W.node n) (get_or rows i 0) from least most kept → RowCut K W free t low high i rows (set rows i kept)
row_cut K W free t low high i u h least most from kept rows d e f g w s =
    record {
      kept = kept;
      stored = refl;
      keeps = λ n l q p r. omega (arith, s.keeps n l p (w.from n l q r));
      marks = λ n l p. ⊎_elim (λ a. inl a) (λ a. inr (w.within n a.0, omega (arith, a.1))) (s.marks n l p);
    }

-- all rows before i: the masks at first and now
pub record RowsPassed (K : Case) (W : DualWeights) (free t low high i : ℕ) (first rows : List ℕ) : Type 0 where
  pub long : length rows ≡ 17
  pub later : (j : ℕ) → i ≤ j → get_or rows j 0 ≡ get_or first j 0
  pub keeps : (j n : ℕ) → j < i → n < 32 → t ≤ j * 32 + n → has (get_or first j 0) n ≡ true → has free n ≡ true → W.need j + W.base ≤ asked K W j n
  pub marks : (j n : ℕ) → n < 32 → has (get_or first j 0) n ≡ true →
      (has (get_or rows j 0) n ≡ true) ⊎ ((has free n ≡ true) × (low + W.need j + W.base < high + asked K W j n))

module _ {K : Case} {W : DualWeights} {free t low high : ℕ} where
  pub rows_none : (i : ℕ) {first : List ℕ} → i ≡ t / 32 → length first ≡ 17 → RowsPassed K W free t low high i first first
  rows_none i e l = record { long = l; later = λ j h. refl; keeps = λ j n h q g. absurd (omega arith); marks = λ j n q p. inl p }

  pub rows_more : {i : ℕ} {first rows after : List ℕ} → i < 16 → RowsPassed K W free t low high i first rows → RowCut K W free t low high i rows after →
      RowsPassed K W free t low high (i + 1) first after
  rows_more {i} {first} {rows} {after} l p v = subst (λ (z : List ℕ). RowsPassed K W free t low high (i + 1) first z) (sym v.stored) stored
    where
      same : get_or rows i 0 ≡ get_or first i 0
      same = p.later i (omega arith)

      at : get_or (set rows i v.kept) i 0 ≡ v.kept
      at = get_or-set_same rows i v.kept 0 (omega (arith, p.long))

      else : (j : ℕ) → (j ≡ i → ⊥) → get_or (set rows i v.kept) j 0 ≡ get_or rows j 0
      else j d = get_or-set_other rows i j v.kept 0 d

      now : (j n : ℕ) → j ≡ i → has (get_or first j 0) n ≡ true → has (get_or rows i 0) n ≡ true
      now j n d q = ap (λ (z : ℕ). has z n) (same ∙ ap (λ (z : ℕ). get_or first z 0) (sym d)) ∙ q

      keeps : (j n : ℕ) → j < i + 1 → n < 32 → t ≤ j * 32 + n → has (get_or first j 0) n ≡ true → has free n ≡ true → W.need j + W.base ≤ asked K W j n
      keeps j n h q g a b =
          ⊎_elim
          (λ d. subst (λ (z : ℕ). W.need z + W.base ≤ asked K W z n) (sym d) (v.keeps n q (omega arith) (now j n d a) b))
          (λ d. p.keeps j n (omega arith) q g a b)
          (eq_or_ne j i)

      marks : (j n : ℕ) → n < 32 → has (get_or first j 0) n ≡ true →
          (has (get_or (set rows i v.kept) j 0) n ≡ true) ⊎ ((has free n ≡ true) × (low + W.need j + W.base < high + asked K W j n))
      marks j n q a =
          ⊎_elim
          (λ d. ⊎_elim
          (λ b. inl (ap (λ (z : ℕ). has (get_or (set rows i v.kept) z 0) n) d ∙ (ap (λ (z : ℕ). has z n) at ∙ b)))
          (λ b. inr (b.0, subst (λ (z : ℕ). low + W.need z + W.base < high + asked K W z n) (sym d) b.1))
          (v.marks n q (now j n d a)))
          (λ d. ⊎_elim (λ b. inl (ap (λ (z : ℕ). has z n) (else j d) ∙ b)) (λ b. inr b) (p.marks j n q a))
          (eq_or_ne j i)

      stored : RowsPassed K W free t low high (i + 1) first (set rows i v.kept)
      stored =
          record {
            long = length-set rows i v.kept ∙ p.long;
            later = λ j h. else j (λ d. omega arith) ∙ p.later j (omega arith);
            keeps = keeps;
            marks = marks;
          }

-- ---- every row passed: the cut is sound

-- the nodes without an owner
abbrev pub free_of : (ℕ → ℕ) → ℕ
free_of o = mask_below 32 (λ n. leb 16 (o n))

-- the nodes that can't be placed nowhere
abbrev pub must_of : Case → DualWeights → ℕ → ℕ → ℕ
must_of K W low high = mask_below 32 (λ n. ltb (low + W.base) (high + (K.idle + W.node n)))

module _ (K : Case) (W : DualWeights) (o : ℕ → ℕ) (t k : ℕ) (first rows : List ℕ) where
  -- the masks with the nodes that must be placed
  abbrev pub with_marks : List ℕ
  with_marks = set rows 16 (bit_or (get_or rows 16 0) (bit_and (must_of K W (k + toll K W) (gain K W)) (free_of o)))

  module _ (small : (n : ℕ) → n < 32 → K.set_of n < 16) (modest : Modest W) (b : Begun o t) (s : all_below 32 (steady K W o) ≡ true)
      (p : RowsPassed K W (free_of o) t (k + toll K W) (gain K W) 16 first rows) where
    fair : FairOpen K W o t first
    fair = record { modest = modest; given = given; free = free; rest = rest }
      where
        given : (m : ℕ) → m < 32 → o m < 16 → W.need (o m) + W.base ≤ asked K W (o m) m
        given m l h = leb-true (W.need (o m) + W.base) (asked K W (o m) m) (simp (lt-ltb (o m) 16 h) at (all_at 32 (steady K W o) s m l))

        free : (m : ℕ) → m < 32 → 16 ≤ o m → W.base ≤ K.idle + W.node m
        free m l h = leb-true W.base (K.idle + W.node m) (simp (le-ltb (o m) 16 h) at (all_at 32 (steady K W o) s m l))

        rest : (i m : ℕ) → i < 16 → m < 32 → t ≤ i * 32 + m → has (get_or first i 0) m ≡ true → 16 ≤ o m → W.need i + W.base ≤ asked K W i m
        rest i m g l h c f = p.keeps i m g l h c (mask-at 32 (λ n. leb 16 (o n)) m l ∙ le-leb 16 (o m) f)

    -- a bit of the free nodes
    unowned : (n : ℕ) → n < 32 → has (free_of o) n ≡ true → 16 ≤ o n
    unowned n l h = leb-true 16 (o n) (sym (mask-at 32 (λ m. leb 16 (o m)) n l) ∙ h)

    kept_rows : (j : ℕ) → j < 16 → get_or with_marks j 0 ≡ get_or rows j 0
    kept_rows j l = get_or-set_other rows 16 j (bit_or (get_or rows 16 0) (bit_and (must_of K W (k + toll K W) (gain K W)) (free_of o))) 0 (λ e. omega arith)

    last : get_or with_marks 16 0 ≡ bit_or (get_or rows 16 0) (bit_and (must_of K W (k + toll K W) (gain K W)) (free_of o))
    last = get_or-set_same rows 16 (bit_or (get_or rows 16 0) (bit_and (must_of K W (k + toll K W) (gain K W)) (free_of o))) 0 (omega (arith, p.long))

    uses : (y : ℕ → ℕ) → Valid K y → Agree y o t → OpenFor first y → weight K y ≤ k → OpenFor with_marks y
    uses y v a u c =
        record {
          bit = λ n l h. ap (λ (z : ℕ). has z n) (kept_rows (y n) h)
              ∙ ⊎_elim (λ e. e) (λ r. absurd (omega (arith, dear {K = K} {W = W} small b fair v a u n l h, r.1))) (p.marks (y n) n l (u.bit n l h));
        }

    marks : (n : ℕ) → n < 32 → has (get_or with_marks 16 0) n ≡ true →
        (has (get_or first 16 0) n ≡ true) ⊎ ((16 ≤ o n) × ((y : ℕ → ℕ) → Valid K y → Agree y o t → OpenFor first y → weight K y ≤ k → y n < 16))
    marks n l h = ⊎_elim (λ e. inl (ap (λ (z : ℕ). has z n) (sym (p.later 16 (omega arith))) ∙ e)) (λ e. inr (new e)) (or-holds _ _ (sym (has_or (get_or rows 16 0) must n) ∙ (ap (λ (z : ℕ). has z n) (sym last) ∙ h)))
      where
        must : ℕ
        must = bit_and (must_of K W (k + toll K W) (gain K W)) (free_of o)

        new : has must n ≡ true → (16 ≤ o n) × ((y : ℕ → ℕ) → Valid K y → Agree y o t → OpenFor first y → weight K y ≤ k → y n < 16)
        new e =
            let both : (has (must_of K W (k + toll K W) (gain K W)) n && has (free_of o) n) ≡ true = sym (has_and (must_of K W (k + toll K W) (gain K W)) (free_of o) n) ∙ e in
            let above : k + toll K W + W.base < gain K W + (K.idle + W.node n) =
            ltb-true (k + toll K W + W.base) (gain K W + (K.idle + W.node n))
            (sym (mask-at 32 (λ m. ltb (k + toll K W + W.base) (gain K W + (K.idle + W.node m))) n l) ∙ and_left (has (must_of K W (k + toll K W) (gain K W)) n) (has (free_of o) n) both) in (
              unowned n l (and_right (has (must_of K W (k + toll K W) (gain K W)) n) (has (free_of o) n) both),
              λ y v a u c. ⊎_elim (λ q. q) (λ q. absurd (omega (arith, above, c, away {K = K} {W = W} small b fair v a u n l q))) (lt_or_le (y n) 16),
            )

    pub sound : SoundBound K k (gain K W - toll K W) o t first with_marks
    sound =
        record {
          long = length-set rows 16 (bit_or (get_or rows 16 0) (bit_and (must_of K W (k + toll K W) (gain K W)) (free_of o))) ∙ p.long;
          bound = λ y v a u. omega (arith, floor {K = K} {W = W} small b fair v a u);
          uses = uses;
          marks = marks;
        }

-- the same, by the numbers that the code has
pub sound_by : (K : Case) (W : DualWeights) (o : ℕ → ℕ) (t k low high most free must : ℕ) (first rows : List ℕ) → ((n : ℕ) → n < 32 → K.set_of n < 16) →
    Modest W → Begun o t → all_below 32 (steady K W o) ≡ true → low ≡ k + toll K W → high ≡ gain K W → most ≡ high - (low - k) → free ≡ free_of o →
    must ≡ must_of K W low high → RowsPassed K W free t low high 16 first rows →
    SoundBound K k most o t first (set rows 16 (bit_or (get_or rows 16 0) (bit_and must free)))
sound_by K W o t k low high most free must first rows small modest b s l h e f m p =
    subst₂ (λ (x y : ℕ). SoundBound K k most o t first (set rows 16 (bit_or (get_or rows 16 0) (bit_and x y)))) (sym (m ∙ ap₂ (λ (x y : ℕ). must_of K W x y) l h)) (sym f)
    (subst (λ (x : ℕ). SoundBound K k x o t first (with_marks K W o t k first rows)) (sym (e ∙ omega arith))
    (sound K W o t k first rows small modest b s
    (subst₂ (λ (x y : ℕ). RowsPassed K W (free_of o) t x y 16 first rows) l h (subst (λ (x : ℕ). RowsPassed K W x t low high 16 first rows) f p))))
