-- Laws of masks. Most go by one step: the lowest bit is `m % 2`, and the others are the bits of `m / 2`.
use Rattle.std.specs.Prelude.{◌≡◌, refl, Bool, true, false, cond, not, ◌&&◌, ◌||◌, ℕ, zero, suc, ◌+◌, ◌-◌, ◌*◌, ◌/◌, ◌%◌, ◌^◌, ◌≤◌, ◌<◌, min, max, eqb}
use Rattle.std.proofs.Common.{sym, ap, ap₂, ◌∙◌, subst, ⊎_elim, zero-le, suc-le-suc, le_refl, lt_of_lt_of_le, le_of_suc-le-suc, not-suc-le-zero, mod-lt, one-mul, zero-lt-suc, one-add, arith, pow_pos, pow_mono, shl_exact, shr-shr, eqb-true, eq-eqb, ne_eqb, ltb-true, lt-ltb}
use Rattle.std.proofs.Math.Nat.{div-eq_of_lt}
use Rattle.std.proofs.Math.Dec.{eqb-suc-suc, eqb-suc-zero, eqb-zero-suc}
use Rattle.std.proofs.Math.Arith.{lt-one}
use Rattle.std.proofs.Math.Pow.{pow-lt}
use Rattle.std.specs.Int.Bits.{bit_and, bit_or, and_step, or_step}
use Rattle.std.proofs.lemmas.Nat.{and_le_l, and_le_r, or_lt, ones-le}
use Rattle.std.specs.Int.Count.{ones, ones_step}
use Rattle.base_laws.specs.Bools.{lt_or_le, either, clash, no_true, and_both, and_left, and_right, not_of_false}
use Rattle.base_laws.specs.Definitions.{any_below, count_below, has, within, subset, disjoint, count, minus, with, without}
use Rattle.base_laws.specs.Below.{any_witness, any_fails, count_cong, count_front, count_some, count_split, count_meet}

-- ---- one step: the lowest bit, and the others

pub has_lowest : (m : ℕ) → has m 0 ≡ eqb (m % 2) 1
has_lowest m = let e : m / 2 ^ 0 ≡ m = omega arith in ap (λ (x : ℕ). eqb (x % 2) 1) e

pub has_suc : (m n : ℕ) → has m (suc n) ≡ has (m / 2) n
has_suc m n = ap (λ (x : ℕ). eqb (x % 2) 1) (sym (shr-shr m 1 n ∙ ap (λ (k : ℕ). m / 2 ^ k) (one-add n)))

half_lt : {m : ℕ} (w : ℕ) → m < 2 ^ suc w → m / 2 < 2 ^ w
half_lt {m} w h = omega arith

and_half : (a b : ℕ) → bit_and a b / 2 ≡ bit_and (a / 2) (b / 2)
and_half a b = omega (arith, and_step a b)

and_lowest : (a b : ℕ) → bit_and a b % 2 ≡ min (a % 2) (b % 2)
and_lowest a b = omega (arith, and_step a b)

or_half : (a b : ℕ) → bit_or a b / 2 ≡ bit_or (a / 2) (b / 2)
or_half a b = omega (arith, or_step a b)

or_lowest : (a b : ℕ) → bit_or a b % 2 ≡ max (a % 2) (b % 2)
or_lowest a b = omega (arith, or_step a b)

minus_half : (a b : ℕ) → minus a b / 2 ≡ minus (a / 2) (b / 2)
minus_half a b = omega (arith, and_step a b, and_le_l (a / 2) (b / 2))

minus_lowest : (a b : ℕ) → minus a b % 2 ≡ a % 2 - b % 2
minus_lowest a b = omega (arith, and_step a b, and_le_l (a / 2) (b / 2))

-- ---- tests of one bit

min_bit : (p q : ℕ) → p < 2 → q < 2 → eqb (min p q) 1 ≡ (eqb p 1 && eqb q 1)
min_bit zero zero h l = refl
min_bit zero (suc zero) h l = refl
min_bit (suc zero) zero h l = refl
min_bit (suc zero) (suc zero) h l = refl
min_bit zero (suc (suc q)) h l = absurd (omega arith)
min_bit (suc zero) (suc (suc q)) h l = absurd (omega arith)
min_bit (suc (suc p)) q h l = absurd (omega arith)

max_bit : (p q : ℕ) → p < 2 → q < 2 → eqb (max p q) 1 ≡ (eqb p 1 || eqb q 1)
max_bit zero zero h l = refl
max_bit zero (suc zero) h l = refl
max_bit (suc zero) zero h l = refl
max_bit (suc zero) (suc zero) h l = refl
max_bit zero (suc (suc q)) h l = absurd (omega arith)
max_bit (suc zero) (suc (suc q)) h l = absurd (omega arith)
max_bit (suc (suc p)) q h l = absurd (omega arith)

minus_bit : (p q : ℕ) → p < 2 → q < 2 → eqb (p - q) 1 ≡ (eqb p 1 && not (eqb q 1))
minus_bit zero zero h l = refl
minus_bit zero (suc zero) h l = refl
minus_bit (suc zero) zero h l = refl
minus_bit (suc zero) (suc zero) h l = refl
minus_bit zero (suc (suc q)) h l = absurd (omega arith)
minus_bit (suc zero) (suc (suc q)) h l = absurd (omega arith)
minus_bit (suc (suc p)) q h l = absurd (omega arith)

not_bit : (p : ℕ) → p < 2 → eqb (1 - p) 1 ≡ not (eqb p 1)
not_bit zero h = refl
not_bit (suc zero) h = refl
not_bit (suc (suc p)) h = absurd (omega arith)

eq_bit : (p q : ℕ) → p < 2 → q < 2 → eqb p 1 ≡ eqb q 1 → p ≡ q
eq_bit zero zero h l e = refl
eq_bit zero (suc zero) h l e = clash refl (sym e)
eq_bit (suc zero) zero h l e = clash refl e
eq_bit (suc zero) (suc zero) h l e = refl
eq_bit zero (suc (suc q)) h l e = absurd (omega arith)
eq_bit (suc zero) (suc (suc q)) h l e = absurd (omega arith)
eq_bit (suc (suc p)) q h l e = absurd (omega arith)

count_bit : (p : ℕ) → p < 2 → p ≡ cond (eqb p 1) 1 0
count_bit zero h = refl
count_bit (suc zero) h = refl
count_bit (suc (suc p)) h = absurd (omega arith)

mod2 : (n : ℕ) → n % 2 < 2
mod2 n = mod-lt n (zero-lt-suc 1)

-- ---- the bits of each mask

pub has_and : (a b n : ℕ) → has (bit_and a b) n ≡ (has a n && has b n)
has_and a b zero =
    rw (has_lowest (bit_and a b), has_lowest a, has_lowest b, and_lowest a b) (min_bit (a % 2) (b % 2) (mod2 a) (mod2 b))
has_and a b (suc n) =
    rw (has_suc (bit_and a b) n, has_suc a n, has_suc b n, and_half a b) (has_and (a / 2) (b / 2) n)

pub has_or : (a b n : ℕ) → has (bit_or a b) n ≡ (has a n || has b n)
has_or a b zero =
    rw (has_lowest (bit_or a b), has_lowest a, has_lowest b, or_lowest a b) (max_bit (a % 2) (b % 2) (mod2 a) (mod2 b))
has_or a b (suc n) =
    rw (has_suc (bit_or a b) n, has_suc a n, has_suc b n, or_half a b) (has_or (a / 2) (b / 2) n)

pub has_minus : (a b n : ℕ) → has (minus a b) n ≡ (has a n && not (has b n))
has_minus a b zero =
    rw (has_lowest (minus a b), has_lowest a, has_lowest b, minus_lowest a b) (minus_bit (a % 2) (b % 2) (mod2 a) (mod2 b))
has_minus a b (suc n) =
    rw (has_suc (minus a b) n, has_suc a n, has_suc b n, minus_half a b) (has_minus (a / 2) (b / 2) n)

-- past its width a mask has no bit
pub has_past : (m w n : ℕ) → m < 2 ^ w → w ≤ n → has m n ≡ false
has_past m w n h l = ap (λ (x : ℕ). eqb (x % 2) 1) (div-eq_of_lt (lt_of_lt_of_le h (pow_mono l)))

pub has_zero : (n : ℕ) → has 0 n ≡ false
has_zero n = has_past 0 0 n (le_refl 1) zero-le

-- so a bit that is set is below the width
pub has_below : (m w n : ℕ) → m < 2 ^ w → has m n ≡ true → n < w
has_below m w n h p = ⊎_elim (λ l. l) (λ l. clash p (has_past m w n h l)) (lt_or_le n w)

pub has_single : (k n : ℕ) → has (2 ^ k) n ≡ eqb k n
has_single zero zero = refl
has_single zero (suc n) = has_past 1 1 (suc n) (le_refl 2) (suc-le-suc zero-le) ∙ sym (eqb-zero-suc n)
has_single (suc k) zero =
    let e : 2 ^ suc k % 2 ≡ 0 = omega arith in
    has_lowest (2 ^ suc k) ∙ ap (λ (x : ℕ). eqb x 1) e ∙ sym (eqb-suc-zero k)
has_single (suc k) (suc n) =
    let e : 2 ^ suc k / 2 ≡ 2 ^ k = omega arith in
    has_suc (2 ^ suc k) n ∙ ap (λ (x : ℕ). has x n) e ∙ has_single k n ∙ sym (eqb-suc-suc k n)

pub has_with : (m k n : ℕ) → has (with m k) n ≡ (has m n || eqb k n)
has_with m k n = has_or m (2 ^ k) n ∙ ap (λ (b : Bool). has m n || b) (has_single k n)

pub has_without : (m k n : ℕ) → has (without m k) n ≡ (has m n && not (eqb k n))
has_without m k n = has_minus m (2 ^ k) n ∙ ap (λ (b : Bool). has m n && not b) (has_single k n)

-- the complement in w bits
pub has_not : (w m n : ℕ) → m < 2 ^ w → n < w → has (2 ^ w - 1 - m) n ≡ not (has m n)
has_not zero m n h l = absurd (not-suc-le-zero l)
has_not (suc w) m zero h l =
    let e : (2 ^ suc w - 1 - m) % 2 ≡ 1 - m % 2 = omega arith in
    rw (has_lowest (2 ^ suc w - 1 - m), has_lowest m, e) (not_bit (m % 2) (mod2 m))
has_not (suc w) m (suc n) h l =
    let e : (2 ^ suc w - 1 - m) / 2 ≡ 2 ^ w - 1 - m / 2 = omega arith in
    rw (has_suc (2 ^ suc w - 1 - m) n, has_suc m n, e) (has_not w (m / 2) n (half_lt w h) (le_of_suc-le-suc l))

-- all of the w lowest bits
pub has_full : (w n : ℕ) → n < w → has (2 ^ w - 1) n ≡ true
has_full w n l =
    let e : 2 ^ w - 1 - 0 ≡ 2 ^ w - 1 = omega arith in
    ap (λ (x : ℕ). has x n) (sym e) ∙ has_not w 0 n (pow_pos w) l ∙ not_of_false (has_zero n)

-- ---- bounds

pub minus_lt : (w a b : ℕ) → a < 2 ^ w → minus a b < 2 ^ w
minus_lt w a b h = omega arith

pub single_lt : (w n : ℕ) → n < w → 2 ^ n < 2 ^ w
single_lt w n l = pow-lt l

pub with_lt : (w m n : ℕ) → m < 2 ^ w → n < w → with m n < 2 ^ w
with_lt w m n h l = or_lt w m (2 ^ n) h (pow-lt l)

pub without_lt : (w m n : ℕ) → m < 2 ^ w → without m n < 2 ^ w
without_lt w m n h = minus_lt w m (2 ^ n) h

-- `1 << n` in w bits
pub shl-single : (w n : ℕ) → n < w → 1 * 2 ^ n % 2 ^ w ≡ 2 ^ n
shl-single w n l = shl_exact 1 n w (le_refl 2) (omega arith) ∙ one-mul (2 ^ n)

-- ---- masks with the same bits are equal

pub ext : (w a b : ℕ) → a < 2 ^ w → b < 2 ^ w → ((n : ℕ) → n < w → has a n ≡ has b n) → a ≡ b
ext zero a b h l e = lt-one h ∙ sym (lt-one l)
ext (suc w) a b h l e =
    let low : a % 2 ≡ b % 2 =
    eq_bit (a % 2) (b % 2) (mod2 a) (mod2 b) (sym (has_lowest a) ∙ e 0 (zero-lt-suc w) ∙ has_lowest b) in
    let high : a / 2 ≡ b / 2 =
    ext w (a / 2) (b / 2) (half_lt w h) (half_lt w l) (λ n k. sym (has_suc a n) ∙ e (suc n) (suc-le-suc k) ∙ has_suc b n) in
    omega arith

-- a mask has a width
pub width : (m : ℕ) → m < 2 ^ m
width zero = le_refl 1
width (suc m) = omega (arith, width m)

pub ext_all : (a b : ℕ) → ((n : ℕ) → has a n ≡ has b n) → a ≡ b
ext_all a b e =
    ext (a + b) a b (lt_of_lt_of_le (width a) (pow_mono (omega arith))) (lt_of_lt_of_le (width b) (pow_mono (omega arith))) (λ n l. e n)

-- `a & !b` in w bits
pub and_not : (w a b : ℕ) → a < 2 ^ w → b < 2 ^ w → bit_and a (2 ^ w - 1 - b) ≡ minus a b
and_not w a b h l =
    ext w (bit_and a (2 ^ w - 1 - b)) (minus a b) (omega (arith, and_le_l a (2 ^ w - 1 - b))) (minus_lt w a b h)
    (λ n k. has_and a (2 ^ w - 1 - b) n ∙ ap (λ (x : Bool). has a n && x) (has_not w b n l k) ∙ sym (has_minus a b n))

-- a mask with no bit is 0, and any other has one
pub some_bit : (w m : ℕ) → m < 2 ^ w → (m ≡ 0 → ⊥) → (n : ℕ) × (n < w) × (has m n ≡ true)
some_bit w m h z =
    ⊎_elim (λ e. any_witness w (has m) e)
    (λ e. absurd (z (ext w m 0 h (pow_pos w) (λ n l. any_fails w (has m) e n l ∙ sym (has_zero n)))))
    (either (any_below w (has m)))

pub no_bit : (w m : ℕ) → m < 2 ^ w → ((n : ℕ) → n < w → has m n ≡ false) → m ≡ 0
no_bit w m h e = ext w m 0 h (pow_pos w) (λ n l. e n l ∙ sym (has_zero n))

-- ---- subset

pub subset_has : (a b : ℕ) → subset a b ≡ true → (n : ℕ) → has a n ≡ true → has b n ≡ true
subset_has a b s n p =
    and_right (has a n) (has b n) (sym (has_and a b n) ∙ ap (λ (x : ℕ). has x n) (eqb-true (bit_and a b) a s) ∙ p)

pub subset_of : (w a b : ℕ) → a < 2 ^ w → ((n : ℕ) → n < w → has a n ≡ true → has b n ≡ true) → subset a b ≡ true
subset_of w a b h f =
    eq-eqb (bit_and a b) a
    (ext w (bit_and a b) a (omega (arith, and_le_l a b)) h (λ n l. has_and a b n ∙ implied (has a n) (has b n) (f n l)))
  where
    implied : (p q : Bool) → (p ≡ true → q ≡ true) → (p && q) ≡ p
    implied true q g = g refl
    implied false q g = refl

pub subset_le : (a b : ℕ) → subset a b ≡ true → a ≤ b
subset_le a b s = let e : bit_and a b ≡ a = eqb-true (bit_and a b) a s in omega (arith, and_le_r a b)

-- a mask with a bit is not empty
pub not_empty : (m n : ℕ) → has m n ≡ true → eqb 0 m ≡ false
not_empty m n p = ne_eqb 0 m (λ e. clash (subst (λ (k : ℕ). has k n ≡ true) (sym e) p) (has_zero n))

-- ---- disjoint

pub disjoint_has : (a b : ℕ) → disjoint a b ≡ true → (n : ℕ) → has a n ≡ true → has b n ≡ false
disjoint_has a b d n p =
    no_true (has b n) (λ q.
    clash (and_both p q) (sym (has_and a b n) ∙ ap (λ (x : ℕ). has x n) (eqb-true (bit_and a b) 0 d) ∙ has_zero n))

pub disjoint_of : (w a b : ℕ) → a < 2 ^ w → ((n : ℕ) → n < w → has a n ≡ true → has b n ≡ false) → disjoint a b ≡ true
disjoint_of w a b h f =
    eq-eqb (bit_and a b) 0
    (no_bit w (bit_and a b) (omega (arith, and_le_l a b)) (λ n l. has_and a b n ∙ apart (has a n) (has b n) (f n l)))
  where
    apart : (p q : Bool) → (p ≡ true → q ≡ false) → (p && q) ≡ false
    apart true q g = g refl
    apart false q g = refl

-- ---- within

pub within_lt : (n m : ℕ) → within n m ≡ true → m < 2 ^ n
within_lt n m e = ltb-true m (2 ^ n) e

pub lt_within : (n m : ℕ) → m < 2 ^ n → within n m ≡ true
lt_within n m h = lt-ltb m (2 ^ n) h

pub within_has : (n m : ℕ) → within n m ≡ true → (k : ℕ) → has m k ≡ true → k < n
within_has n m e k p = has_below m n k (within_lt n m e) p

-- ---- count

pub count_empty : count 0 ≡ 0
unfolding ones
count_empty = refl

-- the bits of m are those below its width
pub count-below : (w m : ℕ) → m < 2 ^ w → count m ≡ count_below w (has m)
unfolding count_below
count-below zero m h = ap ones (lt-one h) ∙ count_empty
count-below (suc w) m h =
    ones_step m
    ∙ ap₂ (λ (x y : ℕ). x + y) (count_bit (m % 2) (mod2 m) ∙ ap (λ (b : Bool). cond b 1 0) (sym (has_lowest m)))
    (count-below w (m / 2) (half_lt w h) ∙ count_cong w (has (m / 2)) (λ k. has m (suc k)) (λ k l. sym (has_suc m k)))
    ∙ sym (count_front w (has m))

pub count-within : (w m : ℕ) → m < 2 ^ w → count m ≤ w
count-within w m h = ones-le w m h

-- what a has in common with b, and what is left
pub count_and_minus : (a b : ℕ) → count (bit_and a b) + count (minus a b) ≡ count a
count_and_minus a b =
    ap₂ (λ (x y : ℕ). x + y)
    (count-below a (bit_and a b) (omega (arith, and_le_l a b, width a))
    ∙ count_cong a (has (bit_and a b)) (λ n. has a n && has b n) (λ n k. has_and a b n))
    (count-below a (minus a b) (minus_lt a a b (width a))
    ∙ count_cong a (has (minus a b)) (λ n. has a n && not (has b n)) (λ n k. has_minus a b n))
    ∙ count_split a (has a) (has b)
    ∙ sym (count-below a a (width a))

-- ---- quorums

-- each of a and b has more than half of v: some bit is in all three
pub quorums_meet : (w a b v : ℕ) → v < 2 ^ w
    → count v < 2 * count (bit_and a v) → count v < 2 * count (bit_and b v)
    → (n : ℕ) × (n < w) × (has a n ≡ true) × (has b n ≡ true) × (has v n ≡ true)
quorums_meet w a b v h p q =
    let both : (x : ℕ) → count (bit_and x v) ≡ count_below w (λ n. has x n && has v n) =
    λ x. count-below w (bit_and x v) (omega (arith, and_le_r x v))
    ∙ count_cong w (has (bit_and x v)) (λ n. has x n && has v n) (λ n l. has_and x v n) in
    let c = count_some w (λ n. has a n && has b n && has v n)
    (omega (arith, both a, both b, count-below w v h, count_meet w (has a) (has b) (has v))) in
    let ab : (has a c.0 && has b c.0) ≡ true = and_left (has a c.0 && has b c.0) (has v c.0) c.2 in (
      c.0,
      c.1,
      and_left (has a c.0) (has b c.0) ab,
      and_right (has a c.0) (has b c.0) ab,
      and_right (has a c.0 && has b c.0) (has v c.0) c.2,
    )
