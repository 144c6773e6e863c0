-- What contracts cite, each definition after those that it builds on. Laws stand in the files beside this one.
use Rattle.std.specs.Prelude.{Bool, true, false, cond, ◌&&◌, ◌||◌, ℕ, zero, suc, ◌+◌, ◌-◌, ◌/◌, ◌%◌, ◌^◌, eqb, ltb, leb, List, [], ◌∷◌, ◌++◌, length, get_or, take, drop}
use Rattle.std.specs.Int.Bits.{bit_and, bit_or}
use Rattle.std.specs.Int.Count.{ones}

-- ---- All, some, the lowest, and how many of the numbers below a bound.

-- f holds of every number below n
unfoldable pub all_below : ℕ → (ℕ → Bool) → Bool
all_below zero f = true
all_below (suc n) f = all_below n f && f n

-- f holds of some number below n
unfoldable pub any_below : ℕ → (ℕ → Bool) → Bool
any_below zero f = false
any_below (suc n) f = any_below n f || f n

-- the lowest number below n of which f holds, or n where there is none
unfoldable pub lowest : ℕ → (ℕ → Bool) → ℕ
lowest zero f = zero
lowest (suc n) f = cond (any_below n f) (lowest n f) (cond (f n) n (suc n))

-- how many numbers below n f holds of
unfoldable pub count_below : ℕ → (ℕ → Bool) → ℕ
count_below zero f = 0
count_below (suc n) f = count_below n f + cond (f n) 1 0

-- ---- A mask is a number: bit n stands for node n.

-- bit n of the mask m is set
abbrev pub has : ℕ → ℕ → Bool
has m n = eqb (m / 2 ^ n % 2) 1

-- how many bits of m are set
abbrev pub count : ℕ → ℕ
count m = ones m

-- no bit from n up is set
abbrev pub within : ℕ → ℕ → Bool
within n m = ltb m (2 ^ n)

-- every bit of a is a bit of b
abbrev pub subset : ℕ → ℕ → Bool
subset a b = eqb (bit_and a b) a

-- no bit is in both
abbrev pub disjoint : ℕ → ℕ → Bool
disjoint a b = eqb (bit_and a b) 0

-- the bits of a that are not bits of b
abbrev pub minus : ℕ → ℕ → ℕ
minus a b = a - bit_and a b

-- m with bit n set
abbrev pub with : ℕ → ℕ → ℕ
with m n = bit_or m (2 ^ n)

-- m with bit n cleared
abbrev pub without : ℕ → ℕ → ℕ
without m n = minus m (2 ^ n)

-- ---- Lists made element by element.

-- f 0, f 1, .. f (n - 1)
unfoldable pub tabulate {ℓ} : {A : Type ℓ} → ℕ → (ℕ → A) → List A
tabulate zero f = []
tabulate (suc n) f = tabulate n f ++ (f n ∷ [])

-- the first n elements of ws, with zeros for those that it lacks
unfoldable pub padded : ℕ → List ℕ → List ℕ
padded n ws = tabulate n (λ k. get_or ws k 0)

-- the elements from a up to e
abbrev pub part {ℓ} : {A : Type ℓ} → ℕ → ℕ → List A → List A
part a e l = take (e - a) (drop a l)

-- l with ys in the place of its elements from a on
unfoldable pub replaced {ℓ} : {A : Type ℓ} → ℕ → List A → List A → List A
replaced a ys l = take a l ++ (ys ++ drop (a + length ys) l)

-- ---- The order of positions: a position is a view's number and a place within that view, both numbers.
-- Positions are ordered by the view first, and within a view by the place.

-- position v k is position u j, or comes before it
unfoldable pub pair_not_after : ℕ → ℕ → ℕ → ℕ → Bool
pair_not_after v k u j = ltb v u || (eqb v u && leb k j)
