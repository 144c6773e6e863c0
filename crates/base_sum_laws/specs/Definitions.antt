-- What contracts cite, each definition after those that it builds on. Laws stand in the files beside this one.
use Rattle.std.specs.Prelude.{ℕ, zero, suc, ◌+◌, Bool, true, false, ◌&&◌, cond, ◌||◌, eqb, ltb, List, [], ◌∷◌}
use Rattle.base_laws.specs.Definitions.{lowest, count_below, with}

-- ---- The i-th of the numbers below a bound of which a test holds.

-- k is the i-th number of which f holds
abbrev pub is_nth : (ℕ → Bool) → ℕ → ℕ → Bool
is_nth f i k = f k && eqb (count_below k f) i

-- the i-th number below n of which f holds, counted from 0, or n where there are fewer
unfoldable pub nth : ℕ → (ℕ → Bool) → ℕ → ℕ
nth n f i = lowest n (is_nth f i)

-- ---- The mask of the numbers below a bound that pass a test.

-- the mask of the numbers below n of which f holds
unfoldable pub mask_below : ℕ → (ℕ → Bool) → ℕ
mask_below zero f = 0
mask_below (suc n) f = cond (f n) (with (mask_below n f) n) (mask_below n f)

-- ---- The sum of f over the numbers below n.

-- f 0 + f 1 + .. + f (n - 1)
unfoldable pub sum_below : ℕ → (ℕ → ℕ) → ℕ
sum_below zero f = 0
sum_below (suc n) f = sum_below n f + f n

-- ---- Ascending lists of numbers and their dictionary order.

-- the numbers from a to a + k - 1 of which f holds, ascending
unfoldable pub list_from : ℕ → ℕ → (ℕ → Bool) → List ℕ
list_from a zero f = []
list_from a (suc k) f = cond (f a) (a ∷ list_from (suc a) k f) (list_from (suc a) k f)

-- dictionary order of lists: a proper prefix is the smaller
unfoldable pub list_before : List ℕ → List ℕ → Bool
list_before [] [] = false
list_before [] (y ∷ ys) = true
list_before (x ∷ xs) [] = false
list_before (x ∷ xs) (y ∷ ys) = ltb x y || (eqb x y && list_before xs ys)
