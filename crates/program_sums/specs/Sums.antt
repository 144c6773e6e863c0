-- Laws of the sum of numbers: of two lists one after the other, a turn of a loop that adds up, and that the sum of bytes is bounded.
use Rattle.std.specs.Prelude.{ℕ, zero, suc, ◌+◌, ◌*◌, ◌≤◌, ◌<◌, List, [], ◌∷◌, ◌++◌, ◌≡◌, length, take, get_or}
use Rattle.std.proofs.Common.{refl, ap, ◌∙◌, add-one, arith, take-suc}
use Rattle.program_sums.specs.Definitions.{sum_of}

-- ---- laws

pub sum_append : (a b : List ℕ) → sum_of (a ++ b) ≡ sum_of a + sum_of b
unfolding sum_of
sum_append [] b = omega arith
sum_append (m ∷ a) b = omega (arith, sum_append a b)

pub sum_none : sum_of [] ≡ 0
unfolding sum_of
sum_none = refl

pub sum_one : (m : ℕ) → sum_of (m ∷ []) ≡ m
unfolding sum_of
sum_one m = omega arith

-- a loop that adds up: a turn
pub sum_turn : (l : List ℕ) (i s v : ℕ) → i < length l → s ≡ sum_of (take i l) → v ≡ get_or l i 0 → s + v ≡ sum_of (take (i + 1) l)
sum_turn l i s v h e d =
    let t : sum_of (take (i + 1) l) ≡ sum_of (take i l ++ (get_or l i 0 ∷ [])) = ap (λ (n : ℕ). sum_of (take n l)) (add-one i) ∙ ap sum_of (take-suc l i 0 h) in
    omega (arith, sum_append (take i l) (get_or l i 0 ∷ []), sum_one (get_or l i 0))

-- each is below 256
pub sum_bound : (l : List ℕ) (n : ℕ) → ((k : ℕ) → get_or l k 0 < 256) → sum_of (take n l) ≤ 255 * n
unfolding sum_of
sum_bound l zero h = omega arith
sum_bound [] (suc n) h = omega arith
sum_bound (m ∷ l) (suc n) h = omega (arith, h 0, sum_bound l n (λ k. h (suc k)))
