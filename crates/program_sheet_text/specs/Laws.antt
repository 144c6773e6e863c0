-- The sheet goes through all masks, ascending, each one time; the code's lines are its lines; the five counts add up to the number of masks,
-- and each is the number of the lines that have its number.
use Rattle.std.specs.Prelude.{ℕ, zero, suc, ◌+◌, ◌^◌, ◌<◌, ◌≤◌, cond, ◌⊎◌, ◌≡◌, refl, eqb, get_or}
use mathlib.Core.List.{List, [], ◌∷◌, ◌++◌}
use Rattle.std.proofs.Common.{inl, inr, ⊎_elim, sym, ap, ap₂, ◌∙◌, add-one, arith, pow-suc, pow_mono}
use Rattle.base_laws.specs.Definitions.{count_below, tabulate}
use Rattle.base_laws.specs.Below.{count_step, count_le, count_zero}
use Rattle.base_laws.specs.Bools.{eq_or_ne}
use Rattle.base_laws.specs.Tables.{tabulate_add, tabulate_cong}
use Rattle.program_sheet_text.specs.Definitions.{sheet, row_line, rows_with}
use Rattle.program_sheet_text.specs.Sheets.{lines_below}

-- ---- every mask

-- ascending
pub sheet_rows {ℓ} : {A : Type ℓ} (f : ℕ → A) (k up : ℕ) → sheet f k up ≡ tabulate (2 ^ k) (λ m. f (up + m))
unfolding sheet tabulate
sheet_rows f zero up = ap (λ (m : ℕ). f m ∷ []) (omega arith)
sheet_rows f (suc k) up =
    let half : 2 ^ suc k ≡ 2 ^ k + 2 ^ k = omega (arith, pow-suc 2 k) in
    ap₂ ◌++◌ (sheet_rows f k up) (sheet_rows f k (up + 2 ^ k) ∙ tabulate_cong (2 ^ k) (λ m. f (up + 2 ^ k + m)) (λ m. f (up + (2 ^ k + m))) (λ m l. ap f (omega arith)))
    ∙ sym (tabulate_add (2 ^ k) (2 ^ k) (λ m. f (up + m)))
    ∙ ap (λ (n : ℕ). tabulate n (λ m. f (up + m))) (sym half)

-- ---- the counts

-- a number is one of five
one_of_five : (k : ℕ) → (k ≡ 0) ⊎ ((2 ≤ k) × (k ≤ 5))
    → cond (eqb k 0) 1 0 + cond (eqb k 2) 1 0 + cond (eqb k 3) 1 0 + cond (eqb k 4) 1 0 + cond (eqb k 5) 1 0 ≡ 1
one_of_five k (inl e) = rw e
one_of_five k (inr b) =
    ⊎_elim (λ e. rw e) (λ a. ⊎_elim (λ e. rw e) (λ c. ⊎_elim (λ e. rw e) (λ d. last a c d) (eq_or_ne k 4)) (eq_or_ne k 3)) (eq_or_ne k 2)
  where
    last : (k ≡ 2 → ⊥) → (k ≡ 3 → ⊥) → (k ≡ 4 → ⊥) → cond (eqb k 0) 1 0 + cond (eqb k 2) 1 0 + cond (eqb k 3) 1 0 + cond (eqb k 4) 1 0 + cond (eqb k 5) 1 0 ≡ 1
    last a c d = let e : k ≡ 5 = five b.0 b.1 a c d in rw e
      where
        five : 2 ≤ k → k ≤ 5 → (k ≡ 2 → ⊥) → (k ≡ 3 → ⊥) → (k ≡ 4 → ⊥) → k ≡ 5
        five p q a c d = omega (arith, a, c, d)

five_more : (a b c d e p q r s t m : ℕ) → a + b + c + d + e ≡ m → p + q + r + s + t ≡ 1 → a + p + (b + q) + (c + r) + (d + s) + (e + t) ≡ suc m
five_more a b c d e p q r s t m x y = omega arith

-- the five add up to the number of rows
pub counts_add_up : (l : List ℕ) (m : ℕ) → ((h : ℕ) → h < m → (get_or l h 0 ≡ 0) ⊎ ((2 ≤ get_or l h 0) × (get_or l h 0 ≤ 5)))
    → rows_with l m 0 + rows_with l m 2 + rows_with l m 3 + rows_with l m 4 + rows_with l m 5 ≡ m
unfolding rows_with count_below
counts_add_up l zero h = refl
counts_add_up l (suc m) h =
    five_more (rows_with l m 0) (rows_with l m 2) (rows_with l m 3) (rows_with l m 4) (rows_with l m 5) _ _ _ _ _ m
    (counts_add_up l m (λ k i. h k (omega arith))) (one_of_five (get_or l m 0) (h m (omega arith)))

-- a row more, for the loop that counts
pub rows_turn : (l : List ℕ) (m k i found v : ℕ) → found ≡ rows_with l m k → i ≡ m → v ≡ cond (eqb (get_or l i 0) k) 1 0 → found + v ≡ rows_with l (m + 1) k
unfolding rows_with
rows_turn l m k i found v e f g =
    ap₂ ◌+◌ e (g ∙ ap (λ (j : ℕ). cond {A = ℕ} (eqb (get_or l j 0) k) 1 0) f) ∙ sym (count_step m (λ h. eqb (get_or l h 0) k))

pub rows_none : (l : List ℕ) (k : ℕ) → 0 ≡ rows_with l 0 k
unfolding rows_with
rows_none l k = sym (count_zero (λ h. eqb (get_or l h 0) k))

pub rows_le : (l : List ℕ) (m k : ℕ) → rows_with l m k ≤ m
unfolding rows_with
rows_le l m k = count_le m (λ h. eqb (get_or l h 0) k)

-- so many masks
pub masks_few : (n m : ℕ) → m ≡ 2 ^ n → n ≤ 10 → m ≤ 1024
masks_few n m e few = let top : 2 ^ n ≤ 1024 = pow_mono {j = 10} few in omega arith

-- ---- the lines

pub lines_step : (l : List ℕ) (m : ℕ) → lines_below l (m + 1) ≡ lines_below l m ++ row_line l m
unfolding lines_below
lines_step l m = ap (lines_below l) (add-one m)
