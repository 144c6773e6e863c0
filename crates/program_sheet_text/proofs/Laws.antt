-- The sheet goes through all masks, ascending, each one time; the code's lines are its lines; the five counts add up to the number of masks,
-- and each is the number of the lines that have its number.
use Rattle.std.specs.Prelude.{ℕ, zero, suc, ◌+◌, ◌*◌, ◌^◌, ◌<◌, ◌≤◌, ◌≡◌, refl, eqb, length, get_or}
use mathlib.Core.List.{List, [], ◌∷◌, ◌++◌, flatten, append_assoc, append-nil}
use Rattle.std.proofs.Common.{sym, ap, ◌∙◌, arith, length-append, pow_mono, eqb-true, eq-eqb}
use Rattle.base_laws.specs.Definitions.{count_below, tabulate}
use Rattle.base_laws.specs.Below.{count_cong, count_single}
use Rattle.base_laws.specs.Bools.{same}
use Rattle.base_laws.specs.Tables.{tabulate_cong, get_d_tabulate}
use Rattle.program_text.specs.Definitions.{decimal, line, space}
use Rattle.program_text.specs.Text.{decimal_length, field_length, line_length}
use Rattle.program_sheet_text.specs.Definitions.{sheet, mask_line, row_line, rows_with, counts_line, sheet_text}
use Rattle.program_sheet_text.specs.Sheets.{lines_below}
use Rattle.program_sheet_text.specs.Laws.{sheet_rows}

-- what stands at a place of the sheet of n nodes is that of the mask with its number
pub sheet-at {ℓ} : {A : Type ℓ} (f : ℕ → A) (n i : ℕ) (d : A) → i < 2 ^ n → get_or (sheet f n 0) i d ≡ f i
sheet-at {A = A} f n i d l =
    ap (λ (t : List A). get_or t i d) (sheet_rows f n 0) ∙ get_d_tabulate (2 ^ n) (λ m. f (0 + m)) i d l ∙ ap f (let z : 0 + i ≡ i = omega arith in z)

-- one time
pub mask_once : (n m : ℕ) → m < 2 ^ n → count_below (2 ^ n) (λ i. eqb (get_or (sheet (λ h. h) n 0) i 0) m) ≡ 1
mask_once n m l =
    count_cong (2 ^ n) (λ i. eqb (get_or (sheet (λ h. h) n 0) i 0) m) (eqb m)
    (λ i k. ap (λ (x : ℕ). eqb x m) (sheet-at (λ h. h) n i 0 k)
    ∙ same (eqb i m) (eqb m i) (λ e. eq-eqb m i (sym (eqb-true i m e))) (λ e. eq-eqb i m (sym (eqb-true m i e))))
    ∙ count_single (2 ^ n) m l

-- ---- the counts

-- each is the number of the sheet's rows that have its number
pub counts_rows : (l : List ℕ) (n k : ℕ) → rows_with l (2 ^ n) k ≡ count_below (2 ^ n) (λ i. eqb (get_or (sheet (λ h. get_or l h 0) n 0) i 0) k)
unfolding rows_with
counts_rows l n k =
    count_cong (2 ^ n) (λ h. eqb (get_or l h 0) k) (λ i. eqb (get_or (sheet (λ h. get_or l h 0) n 0) i 0) k)
    (λ i m. ap (λ (x : ℕ). eqb x k) (sym (sheet-at (λ h. get_or l h 0) n i 0 m)))

flatten_last : (xs : List (List ℕ)) (y : List ℕ) → flatten (xs ++ (y ∷ [])) ≡ flatten xs ++ y
unfolding flatten
flatten_last [] y = append-nil y
flatten_last (x ∷ xs) y = ap (λ (t : List ℕ). x ++ t) (flatten_last xs y) ∙ sym (append_assoc x (flatten xs) y)

lines_table : (l : List ℕ) (m : ℕ) → lines_below l m ≡ flatten (tabulate m (row_line l))
unfolding lines_below tabulate flatten
lines_table l zero = refl
lines_table l (suc m) = ap (λ (t : List ℕ). t ++ row_line l m) (lines_table l m) ∙ sym (flatten_last (tabulate m (row_line l)) (row_line l m))

pub lines_sheet : (l : List ℕ) (n : ℕ) → lines_below l (2 ^ n) ≡ flatten (sheet (row_line l) n 0)
lines_sheet l n =
    lines_table l (2 ^ n)
    ∙ ap flatten
    (tabulate_cong (2 ^ n) (row_line l) (λ m. row_line l (0 + m)) (λ m k. ap (row_line l) (let z : m ≡ 0 + m = omega arith in z)) ∙ sym (sheet_rows (row_line l) n 0))

-- by the code's count of masks
pub text_lines : (l : List ℕ) (n m : ℕ) → m ≡ 2 ^ n → lines_below l m ++ counts_line l m ≡ sheet_text l n
unfolding sheet_text
text_lines l n m e = ap (λ (k : ℕ). lines_below l k ++ counts_line l k) e ∙ ap (λ (t : List ℕ). t ++ counts_line l (2 ^ n)) (lines_sheet l n)

-- ---- 32,768 bytes are enough

row_length : (l : List ℕ) (h : ℕ) → length (row_line l h) ≤ 22
unfolding mask_line
row_length l h = omega (arith, length-append (decimal h) (line space (get_or l h 0)), decimal_length h, line_length space (get_or l h 0))

lines_length : (l : List ℕ) (m : ℕ) → length (lines_below l m) ≤ 22 * m
unfolding lines_below
lines_length l zero = omega arith
lines_length l (suc m) = omega (arith, length-append (lines_below l m) (row_line l m), lines_length l m, row_length l m)

counts_length : (l : List ℕ) (m : ℕ) → length (counts_line l m) ≤ 55
unfolding counts_line
counts_length l m =
    simp length-append
    (omega (arith, decimal_length (rows_with l m 0), field_length space (rows_with l m 2), field_length space (rows_with l m 3), field_length space (rows_with l m 4), field_length space (rows_with l m 5)))

pub sheet_length : (l : List ℕ) (n : ℕ) → n ≤ 10 → length (sheet_text l n) ≤ 32768
sheet_length l n few =
    let top : 2 ^ n ≤ 1024 = pow_mono {j = 10} few in
    let e : length (sheet_text l n) ≡ length (lines_below l (2 ^ n) ++ counts_line l (2 ^ n)) = ap length (sym (text_lines l n (2 ^ n) refl)) in
    omega (arith, length-append (lines_below l (2 ^ n)) (counts_line l (2 ^ n)), lines_length l (2 ^ n), counts_length l (2 ^ n))
