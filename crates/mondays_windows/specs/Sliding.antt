-- Laws of windows: one move more, the next window from the one before, windows of moves that came in two parts, and how long the lines are.
use Rattle.std.specs.Prelude.{ℕ, zero, suc, ◌+◌, ◌*◌, ◌-◌, ◌≤◌, ◌<◌, max, ◌≡◌}
use mathlib.Core.List.{List, [], ◌∷◌, ◌++◌, append_assoc, append-nil}
use Rattle.std.proofs.Math.Path.{refl, sym, ap}
use Rattle.std.proofs.Common.{ap₂, ◌∙◌, ⊎_elim, add-one, arith, length-append, length-drop, take_all, take-take, drop-drop}
use Rattle.std.proofs.Math.ListN.{length, take, drop, get_or}
use Rattle.std.proofs.Math.Seq.{take-suc}
use Rattle.std.proofs.lemmas.List.{take-append-le, drop-append-le}
use Rattle.std.specs.Ordering.{nat_cmp, ord_max}
use Rattle.std.specs.Cmp.{nat_cmp_is}
use Rattle.std.proofs.lemmas.Grind.{common_steps}
use Rattle.base_laws.specs.Bools.{lt_or_le}
use Rattle.program_text.specs.Definitions.{decimal, line}
use Rattle.program_text.specs.Text.{decimal_length, line_length}
use Rattle.program_sums.specs.Definitions.{sum_of}
use Rattle.program_sums.specs.Sums.{sum_append, sum_one}
use Rattle.mondays_windows.specs.declared.Window.{Window}
use Rattle.mondays_windows.specs.Definitions.{greatest_of, window_of, window_line, window_lines, all_windows, last_moves}

-- ---- the greatest

pub greatest_append : (a b : List ℕ) → greatest_of (a ++ b) ≡ max (greatest_of a) (greatest_of b)
unfolding greatest_of
greatest_append [] b = omega arith
greatest_append (m ∷ a) b = omega (arith, greatest_append a b)

greatest_one : (m : ℕ) → greatest_of (m ∷ []) ≡ m
unfolding greatest_of
greatest_one m = omega arith

max_is : (a b : ℕ) → ord_max nat_cmp a b ≡ max a b
max_is a b = grind (arith, common_steps, nat_cmp_is)

-- a loop that takes the greatest: a turn
pub greatest_turn : (l : List ℕ) (i g v : ℕ) → i < length l → g ≡ greatest_of (take i l) → v ≡ ord_max nat_cmp g (get_or l i 0)
    → v ≡ greatest_of (take (i + 1) l)
greatest_turn l i g v h e d =
    let m : ord_max nat_cmp g (get_or l i 0) ≡ max g (get_or l i 0) = max_is g (get_or l i 0) in
    let t : greatest_of (take (i + 1) l) ≡ greatest_of (take i l ++ (get_or l i 0 ∷ [])) =
    ap (λ (n : ℕ). greatest_of (take n l)) (add-one i) ∙ ap greatest_of (take-suc l i 0 h) in
    omega (arith, greatest_append (take i l) (get_or l i 0 ∷ []), greatest_one (get_or l i 0))

-- ---- the next window: 65 moves are the first, the 63 that stay, and the last

module _ (l : List ℕ) (h : length l ≡ 65) where
  stay : List ℕ
  stay = take 63 (drop 1 l)

  firsts : take 64 l ≡ get_or l 0 0 ∷ stay
  unfolding stay
  firsts = first_of l (omega arith)
    where
      first_of : (m : List ℕ) → 0 < length m → take 64 m ≡ get_or m 0 0 ∷ take 63 (drop 1 m)
      first_of [] k = absurd (omega arith)
      first_of (m ∷ ms) k = refl

  lasts : drop 1 l ≡ stay ++ (get_or l 64 0 ∷ [])
  unfolding stay
  lasts = last_of l h
    where
      last_of : (m : List ℕ) → length m ≡ 65 → drop 1 m ≡ take 63 (drop 1 m) ++ (get_or m 64 0 ∷ [])
      last_of [] k = absurd (omega arith)
      last_of (m ∷ ms) k = sym (take_all 64 ms (omega arith)) ∙ take-suc ms 63 0 (omega arith)

  sum_first : sum_of (take 64 l) ≡ get_or l 0 0 + sum_of stay
  unfolding sum_of
  sum_first = ap sum_of firsts

  sum_last : sum_of (drop 1 l) ≡ sum_of stay + get_or l 64 0
  sum_last = ap sum_of lasts ∙ sum_append stay (get_or l 64 0 ∷ []) ∙ ap (λ (x : ℕ). sum_of stay + x) (sum_one (get_or l 64 0))

  greatest_first : greatest_of (take 64 l) ≡ max (get_or l 0 0) (greatest_of stay)
  unfolding greatest_of
  greatest_first = ap greatest_of firsts

  greatest_last : greatest_of (drop 1 l) ≡ max (greatest_of stay) (get_or l 64 0)
  greatest_last =
      ap greatest_of lasts ∙ greatest_append stay (get_or l 64 0 ∷ []) ∙ ap (λ (x : ℕ). max (greatest_of stay) x) (greatest_one (get_or l 64 0))

  pub old_within : (s : ℕ) → s ≡ sum_of (take 64 l) → get_or l 0 0 ≤ s
  old_within s e = omega (arith, sum_first)

  pub sum_slid : (s : ℕ) → s ≡ sum_of (take 64 l) → s + get_or l 64 0 - get_or l 0 0 ≡ sum_of (drop 1 l)
  sum_slid s e = omega (arith, sum_first, sum_last)

  -- the new move is as great as any before it
  pub greatest_new : (g : ℕ) → g ≡ greatest_of (take 64 l) → g ≤ get_or l 64 0 → get_or l 64 0 ≡ greatest_of (drop 1 l)
  greatest_new g e k = omega (arith, greatest_first, greatest_last)

  -- the greatest stays
  pub greatest_stays : (g : ℕ) → g ≡ greatest_of (take 64 l) → get_or l 64 0 < g → get_or l 0 0 < g → g ≡ greatest_of (drop 1 l)
  greatest_stays g e k m = omega (arith, greatest_first, greatest_last)

  pub slid : (w : Window) → w ≡ window_of (take 64 l) → (new old g : ℕ) → new ≡ get_or l 64 0 → old ≡ get_or l 0 0 → g ≡ greatest_of (drop 1 l)
      → record { sum = w.sum + new - old; greatest = g } ≡ window_of (drop 1 l)
  slid w e new old g n o d =
      let s : w.sum + new - old ≡ sum_of (drop 1 l) =
      ap₂ (λ (x y : ℕ). w.sum + x - y) n o ∙ sum_slid w.sum (ap (λ (v : Window). v.sum) e) in
      ap₂ (λ (x y : ℕ). record { sum = x; greatest = y }) s d

-- ---- lines one after another

pub lines_none : (ms : List ℕ) → window_lines ms 0 ≡ []
unfolding window_lines
lines_none ms = refl

pub lines_step : (ms : List ℕ) (i : ℕ) → window_lines ms (i + 1) ≡ window_lines ms i ++ window_line (window_of (take 64 (drop i ms)))
unfolding window_lines
lines_step ms i = ap (window_lines ms) (add-one i)

-- the windows of fewer than 64 moves, and of more
pub windows_none : (ms : List ℕ) → length ms < 64 → all_windows ms ≡ []
unfolding all_windows
windows_none ms h = let e : length ms - 63 ≡ 0 = omega arith in ap (window_lines ms) e ∙ lines_none ms

pub windows_all : (ms : List ℕ) (i : ℕ) → i + 64 ≡ length ms → all_windows ms ≡ window_lines ms (i + 1)
unfolding all_windows
windows_all ms i h = let e : length ms - 63 ≡ i + 1 = omega arith in ap (window_lines ms) e

-- the moves that are left, from a place on: how many are before them, and the moves left after one more
module _ (ms rest : List ℕ) (e : rest ≡ drop (length ms - length rest) ms) where
  pub left_within : length rest ≤ length ms
  left_within = omega (arith, ap length e, length-drop (length ms - length rest) ms)

  pub left_next : (next : List ℕ) → 0 < length rest → next ≡ drop 1 rest
      → (length ms - length next ≡ length ms - length rest + 1) × (next ≡ drop (length ms - length next) ms)
  left_next next h f =
      let n : length ms - length next ≡ length ms - length rest + 1 = omega (arith, left_within, ap length f, length-drop 1 rest) in
      (n, f ∙ ap (drop 1) e ∙ drop-drop 1 (length ms - length rest) ms ∙ ap (λ (k : ℕ). drop k ms) (sym n))

  -- .. and the window at hand
  pub left_window : (w : Window) → w ≡ window_of (take 64 rest) → window_line (window_of (take 64 (drop (length ms - length rest) ms))) ≡ window_line w
  left_window w h = ap window_line (sym (h ∙ ap (λ (l : List ℕ). window_of (take 64 l)) e))

-- the first 65 of moves: the window before and the next one
module _ (rest part : List ℕ) (n : ℕ) (e : n ≡ 65) (p : part ≡ take n rest) where
  pub part_before : take 64 rest ≡ take 64 part
  part_before = sym (ap (take 64) p ∙ take-take 64 n rest (omega arith))

  pub part_next : (next : List ℕ) → next ≡ drop 1 rest → drop 1 part ≡ take 64 next
  part_next next f = ap (drop 1) (p ∙ ap (λ (k : ℕ). take k rest) e) ∙ rest_of rest ∙ ap (take 64) (sym f)
    where
      rest_of : (l : List ℕ) → drop 1 (take 65 l) ≡ take 64 (drop 1 l)
      rest_of [] = refl
      rest_of (m ∷ l) = refl

-- ---- moves that came in two parts

-- the windows from n on
lines_add : (ms : List ℕ) (n m : ℕ) → window_lines ms (n + m) ≡ window_lines ms n ++ window_lines (drop n ms) m
unfolding window_lines
lines_add ms n zero = let e : n + 0 ≡ n = omega arith in ap (window_lines ms) e ∙ sym (append-nil (window_lines ms n))
lines_add ms n (suc m) =
    let e : n + suc m ≡ suc (n + m) = omega arith in
    ap (window_lines ms) e
    ∙ ap₂ (λ (a b : List ℕ). a ++ window_line (window_of (take 64 b))) (lines_add ms n m) (sym (drop-drop m n ms))
    ∙ append_assoc (window_lines ms n) (window_lines (drop n ms) m) _

-- windows that lie within the first part
lines_within : (a b : List ℕ) (n : ℕ) → n + 63 ≤ length a → window_lines (a ++ b) n ≡ window_lines a n
unfolding window_lines
lines_within a b zero h = refl
lines_within a b (suc n) h =
    ap₂ (λ (t w : List ℕ). t ++ window_line (window_of w)) (lines_within a b n (omega arith))
    (ap (take 64) (drop-append-le n a b (omega arith)) ∙ take-append-le 64 (drop n a) b (omega (arith, length-drop n a)))

pub windows_more : (a b : List ℕ) → all_windows (a ++ b) ≡ all_windows a ++ all_windows (last_moves a ++ b)
unfolding all_windows
windows_more a b =
    let n : ℕ = length a - 63 in
    let front : n ≤ length a = omega arith in
    let sum : length (a ++ b) - 63 ≡ n + (length (last_moves a ++ b) - 63) =
    omega (arith, length-append a b, length-append (last_moves a) b, length-drop n a) in
    ap (window_lines (a ++ b)) sum
    ∙ lines_add (a ++ b) n (length (last_moves a ++ b) - 63)
    ∙ ap₂ ◌++◌ (⊎_elim few many (lt_or_le (length a) 63)) (ap (λ (l : List ℕ). window_lines l (length (last_moves a ++ b) - 63)) (drop-append-le n a b front))
  where
    few : length a < 63 → window_lines (a ++ b) (length a - 63) ≡ window_lines a (length a - 63)
    few h = let z : length a - 63 ≡ 0 = omega arith in rw z (lines_none (a ++ b) ∙ sym (lines_none a))

    many : 63 ≤ length a → window_lines (a ++ b) (length a - 63) ≡ window_lines a (length a - 63)
    many h = lines_within a b (length a - 63) (omega arith)

pub last_more : (a b : List ℕ) → last_moves (a ++ b) ≡ last_moves (last_moves a ++ b)
last_more a b =
    let n : ℕ = length a - 63 in
    let front : n ≤ length a = omega arith in
    let sum : length (a ++ b) - 63 ≡ n + (length (last_moves a ++ b) - 63) =
    omega (arith, length-append a b, length-append (last_moves a) b, length-drop n a) in
    ap (λ (k : ℕ). drop k (a ++ b)) sum
    ∙ sym (drop-drop (length (last_moves a ++ b) - 63) n (a ++ b))
    ∙ ap (drop (length (last_moves a ++ b) - 63)) (drop-append-le n a b front)

-- ---- how long the lines are

window_length : (w : Window) → length (window_line w) ≤ 22
unfolding window_line
window_length w =
    omega (arith, length-append (decimal w.sum) (line (32 ∷ []) w.greatest), decimal_length w.sum, line_length (32 ∷ []) w.greatest)

lines_length : (ms : List ℕ) (n : ℕ) → length (window_lines ms n) ≤ 22 * n
unfolding window_lines
lines_length ms zero = omega arith
lines_length ms (suc n) =
    omega (arith, length-append (window_lines ms n) (window_line (window_of (take 64 (drop n ms)))), lines_length ms n, window_length (window_of (take 64 (drop n ms))))

pub windows_length : (ms : List ℕ) → length (all_windows ms) ≤ 22 * (length ms - 63)
unfolding all_windows
windows_length ms = lines_length ms (length ms - 63)
