-- Laws over the values that definitions have, where the code gives a Result or an Option.
use Rattle.mondays_windows.specs.Sliding.{greatest_append}
use Rattle.std.specs.Prelude.{ℕ, ◌+◌, ◌-◌, ◌<◌, max, ◌≡◌}
use mathlib.Core.List.{List, [], ◌∷◌, ◌++◌}
use Rattle.std.proofs.Math.Path.{refl, ap}
use Rattle.std.proofs.Common.{◌∙◌, add-one, arith, take-take, drop-drop}
use Rattle.std.proofs.Math.ListN.{length, take, drop, get_or}
use Rattle.std.proofs.Math.Seq.{take-suc}
use Rattle.mondays_windows.specs.Definitions.{greatest_of}

greatest_one : (m : ℕ) → greatest_of (m ∷ []) ≡ m
unfolding greatest_of
greatest_one m = omega arith

-- a loop that takes the greatest: a turn
pub greatest_turn : (l : List ℕ) (i g v : ℕ) → i < length l → g ≡ greatest_of (take i l) → v ≡ max g (get_or l i 0) → v ≡ greatest_of (take (i + 1) l)
greatest_turn l i g v h e d =
    let t : greatest_of (take (i + 1) l) ≡ greatest_of (take i l ++ (get_or l i 0 ∷ [])) =
    ap (λ (n : ℕ). greatest_of (take n l)) (add-one i) ∙ ap greatest_of (take-suc l i 0 h) in
    omega (arith, greatest_append (take i l) (get_or l i 0 ∷ []), greatest_one (get_or l i 0))

-- 65 moves from place i on: the window before and the next one
pub part_before : (ms : List ℕ) (i : ℕ) → take 64 (take (i + 65 - i) (drop i ms)) ≡ take 64 (drop i ms)
part_before ms i = take-take 64 (i + 65 - i) (drop i ms) (omega arith)

pub part_next : (ms : List ℕ) (i : ℕ) → drop 1 (take (i + 65 - i) (drop i ms)) ≡ take 64 (drop (i + 1) ms)
part_next ms i =
    let e : i + 65 - i ≡ 65 = omega arith in
    ap (λ (n : ℕ). drop 1 (take n (drop i ms))) e ∙ rest_of (drop i ms) ∙ ap (take 64) (drop-drop 1 i ms)
  where
    rest_of : (l : List ℕ) → drop 1 (take 65 l) ≡ take 64 (drop 1 l)
    rest_of [] = refl
    rest_of (m ∷ l) = refl
