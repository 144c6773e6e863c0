-- Laws over the values that definitions have, where the code gives a Result or an Option.
use Rattle.program_sums.specs.Sums.{sum_append}
use Rattle.std.specs.Prelude.{ℕ, ◌+◌, ◌-◌, ◌≤◌, List, ◌++◌, ◌≡◌, take, drop}
use Rattle.std.proofs.Common.{sym, ap, ◌∙◌, arith, take-add}
use Rattle.program_sums.specs.Definitions.{sum_of}

-- a turn that adds up a part
pub sum_part : (l : List ℕ) (i to s v : ℕ) → i ≤ to → s ≡ sum_of (take i l) → v ≡ sum_of (take (to - i) (drop i l)) → s + v ≡ sum_of (take to l)
sum_part l i to s v h e d =
    let z : i + (to - i) ≡ to = omega arith in
    let t : sum_of (take to l) ≡ sum_of (take i l ++ take (to - i) (drop i l)) = ap (λ (n : ℕ). sum_of (take n l)) (sym z) ∙ ap sum_of (take-add i (to - i) l) in
    omega (arith, sum_append (take i l) (take (to - i) (drop i l)))
