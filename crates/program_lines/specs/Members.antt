-- Laws of the members of a mask as text: one more node, and how long the text can be.
use Rattle.std.specs.Prelude.{ℕ, zero, suc, ◌+◌, ◌*◌, ◌≤◌, true, false, cond, List, [], ◌∷◌, ◌++◌, ◌≡◌, length}
use Rattle.std.proofs.Common.{ap, add-one, arith, length-append}
use Rattle.base_laws.specs.Bools.{cond_of}
use Rattle.base_laws.specs.Definitions.{has}
use Rattle.program_text.specs.Definitions.{field}
use Rattle.program_text.specs.Text.{field_length}
use Rattle.program_lines.specs.Definitions.{member, members_below}

-- ---- laws

pub members_length : (m n : ℕ) → length (members_below n m) ≤ 11 * n
unfolding members_below member
members_length m zero = omega arith
members_length m (suc n) =
    omega (arith, members_length m n, length-append (members_below n m) (cond (has m n) (field (32 ∷ []) n) []), cond_of (λ (t : List ℕ). length t ≤ 11) (has m n) {y = field (32 ∷ []) n} {z = []} (λ _. field_length (32 ∷ []) n) (λ _. omega arith))

-- one more node
pub members_step : (m n : ℕ) → members_below (n + 1) m ≡ members_below n m ++ member m n
unfolding members_below
members_step m n = ap (λ (k : ℕ). members_below k m) (add-one n)

pub member_in : (m n : ℕ) → has m n ≡ true → member m n ≡ field (32 ∷ []) n
unfolding member
member_in m n h = rw h

pub member_out : (m n : ℕ) → has m n ≡ false → member m n ≡ []
unfolding member
member_out m n h = rw h
