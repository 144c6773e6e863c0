-- Laws over the values that definitions have, where the code gives a Result or an Option.
use Rattle.std.specs.Prelude.{ℕ, ◌+◌, Bool, cond, ◌≡◌, eqb, get_or}
use mathlib.Core.List.{List}
use Rattle.std.proofs.Common.{⊎_elim, sym, ap, ◌∙◌}
use Rattle.base_laws.specs.Below.{count_hit, count_miss}
use Rattle.base_laws.specs.Bools.{either}
use Rattle.program_sheet_text.specs.Definitions.{rows_with}

-- a row more, for the loop that counts
rows_step : (l : List ℕ) (m k : ℕ) → rows_with l (m + 1) k ≡ cond (eqb (get_or l m 0) k) (rows_with l m k + 1) (rows_with l m k)
unfolding rows_with
rows_step l m k =
    ⊎_elim (λ e. count_hit m (λ h. eqb (get_or l h 0) k) e ∙ sym (ap (λ (b : Bool). cond b (rows_with l m k + 1) (rows_with l m k)) e))
    (λ e. count_miss m (λ h. eqb (get_or l h 0) k) e ∙ sym (ap (λ (b : Bool). cond b (rows_with l m k + 1) (rows_with l m k)) e)) (either (eqb (get_or l m 0) k))

pub rows_turn : (l : List ℕ) (m k i found : ℕ) {r : ℕ} → found ≡ rows_with l m k → i ≡ m → r ≡ cond (eqb (get_or l i 0) k) (found + 1) found
    → r ≡ rows_with l (m + 1) k
rows_turn l m k i found e f g =
    g ∙ ap (λ (j : ℕ). cond (eqb (get_or l j 0) k) (found + 1) found) f ∙ ap (λ (x : ℕ). cond (eqb (get_or l m 0) k) (x + 1) x) e ∙ sym (rows_step l m k)
