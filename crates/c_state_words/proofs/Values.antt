-- Laws over the values that definitions have, where the code gives a Result or an Option.
use Rattle.std.specs.Prelude.{◌≡◌, refl, List, ℕ, ◌+◌, length, get_or}
use Rattle.std.proofs.Common.{ap, ◌∙◌}
use Rattle.base_laws.specs.Tables.{filled, filled_all}
use Rattle.c_state_words.specs.Definitions.{span}

pub span_filled : (w : List ℕ) (at : ℕ) (l : List ℕ) (k : ℕ) → k ≡ length l
    → filled k (λ i. get_or w (at + i) 0) l ≡ span w at (length l)
unfolding span
span_filled w at l k e =
    ap (λ (n : ℕ). filled n (λ i. get_or w (at + i) 0) l) e ∙ filled_all (length l) (λ i. get_or w (at + i) 0) l refl
