-- Bytes copied one after another: the list l with the first i elements of m.
use Rattle.std.specs.Prelude.{◌≡◌, List, ℕ, ◌+◌, ◌≤◌, ◌<◌, set}
use Rattle.std.proofs.Math.Path.{refl, sym, ap}
use Rattle.std.proofs.Common.{◌∙◌}
use Rattle.std.proofs.Math.ListN.{length, get_or}
use Rattle.base_laws.specs.Definitions.{tabulate}
use Rattle.base_laws.specs.Tables.{filled, filled_none, length_filled, tabulate_self}
use Rattle.base_laws.proofs.Tables.{filled_turn, filled_end}

unfoldable pub copied : ℕ → List ℕ → List ℕ → List ℕ
copied i m l = filled i (λ k. get_or m k 0) l

module _ (m l : List ℕ) where
  pub copy_start : l ≡ copied 0 m l
  unfolding copied
  copy_start = sym (filled_none (λ k. get_or m k 0) l)

  pub copy_turn : (i : ℕ) (r : List ℕ) → i < length l → r ≡ copied i m l → set r i (get_or m i 0) ≡ copied (i + 1) m l
  unfolding copied
  copy_turn i r h e = filled_turn i (λ k. get_or m k 0) l r (get_or m i 0) h e refl

  pub copy_long : (i : ℕ) (r : List ℕ) → i ≤ length l → r ≡ copied i m l → length r ≡ length l
  unfolding copied
  copy_long i r h e = ap length e ∙ length_filled i (λ k. get_or m k 0) l h

  -- all copied
  pub copy_end : (n i : ℕ) (r : List ℕ) → length m ≡ n → length l ≡ n → i ≤ n → n ≤ i → r ≡ copied i m l → r ≡ m
  unfolding copied
  copy_end n i r p q a b e = filled_end n (λ k. get_or m k 0) l r i q a b e ∙ (ap (λ (k : ℕ). tabulate k (λ j. get_or m j 0)) (sym p) ∙ tabulate_self 0 m)
