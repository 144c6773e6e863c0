-- A slot of 512 words as 256 pairs: a record is two of them.
use Rattle.std.specs.Prelude.{◌≡◌, ℕ, ◌+◌, ◌*◌, ◌/◌, ◌%◌, ◌<◌, ◌≤◌, List, length, replicate, slice_index, slice_index_or}
use Rattle.std.proofs.Common.{⊎_elim, ap, ◌∙◌, arith}
use Rattle.std.proofs.lemmas.List.{length-replicate, get_or-replicate}
use Rattle.std.proofs.Math.ListN.{get_or-eq_default}
use Rattle.base_laws.specs.Bools.{lt_or_le}
use Rattle.base_laws.specs.Definitions.{tabulate}
use Rattle.base_laws.specs.Tables.{filled, get_d_tabulate, tabulate_ext, length_filled, get_or_filled, get_or_filled_rest}

-- words 2i and 2i + 1 as one number
unfoldable pub pair_of : List ℕ → ℕ → ℕ
pair_of w i = slice_index w (2 * i) + 4294967296 * slice_index w (2 * i + 1)

unfoldable pub pairs_of : List ℕ → List ℕ
pairs_of w = tabulate 256 (pair_of w)

-- every word is below 2^32
abbrev pub FitWords : List ℕ → Type 0
FitWords w = (k : ℕ) → slice_index w k < 4294967296

module _ (w : List ℕ) (words : FitWords w) where
  pub pair_low : (i : ℕ) → pair_of w i % 4294967296 ≡ slice_index w (2 * i)
  unfolding pair_of
  pair_low i = omega (arith, words (2 * i))

  pub pair_high : (i : ℕ) → pair_of w i / 4294967296 ≡ slice_index w (2 * i + 1)
  unfolding pair_of
  pair_high i = omega (arith, words (2 * i))

pub pair-at : (w : List ℕ) (i : ℕ) → i < 256 → slice_index (pairs_of w) i ≡ pair_of w i
unfolding pairs_of
pair-at w i l = get_d_tabulate 256 (pair_of w) i 0 l

-- past the words a pair is 0
pair_past : (w : List ℕ) (i : ℕ) → length w ≤ 2 * i → 0 ≡ pair_of w i
unfolding pair_of
pair_past w i h =
    let low : slice_index_or w (2 * i) 0 ≡ 0 = get_or-eq_default w 0 h in
    let high : slice_index_or w (2 * i + 1) 0 ≡ 0 = get_or-eq_default w 0 (omega arith) in
    omega (arith, low, high)

-- zeros, filled with the pairs of all words
pub pairs_filled : (w l : List ℕ) (i : ℕ) → length w ≤ 2 * i → i ≤ 256 → l ≡ filled i (pair_of w) (replicate 256 0) → l ≡ pairs_of w
unfolding pairs_of
pairs_filled w l i h few e =
    tabulate_ext 0 256 (pair_of w) l (ap length e ∙ length_filled i (pair_of w) (replicate 256 0) (omega (arith, zeros)) ∙ zeros)
    (λ k m.
    ap (λ (x : List ℕ). slice_index x k) e
    ∙ ⊎_elim (λ j. get_or_filled i (pair_of w) (replicate 256 0) k 0 j)
    (λ j. get_or_filled_rest i (pair_of w) (replicate 256 0) k 0 j ∙ get_or-replicate 256 k 0 0 m ∙ pair_past w k (omega arith)) (lt_or_le k i))
  where
    zeros : length (replicate {A = ℕ} 256 0) ≡ 256
    zeros = length-replicate {A = ℕ} 256 0
