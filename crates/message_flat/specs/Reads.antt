-- The words of lent bytes, read where they lie.
use Rattle.std.specs.Prelude.{ℕ, ◌+◌, ◌*◌, ◌/◌, ◌%◌, ◌≤◌, ◌<◌, List, ◌≡◌, length, get_or}
use Rattle.std.proofs.Common.{arith, ◌∙◌, eq-eqb, ne_eqb}
use Rattle.std.proofs.Math.Path.{sym}
use Rattle.base_laws.specs.Tables.{get_or_tabulate_past}
use Rattle.base_bytes.specs.Definitions.{word_at, words_of}
use Rattle.base_bytes.specs.Words.{length_words, get_d_words}
use Rattle.base_lent.specs.Definitions.{word_count, words_in}
use Rattle.base_lent.specs.Lent.{count_fits}

module _ (b : List ℕ) where
  pub count-in : length (words_in b) ≡ word_count (length b)
  unfolding words_in
  count-in = length_words b (word_count (length b))

  pub none_in : (length b % 4 ≡ 0 → ⊥) → 0 ≡ length (words_in b)
  unfolding word_count
  none_in h = sym (count-in ∙ rw (ne_eqb (length b % 4) 0 h))

  pub all_in : length b % 4 ≡ 0 → length b / 4 ≡ length (words_in b)
  unfolding word_count
  all_in h = sym (count-in ∙ rw (eq-eqb (length b % 4) 0 h))

  pub word_past : (k : ℕ) → length (words_in b) ≤ k → 0 ≡ get_or (words_in b) k 0
  unfolding words_in words_of
  word_past k h = sym (get_or_tabulate_past (word_count (length b)) (word_at b) k 0 (omega (arith, count-in)))

  pub word_here : (k : ℕ) → k < length (words_in b) → word_at b k ≡ get_or (words_in b) k 0
  unfolding words_in
  word_here k h = sym (get_d_words b (word_count (length b)) k (omega (arith, count-in)))

  pub word_room : (k : ℕ) → k < length (words_in b) → 4 * k + 4 ≤ length b
  word_room k h = omega (arith, count-in, count_fits (length b))
