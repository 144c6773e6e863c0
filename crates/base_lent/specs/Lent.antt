-- A call that looks at no more than so many words reads a longer list as no words. And the laws of bytes as words.
use Rattle.std.specs.Prelude.{◌≡◌, ◌⊎◌, false, cond, ℕ, suc, ◌*◌, ◌-◌, ◌/◌, ◌%◌, ◌≤◌, ◌<◌, eqb, leb, take, drop}
use Rattle.std.proofs.Math.Path.{sym, ap}
use Rattle.std.proofs.Common.{◌∙◌, inl, inr, ⊎_elim, zero-le, leb-true, leb-false, eqb-true, eq-eqb}
use mathlib.Core.List.{List, ◌++◌}
use native.Mathlib.Omega.{arith}
use Rattle.std.proofs.Math.ListN.{length, length-append, length-take, length-drop, length-replicate}
use Rattle.std.proofs.Math.Seq.{take_at}
use Rattle.base_laws.specs.Bools.{either, same}
use Rattle.base_laws.specs.Definitions.{padded}
use Rattle.base_laws.specs.Tables.{zeros, zeros_left}
use Rattle.base_laws.proofs.Tables.{padded_append}
use Rattle.base_bytes.specs.Definitions.{words_of}
use Rattle.base_bytes.specs.Words.{length_words}
use Rattle.base_lent.specs.Definitions.{word_count, words_in}

-- how many of them a call looks at that takes at most so many
unfoldable pub count_within : ℕ → ℕ → ℕ
count_within most n = cond (leb (word_count n) most) (word_count n) 0

-- the words that a call looks at
unfoldable pub words_within : ℕ → List ℕ → List ℕ
words_within most bytes = words_of bytes (count_within most (length bytes))

-- ---- laws

pub count_fits : (n : ℕ) → 4 * word_count n ≤ n
unfolding word_count
count_fits n =
    ⊎_elim (λ e. rw e (omega (arith, eqb-true (n % 4) 0 e))) (λ e. rw e zero-le) (either (eqb (n % 4) 0))

pub within_le : (most n : ℕ) → count_within most n ≤ most
unfolding count_within
within_le most n =
    ⊎_elim (λ e. rw e (leb-true (word_count n) most e)) (λ e. rw e zero-le) (either (leb (word_count n) most))

pub within_fits : (most n : ℕ) → 4 * count_within most n ≤ n
unfolding count_within
within_fits most n =
    ⊎_elim (λ e. rw e (count_fits n)) (λ e. rw e zero-le) (either (leb (word_count n) most))

-- a list of whole words
pub count_whole : (n k : ℕ) → n ≡ 4 * k → word_count n ≡ k
unfolding word_count
count_whole n k e = let h : n % 4 ≡ 0 = omega arith in rw (eq-eqb (n % 4) 0 h) (omega arith)

-- the words within the limit are the words, or there are too many of them and none is looked at
pub within_cases : (most : ℕ) (bytes : List ℕ)
    → (words_within most bytes ≡ words_in bytes) ⊎ ((length (words_within most bytes) ≡ 0) × (most < length (words_in bytes)))
unfolding words_within words_in count_within
within_cases most bytes = ⊎_elim (λ e. inl (rw e)) (λ e. inr (few e, many e)) (either (leb (word_count (length bytes)) most))
  where
    few : leb (word_count (length bytes)) most ≡ false → length (words_within most bytes) ≡ 0
    few e = length_words bytes (count_within most (length bytes)) ∙ rw e

    many : leb (word_count (length bytes)) most ≡ false → most < length (words_in bytes)
    many e = rw (length_words bytes (word_count (length bytes))) (leb-false (word_count (length bytes)) most e)

-- ---- lengths

pub length_lent : (b : List ℕ) → length (words_in b) ≡ word_count (length b)
unfolding words_in
length_lent b = length_words b (word_count (length b))

-- so many whole words are four times as many bytes
pub bytes_of_words : (b : List ℕ) (k : ℕ) → length (words_in b) ≡ suc k → length b ≡ 4 * suc k
unfolding word_count
bytes_of_words b k e =
    ⊎_elim
    (λ h. let n : length b % 4 ≡ 0 = eqb-true (length b % 4) 0 h in let q : length b / 4 ≡ suc k = rw h at counted in omega arith)
    (λ h. absurd (let q : 0 ≡ suc k = rw h at counted in omega arith))
    (either (eqb (length b % 4) 0))
  where
    counted : word_count (length b) ≡ suc k
    counted = sym (length_lent b) ∙ e

pub words_of_bytes : (b : List ℕ) (k : ℕ) → length b ≡ 4 * k → length (words_in b) ≡ k
words_of_bytes b k e = length_lent b ∙ count_whole (length b) k e

-- a length in bytes is tested as one in words
pub length-test : (b : List ℕ) (k : ℕ) → eqb (length b) (4 * suc k) ≡ eqb (length (words_in b)) (suc k)
length-test b k =
    same (eqb (length b) (4 * suc k)) (eqb (length (words_in b)) (suc k))
    (λ h. eq-eqb (length (words_in b)) (suc k) (words_of_bytes b (suc k) (eqb-true (length b) (4 * suc k) h)))
    (λ h. eq-eqb (length b) (4 * suc k) (bytes_of_words b k (eqb-true (length (words_in b)) (suc k) h)))

-- so many words of the bytes are all of them
pub all_words : (b : List ℕ) (k : ℕ) → length b ≡ 4 * k → words_of b k ≡ words_in b
unfolding words_in
all_words b k e = ap (words_of b) (sym (count_whole (length b) k e))

-- ---- a table that holds, in its first n places, the words that a call looks at, and zeros after them

pub record HoldsIn (size : ℕ) (table : List ℕ) (n most : ℕ) (bytes : List ℕ) : Type 0 where
  pub few : n ≤ most
  pub count : n ≡ length (words_within most bytes)
  pub room : length table ≡ size
  pub front : take (n - 0) (drop 0 table) ≡ words_within most bytes
  pub whole : table ≡ padded size (words_within most bytes)

-- a table of 512 words, and one for settings
abbrev pub HoldsWords : List ℕ → ℕ → ℕ → List ℕ → Type 0
HoldsWords = HoldsIn 512

abbrev pub HoldsSettings : List ℕ → ℕ → List ℕ → Type 0
HoldsSettings table n bytes = HoldsIn 52 table n 52 bytes

-- the part of a table of zeros into which the words are stored
module _ (most n : ℕ) (bytes : List ℕ) (e : n ≡ count_within most (length bytes)) where
  pub part_fits : (table : List ℕ) → 4 * length (take (n - 0) table) ≤ length bytes
  part_fits table = omega (arith, length-take (n - 0) table, within_fits most (length bytes))

  pub part-holds : (size : ℕ) → n ≤ size → (front : List ℕ) → front ≡ words_of bytes (length (take (n - 0) (zeros size)))
      → HoldsIn size (front ++ drop (n - 0) (zeros size)) n most bytes
  unfolding words_within
  part-holds size room front f =
      let long : length (take (n - 0) (zeros size)) ≡ count_within most (length bytes) =
      omega (arith, length-take (n - 0) (zeros size), length-replicate {A = ℕ} size 0) in
      let words : front ≡ words_of bytes (count_within most (length bytes)) =
      f ∙ ap (words_of bytes) long in
      let len : length front ≡ n = ap length words ∙ length_words bytes (count_within most (length bytes)) ∙ sym e in
      let rest : size - (n - 0) ≡ size - length front = omega arith in
      record {
        few = omega (arith, within_le most (length bytes));
        count = sym len ∙ ap length words;
        room = length-append front (drop (n - 0) (zeros size)) ∙ omega (arith, length-drop (n - 0) (zeros size), length-replicate {A = ℕ} size 0);
        front = take_at front (drop (n - 0) (zeros size)) (n - 0) (omega arith) ∙ words;
        whole =
            ap (λ (r : List ℕ). front ++ r)
            (zeros_left size (n - 0) (omega arith) ∙ ap zeros rest)
            ∙ padded_append size front (omega arith)
            ∙ ap (padded size) words;
      }
