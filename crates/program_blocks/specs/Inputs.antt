-- The input that carries some blocks, and that its blocks are these.
use Rattle.std.specs.Prelude.{ℕ, zero, suc, ◌+◌, ◌*◌, ◌/◌, ◌%◌, ◌^◌, ◌<◌, Bool, true, ◌&&◌, List, [], ◌∷◌, ◌++◌, ◌≡◌, ltb, drop, get_or}
use Rattle.std.proofs.Common.{⊎_elim, sym, ap₂, ◌∙◌, zero-lt-suc, arith, drop_at, ltb-true}
use Rattle.std.proofs.Math.Path.{ap}
use Rattle.std.proofs.Math.ListN.{length, get_or-eq_default}
use Rattle.base_laws.specs.Bools.{lt_or_le, and_left, and_right}
use Rattle.base_laws.specs.Definitions.{all_below, tabulate}
use Rattle.base_laws.specs.Below.{all_at}
use Rattle.base_laws.specs.Tables.{tabulate_add, tabulate_cong, length_tabulate}
use Rattle.base_bytes.specs.Definitions.{words_of, byte_at, bytes_of}
use Rattle.base_bytes.specs.Words.{length_bytes, get_d_words, words_bytes}
use Rattle.program_blocks.specs.Definitions.{block_count, blocks, whole_words}
use Rattle.program_blocks.specs.Blocks.{blocks_none, blocks_whole}

-- the blocks, each preceded by its word count, as bytes
unfoldable pub input_of : List (List ℕ) → List ℕ
input_of [] = []
input_of (w ∷ ws) = bytes_of (length w ∷ w) ++ input_of ws

-- words of 32 bits, no more than a count can say
unfoldable pub fits_count : List ℕ → Bool
fits_count w = ltb (length w) (2 ^ 32) && all_below (length w) (λ k. ltb (get_or w k 0) (2 ^ 32))

unfoldable pub all_fit : List (List ℕ) → Bool
all_fit [] = true
all_fit (w ∷ ws) = fits_count w && all_fit ws

-- ---- laws

word_fits : (w : List ℕ) → fits_count w ≡ true → (k : ℕ) → get_or w k 0 < 2 ^ 32
unfolding fits_count
word_fits w h k =
    ⊎_elim
    (λ l. ltb-true (get_or w k 0) (2 ^ 32) (all_at (length w) (λ j. ltb (get_or w j 0) (2 ^ 32)) (and_right (ltb (length w) (2 ^ 32)) _ h) k l))
    (λ l. let e : get_or w k 0 ≡ 0 = get_or-eq_default w 0 l in omega arith)
    (lt_or_le k (length w))

count_fits : (w : List ℕ) → fits_count w ≡ true → (k : ℕ) → get_or (length w ∷ w) k 0 < 2 ^ 32
unfolding fits_count
count_fits w h zero = ltb-true (length w) (2 ^ 32) (and_left (ltb (length w) (2 ^ 32)) _ h)
count_fits w h (suc k) = word_fits w h k

-- the bytes after a first word are those of the other words
bytes_after : (n : ℕ) (w : List ℕ) → drop 4 (bytes_of (n ∷ w)) ≡ bytes_of w
unfolding bytes_of byte_at
bytes_after n w =
    let size : 4 * length (n ∷ w) ≡ 4 + 4 * length w = omega arith in
    ap (λ (k : ℕ). drop 4 (tabulate k (byte_at (n ∷ w)))) size
    ∙ ap (drop 4) (tabulate_add 4 (4 * length w) (byte_at (n ∷ w)))
    ∙ drop_at (tabulate 4 (byte_at (n ∷ w))) _ 4 (length_tabulate 4 (byte_at (n ∷ w)))
    ∙ tabulate_cong (4 * length w) (λ k. byte_at (n ∷ w) (4 + k)) (byte_at w) (λ k l. byte k)
  where
    byte : (k : ℕ) → get_or (n ∷ w) ((4 + k) / 4) 0 / 256 ^ ((4 + k) % 4) % 256 ≡ get_or w (k / 4) 0 / 256 ^ (k % 4) % 256
    byte k =
        let q : (4 + k) / 4 ≡ suc (k / 4) = omega arith in
        let r : (4 + k) % 4 ≡ k % 4 = omega arith in
        rw (q, r)

module _ (w : List ℕ) (h : fits_count w ≡ true) where
  count_is : block_count (bytes_of (length w ∷ w)) ≡ length w
  count_is =
      sym (get_d_words (bytes_of (length w ∷ w)) (length (length w ∷ w)) 0 (zero-lt-suc (length w)))
      ∙ ap (λ (l : List ℕ). get_or l 0 0) (words_bytes (length w ∷ w) (count_fits w h))

  words_are : whole_words (bytes_of w) ≡ w
  unfolding whole_words
  words_are =
      let n : length (bytes_of w) / 4 ≡ length w = omega (arith, length_bytes w) in
      ap (words_of (bytes_of w)) n ∙ words_bytes w (word_fits w h)

-- the blocks of an input are the blocks that it carries
pub blocks_input : (ws : List (List ℕ)) → all_fit ws ≡ true → blocks (input_of ws) ≡ ws
unfolding input_of all_fit
blocks_input [] h = blocks_none [] (omega arith)
blocks_input (w ∷ ws) h =
    let f = and_left (fits_count w) (all_fit ws) h in
    let size : length (bytes_of (length w ∷ w)) ≡ 4 + 4 * block_count (bytes_of (length w ∷ w)) =
    omega (arith, length_bytes (length w ∷ w), count_is w f) in
    blocks_whole (bytes_of (length w ∷ w)) (input_of ws) size
    ∙ ap₂ (λ (a : List ℕ) (b : List (List ℕ)). a ∷ b) (ap whole_words (bytes_after (length w) w) ∙ words_are w f)
    (blocks_input ws (and_right (fits_count w) (all_fit ws) h))
