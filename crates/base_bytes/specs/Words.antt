-- Laws of words as bytes: lengths, bounds, one element of each list, and that the two ways are inverse.
use Rattle.std.specs.Prelude.{◌≡◌, refl, List, ℕ, zero, suc, ◌+◌, ◌*◌, ◌/◌, ◌%◌, ◌^◌, ◌≤◌, ◌<◌, length, get_or, set}
use Rattle.std.proofs.Common.{sym, ap, ◌∙◌, subst, add-zero, mod-lt, zero-lt-suc, arith, length-set}
use Rattle.std.proofs.Math.Nat.{div-div-eq-div-mul}
use Rattle.base_laws.specs.Tables.{filled, length_tabulate, get_d_tabulate, tabulate_ext, filled_more, filled_all}
use Rattle.base_bytes.specs.Definitions.{word_at, words_of, byte_at, bytes_of}
use Rattle.base_bytes.specs.Shorthands.{word_from}

-- words 2 i and 2 i + 1 of the bytes as one number, word 2 i in the lower half
abbrev pub pair_at : List ℕ → ℕ → ℕ
pair_at bytes i = word_at bytes (2 * i) + 4294967296 * word_at bytes (2 * i + 1)

-- the bytes with the word w stored from place at on
abbrev pub stored : List ℕ → ℕ → ℕ → List ℕ
stored bytes at w =
    set (set (set (set bytes at (w % 256)) (at + 1) (w / 256 % 256)) (at + 2) (w / 65536 % 256)) (at + 3) (w / 16777216 % 256)

-- ---- lengths and bounds

pub length_words : (bytes : List ℕ) (n : ℕ) → length (words_of bytes n) ≡ n
unfolding words_of
length_words bytes n = length_tabulate n (word_at bytes)

pub length_bytes : (words : List ℕ) → length (bytes_of words) ≡ 4 * length words
unfolding bytes_of
length_bytes words = length_tabulate (4 * length words) (byte_at words)

pub word_lt : (bytes : List ℕ) (i : ℕ) → ((k : ℕ) → get_or bytes k 0 < 256) → word_at bytes i < 2 ^ 32
unfolding word_at
word_lt bytes i h = omega (arith, h (4 * i), h (4 * i + 1), h (4 * i + 2), h (4 * i + 3))

pub byte_lt : (words : List ℕ) (k : ℕ) → byte_at words k < 256
unfolding byte_at
byte_lt words k = mod-lt (get_or words (k / 4) 0 / 256 ^ (k % 4)) (zero-lt-suc 255)

-- ---- one element

pub get_d_words : (bytes : List ℕ) (n i : ℕ) → i < n → get_or (words_of bytes n) i 0 ≡ word_at bytes i
unfolding words_of
get_d_words bytes n i l = get_d_tabulate n (word_at bytes) i 0 l

pub get_or_bytes : (words : List ℕ) (k : ℕ) → k < 4 * length words → get_or (bytes_of words) k 0 ≡ byte_at words k
unfolding bytes_of
get_or_bytes words k l = get_d_tabulate (4 * length words) (byte_at words) k 0 l

-- byte j of word i
pub byte_of : (words : List ℕ) (i j : ℕ) → j < 4 → byte_at words (4 * i + j) ≡ get_or words i 0 / 256 ^ j % 256
unfolding byte_at
byte_of words i j l =
    let q : (4 * i + j) / 4 ≡ i = omega arith in
    let r : (4 * i + j) % 4 ≡ j = omega arith in
    rw (q, r)

-- its lowest byte
pub byte_of_zero : (words : List ℕ) (i : ℕ) → byte_at words (4 * i) ≡ get_or words i 0 % 256
byte_of_zero words i =
    let e : get_or words i 0 / 256 ^ 0 ≡ get_or words i 0 = omega arith in
    ap (byte_at words) (sym (add-zero (4 * i))) ∙ byte_of words i 0 (omega arith) ∙ ap (λ (x : ℕ). x % 256) e

-- bytes 8 i to 8 i + 7 make words 2 i and 2 i + 1
pub pair_bytes : (bytes : List ℕ) (i : ℕ)
    → word_from (get_or bytes (8 * i) 0) (get_or bytes (8 * i + 1) 0) (get_or bytes (8 * i + 2) 0) (get_or bytes (8 * i + 3) 0)
    + 4294967296 * word_from (get_or bytes (8 * i + 4) 0) (get_or bytes (8 * i + 5) 0) (get_or bytes (8 * i + 6) 0) (get_or bytes (8 * i + 7) 0)
    ≡ pair_at bytes i
unfolding word_at
pair_bytes bytes i =
    let e0 : 4 * (2 * i) ≡ 8 * i = omega arith in
    let e4 : 4 * (2 * i + 1) ≡ 8 * i + 4 = omega arith in
    let e5 : 8 * i + 4 + 1 ≡ 8 * i + 5 = omega arith in
    let e6 : 8 * i + 4 + 2 ≡ 8 * i + 6 = omega arith in
    let e7 : 8 * i + 4 + 3 ≡ 8 * i + 7 = omega arith in
    rw (e0, e4, e5, e6, e7)

-- ---- loops that store

-- the last turn
pub words_filled : (bytes l : List ℕ) (i : ℕ) → i ≡ length l → filled i (word_at bytes) l ≡ words_of bytes (length l)
unfolding words_of
words_filled bytes l i e = ap (λ (n : ℕ). filled n (word_at bytes) l) e ∙ filled_all (length l) (word_at bytes) l refl

pub bytes_filled : (words l : List ℕ) (i : ℕ) → i ≡ length words → length l ≡ 4 * length words → filled (4 * i) (byte_at words) l ≡ bytes_of words
unfolding bytes_of
bytes_filled words l i e h =
    ap (λ (n : ℕ). filled (4 * n) (byte_at words) l) e ∙ filled_all (4 * length words) (byte_at words) l h

-- a turn: the four stores of word i

four_more : (f : ℕ → ℕ) (l : List ℕ) (i : ℕ) → i + 4 ≤ length l
    → set (set (set (set (filled i f l) i (f i)) (i + 1) (f (i + 1))) (i + 2) (f (i + 2))) (i + 3) (f (i + 3)) ≡ filled (i + 4) f l
four_more f l i h =
    let two : i + 1 + 1 ≡ i + 2 = omega arith in
    let three : i + 2 + 1 ≡ i + 3 = omega arith in
    let four : i + 3 + 1 ≡ i + 4 = omega arith in
    rw (filled_more i f l (omega arith), filled_more (i + 1) f l (omega arith), two, filled_more (i + 2) f l (omega arith), three, filled_more (i + 3) f l (omega arith), four)

stored_more : (words l : List ℕ) (i : ℕ) → 4 * i + 4 ≤ length l
    → stored (filled (4 * i) (byte_at words) l) (4 * i) (get_or words i 0) ≡ filled (4 * (i + 1)) (byte_at words) l
stored_more words l i h =
    let four : 4 * i + 4 ≡ 4 * (i + 1) = omega arith in
    rw (sym (byte_of_zero words i), sym (byte_of words i 1 (omega arith)), sym (byte_of words i 2 (omega arith)), sym (byte_of words i 3 (omega arith)))
    (four_more (byte_at words) l (4 * i) h ∙ ap (λ (k : ℕ). filled k (byte_at words) l) four)

pub stored_turn : (words l m : List ℕ) (i : ℕ) → 4 * i + 4 ≤ length l → m ≡ filled (4 * i) (byte_at words) l
    → stored m (4 * i) (get_or words i 0) ≡ filled (4 * (i + 1)) (byte_at words) l
stored_turn words l m i h e = ap (λ (r : List ℕ). stored r (4 * i) (get_or words i 0)) e ∙ stored_more words l i h

pub length_stored : (bytes : List ℕ) (at w : ℕ) → length (stored bytes at w) ≡ length bytes
length_stored bytes at w = simp length-set

-- ---- the two ways are inverse

-- the bytes of a word make the word
join_digits : (w : ℕ) → w < 2 ^ 32 → word_from (w % 256) (w / 256 % 256) (w / 256 / 256 % 256) (w / 256 / 256 / 256 % 256) ≡ w
join_digits w h = omega arith

pub join_split : (w : ℕ) → w < 2 ^ 32 → word_from (w % 256) (w / 256 % 256) (w / 65536 % 256) (w / 16777216 % 256) ≡ w
join_split w h =
    rw (sym (div-div-eq-div-mul w 65536 256), sym (div-div-eq-div-mul w 256 256)) (join_digits w h)

module _ (a b c d : ℕ) (ha : a < 256) (hb : b < 256) (hc : c < 256) (hd : d < 256) where
  split_0 : word_from a b c d % 256 ≡ a
  split_0 = omega arith

  split_1 : word_from a b c d / 256 % 256 ≡ b
  split_1 = let e : word_from a b c d / 256 ≡ b + 256 * c + 65536 * d = omega arith in rw e (omega arith)

  split_2 : word_from a b c d / 65536 % 256 ≡ c
  split_2 = let e : word_from a b c d / 65536 ≡ c + 256 * d = omega arith in rw e (omega arith)

  split_3 : word_from a b c d / 16777216 % 256 ≡ d
  split_3 = let e : word_from a b c d / 16777216 ≡ d = omega arith in rw e (omega arith)

-- the words of the bytes of the words
pub words_bytes : (words : List ℕ) → ((k : ℕ) → get_or words k 0 < 2 ^ 32) → words_of (bytes_of words) (length words) ≡ words
unfolding words_of word_at
words_bytes words h =
    sym (tabulate_ext 0 (length words) (word_at (bytes_of words)) words refl (λ i l. sym (word_bytes i l)))
  where
    byte : (i j : ℕ) → i < length words → j < 4 → get_or (bytes_of words) (4 * i + j) 0 ≡ get_or words i 0 / 256 ^ j % 256
    byte i j l m = get_or_bytes words (4 * i + j) (omega arith) ∙ byte_of words i j m

    word_bytes : (i : ℕ) → i < length words → word_at (bytes_of words) i ≡ get_or words i 0
    word_bytes i l =
        rw (get_or_bytes words (4 * i) (omega arith), byte_of_zero words i, byte i 1 l (omega arith), byte i 2 l (omega arith), byte i 3 l (omega arith))
        (join_split (get_or words i 0) (h i))

-- the bytes of the words of the bytes
pub bytes_words : (bytes : List ℕ) (n : ℕ) → length bytes ≡ 4 * n → ((k : ℕ) → get_or bytes k 0 < 256) → bytes_of (words_of bytes n) ≡ bytes
unfolding bytes_of word_at
bytes_words bytes n e h =
    sym (tabulate_ext 0 (4 * length (words_of bytes n)) (byte_at (words_of bytes n)) bytes (omega (arith, length_words bytes n))
    (λ k l. sym (byte_words k (omega (arith, length_words bytes n)))))
  where
    word : (i : ℕ) → i < n → get_or (words_of bytes n) i 0 ≡ word_at bytes i
    word i l = get_d_words bytes n i l

    digit : (i j : ℕ) → i < n → j < 4 → byte_at (words_of bytes n) (4 * i + j) ≡ get_or bytes (4 * i + j) 0
    digit i zero l m =
        ap (byte_at (words_of bytes n)) (add-zero (4 * i)) ∙ byte_of_zero (words_of bytes n) i
        ∙ ap (λ (x : ℕ). x % 256) (word i l) ∙ split_0 _ _ _ _ (h (4 * i)) (h (4 * i + 1)) (h (4 * i + 2)) (h (4 * i + 3))
        ∙ ap (λ (k : ℕ). get_or bytes k 0) (sym (add-zero (4 * i)))
    digit i (suc zero) l m =
        byte_of (words_of bytes n) i 1 m ∙ ap (λ (x : ℕ). x / 256 % 256) (word i l) ∙ split_1 _ _ _ _ (h (4 * i)) (h (4 * i + 1)) (h (4 * i + 2)) (h (4 * i + 3))
    digit i (suc (suc zero)) l m =
        byte_of (words_of bytes n) i 2 m ∙ ap (λ (x : ℕ). x / 65536 % 256) (word i l) ∙ split_2 _ _ _ _ (h (4 * i)) (h (4 * i + 1)) (h (4 * i + 2)) (h (4 * i + 3))
    digit i (suc (suc (suc zero))) l m =
        byte_of (words_of bytes n) i 3 m ∙ ap (λ (x : ℕ). x / 16777216 % 256) (word i l) ∙ split_3 _ _ _ _ (h (4 * i)) (h (4 * i + 1)) (h (4 * i + 2)) (h (4 * i + 3))
    digit i (suc (suc (suc (suc j)))) l m = absurd (omega arith)

    byte_words : (k : ℕ) → k < 4 * n → byte_at (words_of bytes n) k ≡ get_or bytes k 0
    byte_words k l =
        let q : 4 * (k / 4) + k % 4 ≡ k = omega arith in
        subst (λ (x : ℕ). byte_at (words_of bytes n) x ≡ get_or bytes x 0) q (digit (k / 4) (k % 4) (omega arith) (omega arith))
