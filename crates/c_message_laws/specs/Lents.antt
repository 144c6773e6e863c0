-- Contents as bytes and back: what contents lent as bytes say, and the bytes of what a message says.
use Prim.Native.Nat.{ℕ, zero, suc, ◌+◌, ◌*◌, ◌-◌, ◌/◌, ◌%◌, ◌^◌, ◌<◌, ◌≤◌}
use native.Mathlib.Omega.{arith}
use Rattle.std.proofs.Math.Nat.{zero-div}
use Rattle.std.specs.Prelude.{Bool, true, cond, ◌&&◌, List, ◌≡◌, leb, ltb, take}
use Rattle.std.proofs.Math.Bool.{false}
use Rattle.std.proofs.Math.Logic.{⊎_elim}
use Rattle.std.proofs.Math.Path.{refl}
use Rattle.std.proofs.Common.{sym, ap, ◌∙◌, length-take, get_or-take}
use Rattle.std.proofs.Math.Dec.{eqb}
use Rattle.std.proofs.Math.ListN.{length, get_or, get_or-eq_default}
use borrow.Author.Tests.{lt-ltb, le-ltb, eq-eqb, eqb-true, leb-true, le-leb}
use Rattle.base_laws.specs.Bools.{either, and_left, and_right, lt_or_le}
use Rattle.base_laws.specs.Definitions.{tabulate, padded}
use Rattle.base_laws.specs.Tables.{tabulate_ext, length_tabulate, get_d_tabulate, get_or_tabulate_past, tabulate_cong, padded_ext, length_padded}
use Rattle.base_laws.proofs.Tables.{get_or_padded_all}
use Rattle.base_bytes.specs.Definitions.{words_of, byte_at, bytes_of}
use Rattle.base_bytes.specs.Words.{byte_lt, length_words, length_bytes, get_d_words, get_or_bytes, word_lt, words_bytes, bytes_words}
use Rattle.base_lent.specs.Definitions.{word_count, words_in}
use Rattle.base_lent.specs.Lent.{count_whole}
use Rattle.message_format.specs.declared.Contents.{Contents}
use Rattle.message_format.specs.Definitions.{place, following, body_word, body_of, contents_of, head_word, record_word, message_word, message_of}
use Rattle.message_format.specs.Chain.{following_le}
use Rattle.message_format.specs.Messages.{tidy}
use Rattle.c_messages.specs.Definitions.{contents_word, contents_words, contents_length, record_count, contents_in, contents_lent}

-- bytes are below 256, words below 2 ^ 32
abbrev pub Bytes : List ℕ → Type 0
Bytes b = (k : ℕ) → get_or b k 0 < 256

abbrev pub Words : List ℕ → Type 0
Words w = (k : ℕ) → get_or w k 0 < 2 ^ 32

-- the words of the bytes of words
pub words_lent : (w : List ℕ) → Words w → words_in (bytes_of w) ≡ w
unfolding words_in
words_lent w h =
    ap (words_of (bytes_of w)) (count_whole (length (bytes_of w)) (length w) (length_bytes w)) ∙ words_bytes w h

-- lent bytes are words
pub lent_words : (b : List ℕ) → Bytes b → Words (words_in b)
unfolding words_in
lent_words b h k =
    ⊎_elim (λ l. rw (get_d_words b (word_count (length b)) k l) (word_lt b k h))
    (λ l.
    let none : get_or (words_of b (word_count (length b))) k 0 ≡ 0 =
    get_or-eq_default (words_of b (word_count (length b))) 0 {n = k} (omega (arith, length_words b (word_count (length b)))) in
    rw none (omega arith))
    (lt_or_le k (word_count (length b)))

-- the bytes of words are bytes
pub made_bytes : (w : List ℕ) → Bytes (bytes_of w)
made_bytes w k =
    ⊎_elim (λ l. rw (get_or_bytes w k l) (byte_lt w k))
    (λ l.
    let none : get_or (bytes_of w) k 0 ≡ 0 = get_or-eq_default (bytes_of w) 0 {n = k} (omega (arith, length_bytes w)) in
    rw none (omega arith))
    (lt_or_le k (4 * length w))

-- the first words of words are the first bytes of their bytes
pub bytes_taken : (w : List ℕ) (n : ℕ) → n ≤ length w → take (4 * n) (bytes_of w) ≡ bytes_of (take n w)
unfolding bytes_of byte_at
bytes_taken w n l =
    tabulate_ext 0 (4 * length (take n w)) (byte_at (take n w)) (take (4 * n) (bytes_of w))
    (omega (arith, length-take (4 * n) (bytes_of w), length_bytes w, length-take n w))
    (λ k m.
    let few : k < 4 * n = omega (arith, length-take n w) in
    let word : get_or (take n w) (k / 4) 0 ≡ get_or w (k / 4) 0 = get_or-take n w (k / 4) 0 (omega arith) in
    get_or-take (4 * n) (bytes_of w) k 0 few ∙ get_or_bytes w k (omega arith) ∙ rw word)

-- bytes that have words are whole words
pub bytes_whole : (b : List ℕ) → Bytes b → 0 < length (words_in b) → (bytes_of (words_in b) ≡ b) × (length b ≡ 4 * length (words_in b))
unfolding words_in word_count
bytes_whole b bytes some =
    ⊎_elim
    (λ e.
    let four : length b ≡ 4 * (length b / 4) = omega (arith, eqb-true (length b % 4) 0 e) in
    let many : length (words_in b) ≡ length b / 4 = length_words b (word_count (length b)) ∙ rw e in
    (rw e (bytes_words b (length b / 4) four bytes), omega (arith, four, many)))
    (λ e. let none : length (words_in b) ≡ 0 = length_words b (word_count (length b)) ∙ rw e in absurd (omega (arith, some, none)))
    (either (eqb (length b % 4) 0))

-- zeros after words are zeros after their bytes
pub bytes_padded : (w : List ℕ) → length w ≤ 512 → bytes_of (padded 512 w) ≡ padded 2048 (bytes_of w)
unfolding byte_at
bytes_padded w few =
    padded_ext 2048 (bytes_of w) (bytes_of (padded 512 w)) (omega (arith, length_bytes (padded 512 w), length_padded 512 w))
    (λ k m.
    let word : get_or (padded 512 w) (k / 4) 0 ≡ get_or w (k / 4) 0 = get_or_padded_all 512 w (k / 4) few in
    get_or_bytes (padded 512 w) k (omega (arith, length_padded 512 w)) ∙ rw word (own k))
  where
    own : (k : ℕ) → byte_at w k ≡ get_or (bytes_of w) k 0
    own k =
        ⊎_elim (λ l. sym (get_or_bytes w k l))
        (λ l.
        let none : get_or (bytes_of w) k 0 ≡ 0 = get_or-eq_default (bytes_of w) 0 {n = k} (omega (arith, length_bytes w)) in
        let word : get_or w (k / 4) 0 ≡ 0 = get_or-eq_default w 0 {n = k / 4} (omega arith) in
        rw (none, word) (zero_byte (k % 4)))
        (lt_or_le k (4 * length w))
      where
        zero_byte : (j : ℕ) → 0 / 256 ^ j % 256 ≡ 0
        zero_byte j = ap (λ (x : ℕ). x % 256) (zero-div (256 ^ j))

-- ---- contents lent as bytes

module _ (b : List ℕ) (few : (contents_lent b).len ≤ 127) where
  abbrev w : List ℕ
  w = words_in b

  -- they are three words, and three for each record
  pub lent_length : length w ≡ 3 + 3 * (contents_lent b).len
  unfolding contents_lent contents_in record_count
  lent_length =
      ⊎_elim
      (λ e. rw e (omega (arith, leb-true 3 (length w) (and_left (leb 3 (length w)) (eqb (length w % 3) 0) e), eqb-true (length w % 3) 0 (and_right (leb 3 (length w)) (eqb (length w % 3) 0) e))))
      (λ e. absurd (omega (arith, counted e)))
      (either (leb 3 (length w) && eqb (length w % 3) 0))
    where
      counted : (leb 3 (length w) && eqb (length w % 3) 0) ≡ false → 128 ≤ 127
      counted e = rw e at few

  -- as words with zeros after them
  pub lent_laid : contents_words (tidy (contents_lent b)) ≡ padded 512 w
  unfolding contents_words contents_word padded tidy contents_lent contents_in head_word
  lent_laid =
      tabulate_cong 512 (contents_word (tidy (contents_lent b))) (λ k. get_or w k 0)
      (λ k l. ⊎_elim (λ m. rw (lt-ltb k 3 m) (head k m)) (λ m. rw (le-ltb k 3 m) (⊎_elim (body k m) (rest k) (lt_or_le k 384))) (lt_or_le k 3))
    where
      head : (k : ℕ) → k < 3 → head_word (tidy (contents_lent b)) k ≡ get_or w k 0
      head zero m = refl
      head (suc zero) m = refl
      head (suc (suc zero)) m = refl
      head (suc (suc (suc k))) m = absurd (omega arith)

      rest : (k : ℕ) → 384 ≤ k → cond (ltb k 384) (get_or (tidy (contents_lent b)).body (k - 3) 0) 0 ≡ get_or w k 0
      rest k m = rw (le-ltb k 384 m) (sym (get_or-eq_default w 0 {n = k} (omega (arith, lent_length))))

      body : (k : ℕ) → 3 ≤ k → k < 384 → cond (ltb k 384) (get_or (tidy (contents_lent b)).body (k - 3) 0) 0 ≡ get_or w k 0
      body k m l =
          let small : k - 3 < 381 = omega arith in
          let back : k - 3 + 3 ≡ k = omega arith in
          let len = 3 * (contents_lent b).len in
          let own : get_or (contents_lent b).body (k - 3) 0 ≡ get_or w k 0 =
          get_d_tabulate 381 (λ j. get_or w (j + 3) 0) (k - 3) 0 small ∙ ap (λ (j : ℕ). get_or w j 0) back in
          rw (lt-ltb k 384 l)
          (get_d_tabulate 381 (λ j. cond (ltb j len) (get_or (contents_lent b).body j 0) 0) (k - 3) 0 small
          ∙ ⊎_elim (λ i. rw (lt-ltb (k - 3) len i) own)
          (λ i. rw (le-ltb (k - 3) len i) (sym (get_or-eq_default w 0 {n = k} (omega (arith, lent_length)))))
          (lt_or_le (k - 3) len))

  -- the bytes are those of the words
  pub lent_whole : Bytes b → bytes_of w ≡ b
  lent_whole bytes = (bytes_whole b bytes (omega (arith, lent_length))).0

  -- and so what they say, as bytes, is what was lent, with zeros after it
  pub lent_back : Bytes b → bytes_of (contents_words (tidy (contents_lent b))) ≡ padded 2048 b
  lent_back bytes =
      ap bytes_of lent_laid ∙ bytes_padded w (omega (arith, lent_length)) ∙ ap (padded 2048) (lent_whole bytes)

-- ---- contents of words

-- every number of the contents is a word
pub record WordContents (c : Contents) : Type 0 where
  pub node_word : c.node.0 < 2 ^ 32
  pub view-word : c.view.0 < 2 ^ 32
  pub members_word : c.members < 2 ^ 32
  pub body_words : Words c.body

-- what a test chooses is below what both are
pub cond_lt : (b : Bool) (x y n : ℕ) → x < n → y < n → cond b x y < n
cond_lt true x y n h g = h
cond_lt false x y n h g = g

zero_word : 0 < 2 ^ 32
zero_word = omega arith

-- a table of words, and the first words of words
pub table_words : (n : ℕ) (f : ℕ → ℕ) → ((k : ℕ) → k < n → f k < 2 ^ 32) → Words (tabulate n f)
table_words n f h k =
    ⊎_elim (λ l. rw (get_d_tabulate n f k 0 l) (h k l)) (λ l. rw (get_or_tabulate_past n f k 0 l) zero_word) (lt_or_le k n)

pub words_taken : (l : List ℕ) (n : ℕ) → Words l → Words (take n l)
words_taken l n h k =
    ⊎_elim (λ m. rw (get_or-take n l k 0 m) (h k))
    (λ (m : n ≤ k).
    let past : get_or (take n l) k 0 ≡ 0 = get_or-eq_default (take n l) 0 {n = k} (omega (arith, length-take n l)) in
    rw past zero_word)
    (lt_or_le k n)

module _ (c : Contents) (small : WordContents c) where
  head-word : (p : ℕ) → head_word c p < 2 ^ 32
  unfolding head_word
  head-word p =
      cond_lt (eqb p 0) _ _ (2 ^ 32) small.node_word (cond_lt (eqb p 1) _ _ (2 ^ 32) small.view-word small.members_word)

  pub message_words : Words (message_of c 512)
  unfolding message_of message_word record_word
  message_words =
      table_words 512 (message_word c)
      (λ k l.
      cond_lt (ltb c.len (k / 4)) _ _ (2 ^ 32) zero_word
      (cond_lt (ltb (k % 4) 3) _ _ (2 ^ 32)
      (cond_lt (eqb (k / 4) 0) _ _ (2 ^ 32) (head-word (k % 4)) (small.body_words (3 * (k / 4 - 1) + k % 4)))
      (cond_lt (ltb (k / 4) c.len) _ _ (2 ^ 32) (omega arith) zero_word)))

  pub contents-words : Words (contents_words c)
  unfolding contents_words contents_word
  contents-words =
      table_words 512 (contents_word c)
      (λ k l.
      cond_lt (ltb k 3) _ _ (2 ^ 32) (head-word k) (cond_lt (ltb k 384) _ _ (2 ^ 32) (small.body_words (k - 3)) zero_word))

pub lent_small : (b : List ℕ) → Bytes b → WordContents (contents_lent b)
unfolding contents_lent contents_in
lent_small b bytes =
    let w = lent_words b bytes in
    record { node_word = w 0; view-word = w 1; members_word = w 2; body_words = table_words 381 (λ k. get_or (words_in b) (k + 3) 0) (λ k l. w (k + 3)) }

pub read_small : (w : List ℕ) → Words w → WordContents (contents_of w)
unfolding contents_of body_of body_word
read_small w words =
    record {
      node_word = words 0;
      view-word = words 1;
      members_word = words 2;
      body_words = table_words 381 (body_word w) (λ k l. cond_lt (ltb k (3 * following w)) _ _ (2 ^ 32) (words (4 * place w (k / 3 + 1) + k % 3)) zero_word);
    }

-- ---- the contents of a message, as words and back

module _ (m : List ℕ) where
  abbrev c : Contents
  c = contents_of m

  abbrev n : ℕ
  n = contents_length (contents_of m)

  pub read_few : n ≤ 384
  unfolding contents_of
  read_few = omega (arith, following_le m)

  counted : (l : ℕ) → l ≡ n → record_count l ≡ following m
  unfolding record_count contents_of
  counted l e =
      let some : 3 ≤ l = omega arith in
      let whole : l % 3 ≡ 0 = omega arith in
      rw (le-leb 3 l some, eq-eqb (l % 3) 0 whole) (omega arith)

  body_past : (k : ℕ) → 3 * following m ≤ k → body_word m k ≡ 0
  unfolding body_word
  body_past k l = rw (le-ltb k (3 * following m) l)

  -- the words that say something, lent again, say the same
  pub read_lent : (b : List ℕ) → words_in b ≡ take n (contents_words c) → contents_lent b ≡ c
  unfolding contents_lent contents_in contents_words contents_word head_word contents_of body_of
  read_lent b e =
      rw (first 0 (omega arith), first 1 (omega arith), first 2 (omega arith), count, body)
    where
      full : length (contents_words c) ≡ 512
      full = length_tabulate 512 (contents_word c)

      word : (j : ℕ) → j < n → get_or (words_in b) j 0 ≡ contents_word c j
      word j l =
          ap (λ (x : List ℕ). get_or x j 0) e ∙ get_or-take n (contents_words c) j 0 l
          ∙ get_d_tabulate 512 (contents_word c) j 0 (omega (arith, read_few))

      first : (j : ℕ) → j < 3 → get_or (words_in b) j 0 ≡ head_word c j
      first j l = word j (omega arith) ∙ rw (lt-ltb j 3 l)

      long : length (words_in b) ≡ n
      long = ap length e ∙ omega (arith, length-take n (contents_words c), full, read_few)

      count : record_count (length (words_in b)) ≡ following m
      count = counted (length (words_in b)) long

      inside : (k : ℕ) → k < 381 → k < 3 * following m → get_or (words_in b) (k + 3) 0 ≡ body_word m k
      inside k l i =
          let back : k + 3 - 3 ≡ k = omega arith in
          word (k + 3) (omega arith)
          ∙ rw (le-ltb (k + 3) 3 (omega arith), lt-ltb (k + 3) 384 (omega arith), back) (get_d_tabulate 381 (body_word m) k 0 l)

      past : (k : ℕ) → k < 381 → 3 * following m ≤ k → get_or (words_in b) (k + 3) 0 ≡ body_word m k
      past k l i =
          get_or-eq_default (words_in b) 0 {n = k + 3} (omega (arith, long)) ∙ sym (body_past k i)

      body : tabulate 381 (λ k. get_or (words_in b) (k + 3) 0) ≡ tabulate 381 (body_word m)
      body = tabulate_cong 381 (λ k. get_or (words_in b) (k + 3) 0) (body_word m) (λ k l. ⊎_elim (inside k l) (past k l) (lt_or_le k (3 * following m)))
