-- A desk of 65536 bytes: its words and the words of a slot; and what a message stored in a slot's bytes makes of both.
use Rattle.std.specs.Prelude.{◌≡◌, List, ℕ, ◌+◌, ◌*◌, ◌-◌, ◌/◌, ◌%◌, ◌^◌, ◌≤◌, ◌<◌, length, take, drop, replicate}
use Rattle.std.proofs.Math.Path.{sym, ap}
use Rattle.std.proofs.Common.{◌∙◌, subst, add-zero}
use Rattle.std.proofs.Math.Logic.{⊎_elim}
use native.Mathlib.Omega.{arith}
use Rattle.std.proofs.Math.ListN.{get_or, get_or-eq_default, get_or-replicate, length-replicate, length-take, length-drop}
use borrow.Rule.Slice.PartMut.{put_mid}
use Rattle.base_laws.specs.Bools.{lt_or_le}
use Rattle.base_laws.specs.Definitions.{part, padded, replaced}
use Rattle.base_laws.specs.Tables.{tabulate_ext, length_part, get_d_part, length_padded, get_or_padded, padded_ext, length_replaced, get_or_replaced_low, get_or_replaced, get_or_replaced_high, put_replaced}
use Rattle.base_bytes.specs.Definitions.{word_at, words_of, bytes_of}
use Rattle.base_bytes.specs.Words.{length_words, length_bytes, get_d_words, word_lt, words_bytes, bytes_words}
use Rattle.base_lent.specs.Definitions.{words_in}
use Rattle.base_lent.specs.Lent.{words_of_bytes, bytes_of_words, all_words}
use Rattle.report_views.specs.Definitions.{slot}
use Rattle.report_desk.specs.Definitions.{desk_with}
use Rattle.report_desk.specs.Desk.{desk_replaced}

-- ---- words of bytes

-- words of the same bytes
word_as : (a b : List ℕ) (i j : ℕ) → ((k : ℕ) → k < 4 → get_or a (4 * i + k) 0 ≡ get_or b (4 * j + k) 0) → word_at a i ≡ word_at b j
unfolding word_at
word_as a b i j h =
    let low : get_or a (4 * i) 0 ≡ get_or b (4 * j) 0 =
    ap (λ (x : ℕ). get_or a x 0) (sym (add-zero (4 * i))) ∙ h 0 (omega arith) ∙ ap (λ (x : ℕ). get_or b x 0) (add-zero (4 * j)) in
    rw (low, h 1 (omega arith), h 2 (omega arith), h 3 (omega arith))

-- a word past the end
word_past : (b : List ℕ) (i : ℕ) → length b ≤ 4 * i → word_at b i ≡ 0
unfolding word_at
word_past b i h =
    let a0 : get_or b (4 * i) 0 ≡ 0 = get_or-eq_default b 0 h in
    let a1 : get_or b (4 * i + 1) 0 ≡ 0 = get_or-eq_default b 0 (omega arith) in
    let a2 : get_or b (4 * i + 2) 0 ≡ 0 = get_or-eq_default b 0 (omega arith) in
    let a3 : get_or b (4 * i + 3) 0 ≡ 0 = get_or-eq_default b 0 (omega arith) in
    rw (a0, a1, a2, a3)

-- ---- the words of a desk

pub desk_bytes : (b : List ℕ) → length (words_in b) ≡ 16384 → length b ≡ 65536
desk_bytes b e = bytes_of_words b 16383 e

module _ (b : List ℕ) (e : length b ≡ 65536) where
  pub desk_length : length (words_in b) ≡ 16384
  desk_length = words_of_bytes b 16384 e

  pub desk_word : (k : ℕ) → k < 16384 → get_or (words_in b) k 0 ≡ word_at b k
  desk_word k l = ap (λ (d : List ℕ). get_or d k 0) (sym (all_words b 16384 e)) ∙ get_d_words b 16384 k l

  -- a word fits 32 bits where the bytes fit 8
  pub desk_word_lt : ((k : ℕ) → get_or b k 0 < 256) → (k : ℕ) → k < 16384 → get_or (words_in b) k 0 < 2 ^ 32
  desk_word_lt h k l = rw (desk_word k l) (word_lt b k h)

  -- the words of node n's slot are those of its bytes
  pub slot_bytes : (n : ℕ) → n < 32 → words_of (part (2048 * n) (2048 * n + 2048) b) 512 ≡ slot (words_in b) n
  unfolding slot words_of
  slot_bytes n l =
      sym (tabulate_ext 0 512 (word_at (part (2048 * n) (2048 * n + 2048) b)) (slot (words_in b) n)
      (length_part (512 * n) (512 * n + 512) (words_in b) (omega (arith, desk_length)) ∙ omega arith)
      (λ k m.
      get_d_part (512 * n) (512 * n + 512) (words_in b) k 0 (omega arith)
      ∙ desk_word (512 * n + k) (omega arith)
      ∙ word_as b (part (2048 * n) (2048 * n + 2048) b) (512 * n + k) k (λ j i. byte k j m i)))
    where
      byte : (k j : ℕ) → k < 512 → j < 4 → get_or b (4 * (512 * n + k) + j) 0 ≡ get_or (part (2048 * n) (2048 * n + 2048) b) (4 * k + j) 0
      byte k j m i =
          let at : 4 * (512 * n + k) + j ≡ 2048 * n + (4 * k + j) = omega arith in
          ap (λ (x : ℕ). get_or b x 0) at ∙ sym (get_d_part (2048 * n) (2048 * n + 2048) b (4 * k + j) 0 (omega arith))

-- ---- a message stored in a slot

module _ (b : List ℕ) (n : ℕ) (m : List ℕ) (e : length b ≡ 65536) (l : n < 32) (whole : length m % 4 ≡ 0) (few : length m ≤ 2048) where
  -- the bytes afterwards
  abbrev placed_bytes : List ℕ
  placed_bytes = replaced (2048 * n) (padded 2048 m) b

  long : length placed_bytes ≡ 65536
  long = length_replaced (2048 * n) (padded 2048 m) b (omega (arith, length_padded 2048 m)) ∙ e

  -- words before the slot, in it, and after it
  low : (i : ℕ) → i < 512 * n → get_or (replaced (512 * n) (padded 512 (words_in m)) (words_in b)) i 0 ≡ word_at placed_bytes i
  low i h =
      get_or_replaced_low (512 * n) (padded 512 (words_in m)) (words_in b) i 0 (omega (arith, desk_length b e)) h
      ∙ desk_word b e i (omega arith)
      ∙ word_as b placed_bytes i i (λ k j. sym (get_or_replaced_low (2048 * n) (padded 2048 m) b (4 * i + k) 0 (omega arith) (omega arith)))

  high : (i : ℕ) → 512 * n + 512 ≤ i → i < 16384
      → get_or (replaced (512 * n) (padded 512 (words_in m)) (words_in b)) i 0 ≡ word_at placed_bytes i
  high i h r =
      get_or_replaced_high (512 * n) (padded 512 (words_in m)) (words_in b) i 0 (omega (arith, desk_length b e)) (omega (arith, length_padded 512 (words_in m)))
      ∙ desk_word b e i r
      ∙ word_as b placed_bytes i i (λ k j. sym (get_or_replaced_high (2048 * n) (padded 2048 m) b (4 * i + k) 0 (omega arith) (omega (arith, length_padded 2048 m))))

  message-word : (j : ℕ) → get_or (words_in m) j 0 ≡ word_at m j
  message-word j =
      let q : length m ≡ 4 * (length m / 4) = omega arith in
      ap (λ (d : List ℕ). get_or d j 0) (sym (all_words m (length m / 4) q))
      ∙ ⊎_elim (λ h. get_d_words m (length m / 4) j h)
      (λ h. get_or-eq_default (words_of m (length m / 4)) 0 (omega (arith, length_words m (length m / 4))) ∙ sym (word_past m j (omega arith)))
      (lt_or_le j (length m / 4))

  inside : (j : ℕ) → j < 512
      → get_or (replaced (512 * n) (padded 512 (words_in m)) (words_in b)) (512 * n + j) 0 ≡ word_at placed_bytes (512 * n + j)
  inside j h =
      get_or_replaced (512 * n) (padded 512 (words_in m)) (words_in b) j 0 (omega (arith, desk_length b e)) (omega (arith, length_padded 512 (words_in m)))
      ∙ get_or_padded 512 (words_in m) j h
      ∙ message-word j
      ∙ word_as m placed_bytes j (512 * n + j) byte
    where
      byte : (k : ℕ) → k < 4 → get_or m (4 * j + k) 0 ≡ get_or placed_bytes (4 * (512 * n + j) + k) 0
      byte k i =
          let at : 2048 * n + (4 * j + k) ≡ 4 * (512 * n + j) + k = omega arith in
          sym (get_or_padded 2048 m (4 * j + k) (omega arith))
          ∙ sym (get_or_replaced (2048 * n) (padded 2048 m) b (4 * j + k) 0 (omega arith) (omega (arith, length_padded 2048 m)))
          ∙ ap (λ (x : ℕ). get_or placed_bytes x 0) at

  words_placed : words_of placed_bytes 16384 ≡ desk_with (words_in b) n (words_in m)
  unfolding words_of
  words_placed =
      sym (desk_replaced (words_in b) n (words_in m)
      ∙ tabulate_ext 0 16384 (word_at placed_bytes) (replaced (512 * n) (padded 512 (words_in m)) (words_in b))
      (length_replaced (512 * n) (padded 512 (words_in m)) (words_in b) (omega (arith, length_padded 512 (words_in m), desk_length b e)) ∙ desk_length b e)
      (λ i r. ⊎_elim (low i) (λ h. ⊎_elim (λ g. at i h g) (λ g. high i g r) (lt_or_le i (512 * n + 512))) (lt_or_le i (512 * n))))
    where
      at : (i : ℕ) → 512 * n ≤ i → i < 512 * n + 512
          → get_or (replaced (512 * n) (padded 512 (words_in m)) (words_in b)) i 0 ≡ word_at placed_bytes i
      at i h g =
          let q : 512 * n + (i - 512 * n) ≡ i = omega arith in
          sym (ap (λ (x : ℕ). get_or (replaced (512 * n) (padded 512 (words_in m)) (words_in b)) x 0) q)
          ∙ inside (i - 512 * n) (omega arith)
          ∙ ap (word_at placed_bytes) q

  -- what the loan of the slot's bytes leaves in the desk
  module _ (s : List ℕ) (f : s ≡ padded 2048 m) where
    put_placed : put_mid (2048 * n) (2048 * n + 2048 - 2048 * n) b s ≡ placed_bytes
    put_placed =
        ap (put_mid (2048 * n) (2048 * n + 2048 - 2048 * n) b) f
        ∙ put_replaced (2048 * n) (2048 * n + 2048 - 2048 * n) b (padded 2048 m) (omega (arith, length_padded 2048 m))

    words_put : words_in (put_mid (2048 * n) (2048 * n + 2048 - 2048 * n) b s) ≡ desk_with (words_in b) n (words_in m)
    words_put = ap words_in put_placed ∙ sym (all_words placed_bytes 16384 long) ∙ words_placed

    bytes_put : ((k : ℕ) → get_or (put_mid (2048 * n) (2048 * n + 2048 - 2048 * n) b s) k 0 < 256)
        → put_mid (2048 * n) (2048 * n + 2048 - 2048 * n) b s ≡ bytes_of (desk_with (words_in b) n (words_in m))
    bytes_put h =
        put_placed
        ∙ sym (bytes_words placed_bytes 16384 long (λ k. subst (λ (x : List ℕ). get_or x k 0 < 256) put_placed (h k)))
        ∙ ap bytes_of words_placed

-- the same of a message given as words
module _ (b : List ℕ) (n : ℕ) (w : List ℕ) (e : length b ≡ 65536) (l : n < 32) (few : length w ≤ 512) (words : (k : ℕ) → get_or w k 0 < 2 ^ 32)
    (s : List ℕ) (f : s ≡ padded 2048 (bytes_of w)) where
  back : words_in (bytes_of w) ≡ w
  back = sym (all_words (bytes_of w) (length w) (length_bytes w)) ∙ words_bytes w words

  whole : length (bytes_of w) % 4 ≡ 0
  whole = omega (arith, length_bytes w)

  pub words-stored : words_in (put_mid (2048 * n) (2048 * n + 2048 - 2048 * n) b s) ≡ desk_with (words_in b) n w
  words-stored =
      words_put b n (bytes_of w) e l whole (omega (arith, length_bytes w)) s f ∙ ap (desk_with (words_in b) n) back

  pub bytes_stored : ((k : ℕ) → get_or (put_mid (2048 * n) (2048 * n + 2048 - 2048 * n) b s) k 0 < 256)
      → put_mid (2048 * n) (2048 * n + 2048 - 2048 * n) b s ≡ bytes_of (desk_with (words_in b) n w)
  bytes_stored h =
      bytes_put b n (bytes_of w) e l whole (omega (arith, length_bytes w)) s f h ∙ ap (λ (x : List ℕ). bytes_of (desk_with (words_in b) n x)) back

-- zeros have a zero at any place
get_or-replicate_any : (n i a : ℕ) → get_or (replicate n a) i a ≡ a
get_or-replicate_any n i a =
    ⊎_elim (λ h. get_or-replicate n i a a h) (λ h. get_or-eq_default (replicate n a) a (omega (arith, length-replicate n a))) (lt_or_le i n)

-- ---- a message copied to a slot's bytes

-- the first k bytes are the message's, with zeros after it
pub record CopiedSoFar (m s : List ℕ) (k : ℕ) : Type 0 where
  pub few : length m ≤ 2048
  pub room : length s ≡ 2048
  pub same : (i : ℕ) → i < k → get_or s i 0 ≡ get_or m i 0

-- the message's bytes p are put to the front
pub copied_front : (m s p : List ℕ) (k : ℕ) → length m ≤ 2048 → length s ≡ 2048 → k ≡ length m → p ≡ m → CopiedSoFar m (put_mid 0 (k - 0) s p) k
copied_front m s p k f r e q =
    let put : put_mid 0 (k - 0) s p ≡ replaced 0 m s =
    ap (put_mid 0 (k - 0) s) q ∙ put_replaced 0 (k - 0) s m (omega arith) in
    record {
      few = f;
      room = ap length put ∙ length_replaced 0 m s (omega arith) ∙ r;
      same =
          λ i l.
          let at : 0 + i ≡ i = omega arith in
          ap (λ (x : List ℕ). get_or x i 0) put
          ∙ sym (ap (λ (x : ℕ). get_or (replaced 0 m s) x 0) at)
          ∙ get_or_replaced 0 m s i 0 (omega arith) (omega arith);
    }

-- and zeros q after them
pub copied_all : {m s : List ℕ} {k : ℕ} → CopiedSoFar m s k → k ≡ length m → (q : List ℕ) → q ≡ replicate (length (take (length s - k) (drop k s))) 0
    → put_mid k (length s - k) s q ≡ padded 2048 m
copied_all {m} {s} {k} c e q z =
    let long : length q ≡ length s - k =
    ap length z ∙ (length-replicate (length (take (length s - k) (drop k s))) 0 ∙ omega (arith, length-take (length s - k) (drop k s), length-drop k s)) in
    put_replaced k (length s - k) s q long
    ∙ padded_ext 2048 m (replaced k q s) (length_replaced k q s (omega (arith, c.few, c.room)) ∙ c.room)
    (λ i l. ⊎_elim
    (λ h. get_or_replaced_low k q s i 0 (omega (arith, c.few, c.room)) h ∙ c.same i h)
    (λ h.
    let at : k + (i - k) ≡ i = omega arith in
    sym (ap (λ (x : ℕ). get_or (replaced k q s) x 0) at)
    ∙ (get_or_replaced k q s (i - k) 0 (omega (arith, c.few, c.room)) (omega (arith, c.room))
    ∙ (ap (λ (x : List ℕ). get_or x (i - k) 0) z ∙ (get_or-replicate_any (length (take (length s - k) (drop k s))) (i - k) 0 ∙ sym (get_or-eq_default m 0 (omega arith))))))
    (lt_or_le i k))
