-- The message that the writer makes of contents c, of r records with len + 1 ≤ r: its words, its chain, which is record after
-- record, and the contents that it gives.
use Rattle.std.specs.Prelude.{ℕ, ◌+◌, ◌*◌, ◌-◌, ◌/◌, ◌%◌, ◌≤◌, ◌<◌, ◌⊎◌, Bool, true, false, ◌≡◌, refl, ltb, length, get_or}
use Rattle.std.proofs.Common.{le_refl, inl, inr, ◌∙◌, lt-ltb, le-ltb, eq-eqb, ne_eqb, le-leb}
use native.Mathlib.Omega.{arith}
use Rattle.std.proofs.Math.Logic.{⊎_elim}
use Rattle.std.proofs.Math.Bool.{cond}
use Rattle.std.proofs.Math.Path.{sym, ap}
use Rattle.base_laws.specs.Bools.{lt_or_le, and_both}
use Rattle.base_laws.specs.Tables.{length_tabulate, get_d_tabulate, get_or_tabulate_past, tabulate_cong}
use Rattle.message_format.specs.declared.Contents.{Contents}
use Rattle.message_format.specs.Definitions.{next, place, following, row5, row8, body_word, body_of, contents_of, head_word, record_word, message_word, message_of}
use Rattle.message_format.specs.Straight.{straight_place, straight_following, straight_row8}
use Rattle.message_format.specs.Messages.{tidy}

-- word p of record i
word-at : (c : Contents) (i p : ℕ) → p < 4
    → message_word c (4 * i + p) ≡ cond (ltb c.len i) 0 (cond (ltb p 3) (record_word c i p) (cond (ltb i c.len) (i + 1) 0))
unfolding message_word
word-at c i p l =
    let d : (4 * i + p) / 4 ≡ i = omega arith in
    let m : (4 * i + p) % 4 ≡ p = omega arith in
    rw (d, m)

-- the words after the message
word_past : (c : Contents) (k : ℕ) → 4 * (c.len + 1) ≤ k → message_word c k ≡ 0
unfolding message_word
word_past c k l = rw (lt-ltb c.len (k / 4) (omega arith))

-- the next index of a record that another follows, and of any other
word_next : (c : Contents) (i : ℕ) → i < c.len → message_word c (4 * i + 3) ≡ i + 1
word_next c i l = word-at c i 3 (le_refl 4) ∙ rw (le-ltb c.len i (omega arith), lt-ltb i c.len l)

word_last : (c : Contents) (i : ℕ) → c.len ≤ i → message_word c (4 * i + 3) ≡ 0
word_last c i l = word-at c i 3 (le_refl 4) ∙ go (ltb c.len i)
  where
    go : (t : Bool) → cond t 0 (cond (ltb i c.len) (i + 1) 0) ≡ 0
    go true = refl
    go false = rw (le-ltb i c.len l)

-- words 0 to 2 of the head and of the records after it
word_head : (c : Contents) (p : ℕ) → p < 3 → message_word c p ≡ head_word c p
unfolding record_word
word_head c p l =
    let e : p ≡ 4 * 0 + p = omega arith in
    ap (message_word c) e
    ∙ word-at c 0 p (omega arith)
    ∙ rw (le-ltb c.len 0 (omega arith), lt-ltb p 3 l)

word_record : (c : Contents) (i p : ℕ) → i < c.len → p < 3 → message_word c (4 * (i + 1) + p) ≡ get_or c.body (3 * i + p) 0
unfolding record_word
word_record c i p l m =
    let back : i + 1 - 1 ≡ i = omega arith in
    word-at c (i + 1) p (omega arith)
    ∙ rw (le-ltb c.len (i + 1) (omega arith), lt-ltb p 3 m, ne_eqb (i + 1) 0 (λ e. omega arith), back)

-- the written message
module _ (c : Contents) (r : ℕ) (enough : c.len + 1 ≤ r) where
  -- each of its words, and 0 past its end
  written_word : (k : ℕ) → get_or (message_of c (4 * r)) k 0 ≡ message_word c k
  unfolding message_of
  written_word k =
      ⊎_elim (λ l. get_d_tabulate (4 * r) (message_word c) k 0 l)
      (λ l. get_or_tabulate_past (4 * r) (message_word c) k 0 l ∙ sym (word_past c k (omega arith)))
      (lt_or_le k (4 * r))

  written_length : length (message_of c (4 * r)) ≡ 4 * r
  unfolding message_of
  written_length = length_tabulate (4 * r) (message_word c)

  written_on : (i : ℕ) → i < c.len → next (message_of c (4 * r)) i ≡ i + 1
  written_on i l = written_word (4 * i + 3) ∙ word_next c i l

  written_end : next (message_of c (4 * r)) c.len ≡ 0
  written_end = written_word (4 * c.len + 3) ∙ word_last c c.len (le_refl c.len)

  pub written_place : (j : ℕ) → j ≤ c.len → place (message_of c (4 * r)) j ≡ j
  written_place = straight_place (message_of c (4 * r)) c.len written_on written_end

  module _ (few : c.len ≤ 127) where
    pub written_following : following (message_of c (4 * r)) ≡ c.len
    written_following = straight_following (message_of c (4 * r)) c.len written_on written_end few

    pub written_row8 : row8 (message_of c (4 * r)) ≡ true
    written_row8 =
        straight_row8 (message_of c (4 * r)) c.len written_on written_end few
        (omega (arith, written_length))

    pub written_row5 : r ≤ 128 → row5 (message_of c (4 * r)) ≡ true
    unfolding row5
    written_row5 l =
        rw written_length
        (and_both (and_both (le-leb 1 (4 * r) (omega arith)) (le-leb (4 * r) 512 (omega arith))) (eq-eqb (4 * r % 4) 0 (omega arith)))

    -- word k of its body
    written_body_word : (k : ℕ) → body_word (message_of c (4 * r)) k ≡ cond (ltb k (3 * c.len)) (get_or c.body k 0) 0
    unfolding body_word
    written_body_word k = rw written_following (go (lt_or_le k (3 * c.len)))
      where
        go : (k < 3 * c.len) ⊎ (3 * c.len ≤ k)
            → cond (ltb k (3 * c.len)) (get_or (message_of c (4 * r)) (4 * place (message_of c (4 * r)) (k / 3 + 1) + k % 3) 0) 0
            ≡ cond (ltb k (3 * c.len)) (get_or c.body k 0) 0
        go (inl l) =
            let back : 3 * (k / 3) + k % 3 ≡ k = omega arith in
            ap (λ (x : ℕ). cond (ltb k (3 * c.len)) x 0)
            (rw (written_place (k / 3 + 1) (omega arith), written_word, word_record c (k / 3) (k % 3) (omega arith) (omega arith), back))
        go (inr l) = rw (le-ltb k (3 * c.len) l)

    pub written_body : body_of (message_of c (4 * r)) ≡ (tidy c).body
    unfolding body_of tidy
    written_body =
        tabulate_cong 381 (body_word (message_of c (4 * r))) (λ k. cond (ltb k (3 * c.len)) (get_or c.body k 0) 0) (λ k l. written_body_word k)

  pub written_node : get_or (message_of c (4 * r)) 0 0 ≡ c.node.0
  unfolding head_word
  written_node = written_word 0 ∙ word_head c 0 (omega arith)

  pub written_view : get_or (message_of c (4 * r)) 1 0 ≡ c.view.0
  unfolding head_word
  written_view = written_word 1 ∙ word_head c 1 (omega arith)

  pub written_members : get_or (message_of c (4 * r)) 2 0 ≡ c.members
  unfolding head_word
  written_members = written_word 2 ∙ word_head c 2 (omega arith)

  -- what it says is what the contents say
  pub written_contents : c.len ≤ 127 → contents_of (message_of c (4 * r)) ≡ tidy c
  unfolding contents_of tidy
  written_contents few = rw (written_node, written_view, written_members, written_following few, written_body few)
