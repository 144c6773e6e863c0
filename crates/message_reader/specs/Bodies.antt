-- The body of a message's contents, gathered record by record along the chain.
use Rattle.std.specs.Prelude.{◌≡◌, true, List, ℕ, ◌+◌, ◌*◌, ◌/◌, ◌%◌, ◌≤◌, ◌<◌, length, set, replicate}
use Rattle.std.proofs.Common.{sym, ◌∙◌, ⊎_elim, zero-le, add-zero, arith, lt-ltb, le-ltb, eq-eqb, eqb-true}
use Rattle.std.proofs.Math.Path.{ap, ap₂, subst⁻¹}
use Rattle.std.proofs.Math.ListN.{get_or}
use Rattle.std.proofs.lemmas.List.{length-replicate, get_or-replicate}
use Rattle.base_laws.specs.Bools.{lt_or_le}
use Rattle.base_laws.specs.Below.{any_none_of}
use Rattle.base_laws.specs.Tables.{filled, filled_none, filled_more, tabulate_ext, length_filled, get_or_filled, get_or_filled_rest}
use Rattle.message_format.specs.Definitions.{next, place, following, row8, body_word, body_of, contents_of}
use Rattle.message_format.specs.Shorthands.{records}
use Rattle.message_format.specs.Chain.{following_le}
use Rattle.message_format.specs.declared.Contents.{Contents}
use Rattle.message_chain.specs.declared.Record.{Record}
use Rattle.message_chain.specs.declared.Step.{Step}
use Rattle.message_chain.specs.Steps.{step_from, record_inside}
use Rattle.message_reader.specs.Walks.{SizedMessage, ends_at, place_next, place_inside, following_at, following_open, following_ends}

-- word k of the records that follow the head on the chain, three words a record
unfoldable pub chain_word : List ℕ → ℕ → ℕ
chain_word w k = get_or w (4 * place w (k / 3 + 1) + k % 3) 0

-- the body after n records have been stored
unfoldable pub body_read : List ℕ → ℕ → List ℕ
body_read w n = filled (3 * n) (chain_word w) (replicate 381 0)

pub gathered_none : (w : List ℕ) → replicate 381 0 ≡ body_read w 0
unfolding body_read
gathered_none w = sym (filled_none (chain_word w) (replicate 381 0))

pub length_gathered : (w : List ℕ) (n : ℕ) → n ≤ 127 → length (body_read w n) ≡ 381
unfolding body_read
length_gathered w n l =
    length_filled (3 * n) (chain_word w) (replicate 381 0) (omega (arith, length-replicate {A = ℕ} 381 0))
    ∙ length-replicate {A = ℕ} 381 0

-- word p of the record n + 1 steps along
chain-word : (w : List ℕ) (n p at : ℕ) → p < 3 → at ≡ place w (n + 1) → get_or w (4 * at + p) 0 ≡ chain_word w (3 * n + p)
unfolding chain_word
chain-word w n p at l e =
    let q : (3 * n + p) / 3 ≡ n = omega arith in
    let r : (3 * n + p) % 3 ≡ p = omega arith in
    rw (e, q, r)

-- a body in which record j has the words of the message's record i
abbrev pub record_stored : List ℕ → List ℕ → ℕ → ℕ → List ℕ
record_stored w b j i =
    set (set (set b (3 * j) (get_or w (4 * i) 0)) (3 * j + 1) (get_or w (4 * i + 1) 0)) (3 * j + 2) (get_or w (4 * i + 2) 0)

-- a body in which record j is r
abbrev pub record_put : List ℕ → ℕ → Record → List ℕ
record_put b j r = set (set (set b (3 * j) r.word0) (3 * j + 1) r.word1) (3 * j + 2) r.word2

-- a turn: the three words of a record are stored
pub gathered_more : (w : List ℕ) (n at : ℕ) → n < 127 → at ≡ place w (n + 1)
    → record_stored w (body_read w n) n at ≡ body_read w (n + 1)
unfolding body_read
gathered_more w n at l e =
    ap (λ (b : List ℕ). set (set b (3 * n + 1) (get_or w (4 * at + 1) 0)) (3 * n + 2) (get_or w (4 * at + 2) 0))
    (store (3 * n) (3 * n + 1) (get_or w (4 * at) 0) (omega arith) (omega arith) first)
    ∙ ap (λ (b : List ℕ). set b (3 * n + 2) (get_or w (4 * at + 2) 0))
    (store (3 * n + 1) (3 * n + 2) (get_or w (4 * at + 1) 0) (omega arith) (omega arith) (chain-word w n 1 at (omega arith) e))
    ∙ store (3 * n + 2) (3 * (n + 1)) (get_or w (4 * at + 2) 0) (omega arith) (omega arith) (chain-word w n 2 at (omega arith) e)
  where
    first : get_or w (4 * at) 0 ≡ chain_word w (3 * n)
    first = simp add-zero at (chain-word w n 0 at (omega arith) e)

    store : (i j v : ℕ) → i < 381 → j ≡ i + 1 → v ≡ chain_word w i
        → set (filled i (chain_word w) (replicate 381 0)) i v ≡ filled j (chain_word w) (replicate 381 0)
    store i j v h next same =
        ap (λ (x : ℕ). set (filled i (chain_word w) (replicate 381 0)) i x) same
        ∙ filled_more i (chain_word w) (replicate 381 0) (omega (arith, length-replicate {A = ℕ} 381 0))
        ∙ ap (λ (k : ℕ). filled k (chain_word w) (replicate 381 0)) (sym next)

-- all records that follow the head are stored
pub gathered_all : (w : List ℕ) → body_read w (following w) ≡ body_of w
unfolding body_read body_of body_word chain_word
gathered_all w =
    tabulate_ext 0 381 (body_word w) (body_read w (following w)) (length_gathered w (following w) (following_le w))
    (λ k h. ⊎_elim (filled_in k) (blank k h) (lt_or_le k (3 * following w)))
  where
    filled_in : (k : ℕ) → k < 3 * following w → get_or (body_read w (following w)) k 0 ≡ body_word w k
    filled_in k l = get_or_filled (3 * following w) (chain_word w) (replicate 381 0) k 0 l ∙ rw (lt-ltb k (3 * following w) l)

    blank : (k : ℕ) → k < 381 → 3 * following w ≤ k → get_or (body_read w (following w)) k 0 ≡ body_word w k
    blank k h l =
        get_or_filled_rest (3 * following w) (chain_word w) (replicate 381 0) k 0 l
        ∙ get_or-replicate 381 k 0 0 h
        ∙ rw (le-ltb k (3 * following w) l)

-- ---- the walk that gathers

-- n records have been stored, and the next one is record at, or the chain has ended
pub record Gathering (w body : List ℕ) (n at : ℕ) : Type 0 where
  pub few : n ≤ following w
  pub here : at ≡ place w (n + 1)
  pub so_far : body ≡ body_read w n

-- the head, as a reader reaches it
pub head_words : (w : List ℕ) (first : Step) → SizedMessage w → first ≡ step_from w 0
    → first.reached ≡ record { word0 = get_or w 0 0; word1 = get_or w 1 0; word2 = get_or w 2 0 }
head_words w first s e = ap (λ (x : Step). x.reached) e ∙ record_inside w 0 (omega (arith, s.some))

-- a head with a body of n records
abbrev pub contents_read : Record → ℕ → List ℕ → Contents
contents_read h n b = record { node = record { 0 = h.word0 }; view = record { 0 = h.word1 }; members = h.word2; len = n; body = b }

pub gathering_start : (w : List ℕ) (first : Step) → first ≡ step_from w 0 → Gathering w (replicate 381 0) 0 first.next
unfolding place
gathering_start w first e = record { few = zero-le; here = ap (λ (s : Step). s.next) e; so_far = gathered_none w }

module _ (w body : List ℕ) (n at : ℕ) (s : SizedMessage w) (h : row8 w ≡ true) (g : Gathering w body n at) where
  -- the chain ends at step n just where the next index is 0
  next_at : at ≡ next w (place w n)
  next_at = g.here ∙ place_next w n

  -- the chain goes on: there is a record to store, and room for it
  pub gathering_room : (at ≡ 0 → ⊥) → (n < following w) × (at < records w)
  gathering_room goes =
      let less : n < following w = ⊎_elim (λ l. l) (λ l. absurd (goes (next_at ∙ over l))) (lt_or_le n (following w)) in
      (less, subst⁻¹ (λ (x : ℕ). x < records w) g.here (place_inside w s h (n + 1) (omega arith)).0)
    where
      over : following w ≤ n → next w (place w n) ≡ 0
      over l =
          let few = g.few in
          let e : n ≡ following w = omega arith in
          eqb-true (next w (place w n)) 0 (subst⁻¹ (λ (x : ℕ). ends_at w x ≡ true) e (following_ends w s h))

  pub gathering_end : at ≡ 0 → n ≡ following w
  gathering_end z =
      sym (following_at w n (let few = g.few in omega (arith, following_le w))
      (any_none_of n (ends_at w) (λ j l. following_open w j (let few = g.few in omega arith)))
      (eq-eqb (next w (place w n)) 0 (sym next_at ∙ z)))

  pub gathering_more : (at ≡ 0 → ⊥) → (b : List ℕ) (found : Step) → b ≡ record_put body n found.reached → found ≡ step_from w at
      → Gathering w b (n + 1) found.next
  gathering_more goes b found d e =
      let room = (gathering_room goes).0 in
      let stored : b ≡ record_stored w body n at =
      d ∙ ap (record_put body n) (ap (λ (s : Step). s.reached) e ∙ record_inside w at (gathering_room goes).1) in
      record {
        few = omega arith;
        here = ap (λ (s : Step). s.next) e ∙ ap (next w) g.here ∙ sym (place_next w (n + 1));
        so_far =
            stored ∙ ap (λ (x : List ℕ). record_stored w x n at) g.so_far ∙ gathered_more w n at (omega (arith, following_le w)) g.here;
      }

  -- what the message says, at the end of the chain
  pub gathering_contents : at ≡ 0 → (first : Step) → first ≡ step_from w 0 → contents_read first.reached n body ≡ contents_of w
  unfolding contents_of
  gathering_contents z first e =
      ap (λ (h : Record). contents_read h n body) (head_words w first s e)
      ∙ ap₂ (contents_read (record { word0 = get_or w 0 0; word1 = get_or w 1 0; word2 = get_or w 2 0 })) (gathering_end z)
      (g.so_far ∙ ap (body_read w) (gathering_end z) ∙ gathered_all w)
