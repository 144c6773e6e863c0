-- The ends of a report's logs as numbers. The list grows by one record of the body at a time.
use Rattle.std.specs.Prelude.{ℕ, ◌+◌, ◌*◌, ◌-◌, ◌<◌, ◌≤◌, Bool, cond, ◌&&◌, List, ◌⊎◌, ◌≡◌, refl, leb, ltb, length, get_or, set, drop, replicate}
use Rattle.std.proofs.Common.{inl, inr, sym, ◌∙◌, add-one, length-set, length-take, length-drop, get_or-set_same, get_or-set_other}
use Rattle.std.proofs.Math.Logic.{⊎_elim}
use Rattle.std.proofs.Math.Path.{ap}
use native.Mathlib.Omega.{arith}
use Rattle.std.proofs.lemmas.List.{length-replicate, get_or-replicate}
use Rattle.std.proofs.Math.ListN.{get_or-eq_default}
use borrow.Author.Tests.{eq-eqb, ne_eqb, le-leb, lt-leb, lt-ltb, le-ltb}
use Rattle.base_laws.specs.Below.{any_none}
use Rattle.base_laws.proofs.Below.{lowest_at}
use Rattle.base_laws.specs.Bools.{and_fails_right, lt_or_le, eq_or_ne}
use Rattle.base_laws.specs.Definitions.{tabulate}
use Rattle.base_laws.specs.Tables.{tabulate_ext, tabulate_cong, length_tabulate, get_d_tabulate}
use Rattle.message_format.specs.Definitions.{place, ends, following, contents_of, tag, word1, word2}
use Rattle.report_views.specs.Definitions.{pos, start, end_of, slot, report_of, end_at}
use Rattle.report_views.specs.Shorthands.{view_of}
use Rattle.report_views.specs.Numbers.{as_number, number_start}
use Rattle.report_desk.specs.SlotsOf.{get_or_slot}

-- the end of each shard's log by the first n records
unfoldable pub ends_of : List ℕ → ℕ → List ℕ
ends_of b n = tabulate 16 (λ s. as_number (end_of b s n))

-- record j is a run of one of 16 shards
abbrev run_at : List ℕ → ℕ → Bool
run_at b j = leb 768 (tag b j) && ltb (tag b j) 784

-- a list of ends, with the end that record j gives
unfoldable pub end_noted : List ℕ → ℕ → List ℕ → List ℕ
end_noted b j l = cond (run_at b j) (set l (tag b j - 768) (4294967296 * word1 b j + word2 b j)) l

-- one entry of a table anew
one_set : (n : ℕ) (f g : ℕ → ℕ) (s v : ℕ) → s < n → g s ≡ v → ((i : ℕ) → i < n → (i ≡ s → ⊥) → f i ≡ g i) → set (tabulate n f) s v ≡ tabulate n g
one_set n f g s v l e rest =
    tabulate_ext 0 n g (set (tabulate n f) s v) (length-set (tabulate n f) s v ∙ length_tabulate n f)
    (λ k m.
    ⊎_elim
    (λ h.
    ap (λ (x : ℕ). get_or (set (tabulate n f) s v) x 0) h
    ∙ get_or-set_same (tabulate n f) s v 0 (omega (arith, length_tabulate n f)) ∙ sym e ∙ ap g (sym h))
    (λ h. get_or-set_other (tabulate n f) s k v 0 h ∙ get_d_tabulate n f k 0 m ∙ rest k m h) (eq_or_ne k s))

pub ends_none : (b : List ℕ) → replicate 16 0 ≡ ends_of b 0
unfolding ends_of end_of
ends_none b =
    tabulate_ext 0 16 (λ s. as_number (end_of b s 0)) (replicate 16 0) (length-replicate {A = ℕ} 16 0)
    (λ k l. get_or-replicate 16 k 0 0 l ∙ sym number_start)

-- what record j does to the end of shard s
end_same : (b : List ℕ) (s j : ℕ) → (tag b j ≡ 768 + s → ⊥) → end_of b s j ≡ end_of b s (j + 1)
unfolding end_of
end_same b s j d = sym (ap (end_of b s) (add-one j) ∙ rw (ne_eqb (tag b j) (768 + s) d))

end_here : (b : List ℕ) (s j : ℕ) → tag b j ≡ 768 + s → end_of b s (j + 1) ≡ pos (word1 b j) (word2 b j)
unfolding end_of
end_here b s j e = ap (end_of b s) (add-one j) ∙ rw (eq-eqb (tag b j) (768 + s) e)

module _ (b : List ℕ) (j : ℕ) where
  -- no run of a shard below 16
  ends_kept : (tag b j < 768) ⊎ (784 ≤ tag b j) → ends_of b j ≡ ends_of b (j + 1)
  unfolding ends_of
  ends_kept h =
      tabulate_cong 16 (λ s. as_number (end_of b s j)) (λ s. as_number (end_of b s (j + 1)))
      (λ s l. ap as_number (end_same b s j (λ e. ⊎_elim (λ m. omega arith) (λ m. omega arith) h)))

  pub noted_low : (l : List ℕ) → tag b j < 768 → end_noted b j l ≡ l
  unfolding end_noted
  noted_low l h = rw (lt-leb 768 (tag b j) h)

  pub noted_high : (l : List ℕ) → 784 ≤ tag b j → end_noted b j l ≡ l
  unfolding end_noted
  noted_high l h = rw (and_fails_right (leb 768 (tag b j)) (le-ltb (tag b j) 784 h))

  -- x is the record's word 0, as the code has it, and y the end's number
  pub noted_run : (l : List ℕ) (x y : ℕ) → x ≡ tag b j → y ≡ 4294967296 * word1 b j + word2 b j → 768 ≤ x → x < 784
      → set l (x - 768) y ≡ end_noted b j l
  unfolding end_noted
  noted_run l x y e f h m =
      let low : 768 ≤ tag b j = omega arith in
      let high : tag b j < 784 = omega arith in
      rw (le-leb 768 (tag b j) low, lt-ltb (tag b j) 784 high, e, f)

  ends_run : 768 ≤ tag b j → tag b j < 784 → set (ends_of b j) (tag b j - 768) (4294967296 * word1 b j + word2 b j) ≡ ends_of b (j + 1)
  unfolding ends_of as_number
  ends_run h m =
      let s = tag b j - 768 in
      let e : tag b j ≡ 768 + s = omega arith in
      one_set 16 (λ s. as_number (end_of b s j)) (λ s. as_number (end_of b s (j + 1))) s (4294967296 * word1 b j + word2 b j) (omega arith)
      (ap as_number (end_here b s j e))
      (λ i l d. ap as_number (end_same b i j (λ q. d (omega arith))))

  -- a turn of the walk over the records
  pub ends_noted : (l : List ℕ) → l ≡ ends_of b j → end_noted b j l ≡ ends_of b (j + 1)
  ends_noted l e =
      ap (end_noted b j) e
      ∙ ⊎_elim (λ low. noted_low (ends_of b j) low ∙ ends_kept (inl low))
      (λ from.
      ⊎_elim (λ to. sym (noted_run (ends_of b j) (tag b j) (4294967296 * word1 b j + word2 b j) refl refl from to) ∙ ends_run from to)
      (λ high. noted_high (ends_of b j) high ∙ ends_kept (inr high))
      (lt_or_le (tag b j) 784))
      (lt_or_le (tag b j) 768)

-- the view that a node reported is word 1 of its slot
pub view-at : (d : List ℕ) (n : ℕ) → length d ≡ 16384 → n < 32 → get_or d (512 * n + 1) 0 ≡ view_of d n
unfolding report_of contents_of
view-at d n whole l = sym (get_or_slot d n whole l 1 (omega arith))

-- there is no node 32: the desk has no end of it
pub desk_past : (d : List ℕ) → length d ≡ 16384 → (s : ℕ) → end_at d s 32 ≡ start
unfolding slot report_of contents_of following place end_of
desk_past d whole s =
    let none : length (slot d 32) ≤ 0 = omega (arith, length-take 512 (drop 16384 d), length-drop 16384 d) in
    let zero-at : get_or (slot d 32) 3 0 ≡ 0 = get_or-eq_default (slot d 32) 0 (omega arith) in
    let f : ℕ → Bool = λ j. ends (slot d 32) (place (slot d 32) j) in
    let len : following (slot d 32) ≡ 0 = lowest_at 127 f 0 (omega arith) (any_none f) (eq-eqb (get_or (slot d 32) 3 0) 0 zero-at) in
    rw len refl
