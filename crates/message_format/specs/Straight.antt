-- A chain that goes record after record and ends with record n: where its records stand, row 8, and the body that it gives.
use Prim.Native.Nat.{ℕ, zero, suc, ◌+◌, ◌*◌, ◌/◌, ◌%◌, ◌≤◌, ◌<◌}
use Rattle.std.proofs.Common.{le_refl, inl, inr, ◌∙◌}
use Rattle.std.proofs.Math.Numerals.{add-one}
use native.Mathlib.Omega.{arith}
use Rattle.std.specs.Prelude.{◌⊎◌, false, List, ◌≡◌, get_or}
use Rattle.std.proofs.Math.Logic.{⊎_elim}
use Rattle.std.proofs.Math.Bool.{true}
use Rattle.std.proofs.Math.Path.{refl, ap}
use borrow.Author.Tests.{lt-ltb, eq-eqb, ne_eqb}
use Rattle.base_laws.specs.Bools.{lt_or_le, and_both, or_left, or_right}
use Rattle.base_laws.specs.Below.{all_of, any_none_of, lowest_none, lowest_unique}
use Rattle.base_laws.specs.Tables.{get_d_tabulate}
use Rattle.message_format.specs.Definitions.{next, place, ends, following, linked, row8, tag, word1, word2, body_word, body_of}
use Rattle.message_format.specs.Shorthands.{records}

-- a chain that goes record after record and ends with record n
module _ (w : List ℕ) (n : ℕ) (on : (i : ℕ) → i < n → next w i ≡ i + 1) (end : next w n ≡ 0) where
  pub straight_place : (j : ℕ) → j ≤ n → place w j ≡ j
  unfolding place
  straight_place zero l = refl
  straight_place (suc j) l =
      ap (next w) (straight_place j (omega arith)) ∙ on j l ∙ add-one j

  pub straight_following : n ≤ 127 → following w ≡ n
  unfolding following
  straight_following l =
      ⊎_elim (λ m. lowest_unique 127 (λ j. ends w (place w j)) n m here before)
      (λ m. lowest_none 127 (λ j. ends w (place w j)) (any_none_of 127 (λ j. ends w (place w j)) (λ j k. before j (omega arith))) ∙ omega arith)
      (lt_or_le n 127)
    where
      here : ends w (place w n) ≡ true
      here = rw (straight_place n (le_refl n)) (eq-eqb (next w n) 0 end)

      before : (j : ℕ) → j < n → ends w (place w j) ≡ false
      before j k =
          rw (straight_place j (omega arith)) (ne_eqb (next w j) 0 (λ e. omega (arith, on j k)))

  pub straight_row8 : n ≤ 127 → n < records w → row8 w ≡ true
  unfolding row8
  straight_row8 l m =
      rw (straight_following l)
      (all_of (suc n) (λ j. linked w (place w j)) (λ j k. rw (straight_place j (omega arith)) (go j (lt_or_le j n) k)))
    where
      go : (j : ℕ) → (j < n) ⊎ (n ≤ j) → j < suc n → linked w j ≡ true
      go j (inl i) k =
          or_right (ends w j)
          (rw (on j i) (and_both (lt-ltb j (j + 1) (omega arith)) (lt-ltb (j + 1) (records w) (omega arith))))
      go j (inr i) k =
          let e : j ≡ n = omega arith in
          or_left _ (eq-eqb (next w j) 0 (ap (next w) e ∙ end))

  -- word p of record j of the body is that of the record after record j of the message
  pub straight_word : n ≤ 127 → (j p : ℕ) → j < n → p < 3 → get_or (body_of w) (3 * j + p) 0 ≡ get_or w (4 * j + 4 + p) 0
  unfolding body_of body_word
  straight_word l j p m q =
      let d : (3 * j + p) / 3 + 1 ≡ j + 1 = omega arith in
      let e : (3 * j + p) % 3 ≡ p = omega arith in
      let f : 4 * (j + 1) + p ≡ 4 * j + 4 + p = omega arith in
      get_d_tabulate 381 (body_word w) (3 * j + p) 0 (omega arith)
      ∙ rw (straight_following l, lt-ltb (3 * j + p) (3 * n) (omega arith), d, e, straight_place (j + 1) (omega arith), f)

  pub straight_tag : n ≤ 127 → (j : ℕ) → j < n → tag (body_of w) j ≡ get_or w (4 * j + 4) 0
  straight_tag l j m =
      let e : 3 * j ≡ 3 * j + 0 = omega arith in
      let f : 4 * j + 4 + 0 ≡ 4 * j + 4 = omega arith in
      ap (λ (k : ℕ). get_or (body_of w) k 0) e ∙ straight_word l j 0 m (omega arith) ∙ ap (λ (k : ℕ). get_or w k 0) f

  pub straight_word1 : n ≤ 127 → (j : ℕ) → j < n → word1 (body_of w) j ≡ get_or w (4 * j + 5) 0
  straight_word1 l j m = straight_word l j 1 m (omega arith) ∙ ap (λ (k : ℕ). get_or w k 0) (omega arith)

  pub straight_word2 : n ≤ 127 → (j : ℕ) → j < n → word2 (body_of w) j ≡ get_or w (4 * j + 6) 0
  straight_word2 l j m = straight_word l j 2 m (omega arith) ∙ ap (λ (k : ℕ). get_or w k 0) (omega arith)
