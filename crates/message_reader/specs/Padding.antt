-- A message that is followed by zeros to 512 words, as a slot of the desk holds it, says the same and passes the rows that it
-- passed. (The converse does not hold: with zeros after it a next index may come to lie inside the message.)
use Rattle.std.specs.Prelude.{◌≡◌, List, eqb, ltb, length}
use Rattle.std.proofs.Math.Path.{refl, ap, ap₂, subst⁻¹}
use Rattle.std.proofs.Common.{sym, ◌∙◌, arith, lt-ltb}
use Rattle.std.proofs.Math.Logic.{⊎_elim}
use Rattle.std.proofs.Math.Bool.{true, cond}
use Prim.Native.Nat.{ℕ, zero, suc, ◌+◌, ◌*◌, ◌/◌, ◌%◌, ◌≤◌, ◌<◌}
use Rattle.std.proofs.Math.ListN.{get_or}
use Rattle.base_laws.specs.Bools.{either, and_both, or_left, or_right}
use Rattle.base_laws.specs.Below.{all_at, all_of, lowest_cong}
use Rattle.base_laws.specs.Definitions.{padded}
use Rattle.base_laws.specs.Tables.{tabulate_cong, length_padded}
use Rattle.base_laws.proofs.Tables.{get_or_padded_all}
use Rattle.base_ids.specs.Definitions.{none}
use Rattle.message_format.specs.declared.Form.{Form}
use Rattle.message_format.specs.Definitions.{next, place, following, row5, row8, body_word, body_of, contents_of, message_refusal}
use Rattle.message_format.specs.Shorthands.{records}
use Rattle.message_format.specs.Passed.{message_given, message_none}
use Rattle.message_reader.specs.Walks.{row5_gives, ends_at, linked_at, linked_on}

-- ---- two lists that have the same word at every index, and zeros past their ends

module _ (p w : List ℕ) (same : (k : ℕ) → get_or p k 0 ≡ get_or w k 0) where
  pub place_same : (j : ℕ) → place p j ≡ place w j
  unfolding place
  place_same zero = refl
  place_same (suc j) = same (4 * place p j + 3) ∙ ap (next w) (place_same j)

  ends_same : (j : ℕ) → ends_at p j ≡ ends_at w j
  ends_same j = ap (λ (x : ℕ). eqb x 0) (same (4 * place p j + 3) ∙ ap (next w) (place_same j))

  pub following_same : following p ≡ following w
  unfolding following
  following_same = lowest_cong 127 (ends_at p) (ends_at w) (λ j l. ends_same j)

  pub body_same : body_of p ≡ body_of w
  unfolding body_of body_word
  body_same =
      tabulate_cong 381 (body_word p) (body_word w) (λ k l.
      ap₂ (λ (n x : ℕ). cond (ltb k (3 * n)) x 0) following_same
      (same (4 * place p (k / 3 + 1) + k % 3) ∙ ap (λ (i : ℕ). get_or w (4 * i + k % 3) 0) (place_same (k / 3 + 1))))

  pub contents_same : contents_of p ≡ contents_of w
  unfolding contents_of
  contents_same = rw (same 0, same 1, same 2, following_same, body_same)

  -- a chain that is linked stays so in a message of more records
  pub row8_same : records w ≤ records p → row8 w ≡ true → row8 p ≡ true
  unfolding row8
  row8_same more h =
      all_of (suc (following p)) (linked_at p) (λ j l. linked_same j
      (all_at (suc (following w)) (linked_at w) h j (subst⁻¹ (λ (n : ℕ). j < suc n) (sym following_same) l)))
    where
      linked_same : (j : ℕ) → linked_at w j ≡ true → linked_at p j ≡ true
      linked_same j k = ⊎_elim (λ e. or_left _ (ends_same j ∙ e)) (λ e. onward (linked_on w (place w j) e k)) (either (ends_at w j))
        where
          onward : (place w j < next w (place w j)) × (next w (place w j) < records w) → linked_at p j ≡ true
          onward on =
              let here = place_same j in
              let there : next p (place p j) ≡ next w (place w j) = same (4 * place p j + 3) ∙ ap (next w) here in
              or_right (ends_at p j)
              (and_both (lt-ltb (place p j) (next p (place p j)) (omega arith)) (lt-ltb (next p (place p j)) (records p) (omega arith)))

-- ---- zeros to 512 words

pub padded_contents : (w : List ℕ) → length w ≤ 512 → contents_of (padded 512 w) ≡ contents_of w
padded_contents w l = contents_same (padded 512 w) w (λ k. get_or_padded_all 512 w k l)

pub padded_row5 : (w : List ℕ) → row5 (padded 512 w) ≡ true
unfolding row5
padded_row5 w = rw (length_padded 512 w)

pub padded_passes : (form : Form) (σ w : List ℕ) → message_refusal form σ w ≡ none → message_refusal form σ (padded 512 w) ≡ none
padded_passes form σ w h =
    let m = message_given form σ w h in
    let s = row5_gives w m.words_pass in
    let few = s.few in
    let whole = s.whole in
    let same : (k : ℕ) → get_or (padded 512 w) k 0 ≡ get_or w k 0 = λ k. get_or_padded_all 512 w k (omega arith) in
    message_none form σ (padded 512 w)
    (record {
      words_pass = padded_row5 w;
      head_passes = rw (same 0, same 1, same 2) m.head_passes;
      chain_passes = row8_same (padded 512 w) w same (omega (arith, length_padded 512 w)) m.chain_passes;
      records_pass =
          rw (same 0, same 1, same 2, body_same (padded 512 w) w same, following_same (padded 512 w) w same) m.records_pass;
    })
