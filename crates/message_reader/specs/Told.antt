-- The record that a refusal of a message tells lies inside the message, so that its words can be looked at. (A refusal that tells
-- none has index 0, and every message that passes row 5 has a head.)
use Rattle.std.specs.Prelude.{◌≡◌, refl, Bool, cond, List, get_or}
use Rattle.std.proofs.Math.Path.{subst⁻¹}
use Rattle.std.proofs.Common.{⊎_elim}
use Rattle.std.proofs.Math.Bool.{true, false}
use Prim.Native.Nat.{ℕ, zero, suc, ◌<◌, ◌≤◌}
use native.Mathlib.Omega.{arith}
use Rattle.base_laws.specs.Bools.{either, of_not_false}
use Rattle.base_laws.specs.Definitions.{all_below}
use Rattle.base_laws.specs.Below.{all_at, all_of, lowest_first}
use Rattle.base_laws.specs.Loops.{first_bad}
use Rattle.base_ids.specs.declared.Refusal.{Refusal}
use Rattle.base_ids.specs.Definitions.{none, refused_at, accepted, number_in, index_in, unless, unless_at, first_of}
use Rattle.base_ids.specs.Refusals.{unless_true, unless_false, unless_at_true, unless_at_false, index_at, first_none, first_refused, accepted_none}
use Rattle.message_format.specs.declared.Form.{Form}
use Rattle.message_format.specs.Definitions.{place, following, row5, row8, body_of, broken_at, head_refusal, message_refusal}
use Rattle.message_format.specs.Shorthands.{records}
use Rattle.message_format.specs.Placing.{placed_by, records_placed, records_index, bad_below}
use Rattle.message_reader.specs.Walks.{SizedMessage, linked_at, row5_gives, linked_on, following_open, place_inside}

module _ (n : ℕ) (some : 1 ≤ n) where
  -- a refusal whose index is below n
  abbrev Inside : Refusal → Type 0
  Inside r = index_in r < n

  inside_plain : (ok : Bool) (k : ℕ) (rest : Refusal) → k < 256 → Inside rest → Inside (unless ok k rest)
  inside_plain ok k rest l g =
      ⊎_elim (λ e. subst⁻¹ Inside (unless_true ok k rest e) g)
      (λ e. subst⁻¹ Inside (unless_false ok k rest e) (omega arith))
      (either ok)

  inside_at : (ok : Bool) (k i : ℕ) (rest : Refusal) → k < 256 → (ok ≡ false → i < n) → (ok ≡ true → Inside rest) → Inside (unless_at ok k i rest)
  inside_at ok k i rest l h g =
      ⊎_elim (λ e. subst⁻¹ Inside (unless_at_true ok k i rest e) (g e))
      (λ e. subst⁻¹ Inside (unless_at_false ok k i rest e) (omega (arith, index_at k i l, h e)))
      (either ok)

  inside_first : (a b : Refusal) → Inside a → Inside b → Inside (first_of a b)
  inside_first a b p q =
      ⊎_elim (λ e. subst⁻¹ Inside (first_none a b (accepted_none a e)) q)
      (λ e. subst⁻¹ Inside (first_refused a b e) p)
      (either (accepted a))

  inside_placed : (at : ℕ → ℕ) (r : Refusal) → at (index_in r) < n → Inside (placed_by at r)
  unfolding placed_by
  inside_placed at r h = go (accepted r)
    where
      go : (b : Bool) → Inside (cond b none (refused_at (number_in r) (at (index_in r))))
      go true = omega arith
      go false = omega (arith, index_at (number_in r) (at (index_in r)) (omega arith))

module _ (w : List ℕ) (s : SizedMessage w) where
  -- a record that is reached over linked ones lies inside
  reached_inside : (j : ℕ) → j ≤ following w → all_below j (linked_at w) ≡ true → place w j < records w
  unfolding place
  reached_inside zero l h = s.some
  reached_inside (suc j) l h =
      (linked_on w (place w j) (following_open w j l) (all_at (suc j) (linked_at w) h j (omega arith))).1

  broken_inside : row8 w ≡ false → broken_at w < records w
  unfolding row8 broken_at
  broken_inside h =
      let bad : ℕ = first_bad (suc (following w)) (linked_at w) in
      let on : suc bad ≤ suc (following w) = bad_below (suc (following w)) (linked_at w) h in
      reached_inside bad (omega arith)
      (all_of bad (linked_at w) (λ j l. of_not_false (linked_at w j) (lowest_first (suc (following w)) _ j l)))

-- the index that the reader tells
pub told_inside : (form : Form) (σ w : List ℕ) → row5 w ≡ true → index_in (message_refusal form σ w) < records w
unfolding message_refusal head_refusal place
told_inside form σ w h =
    let s = row5_gives w h in
    let n = records w in
    inside_plain n s.some (row5 w) 5 _ (omega arith)
    (inside_first n s.some _ _
    (inside_plain n s.some _ 6 _ (omega arith) (inside_plain n s.some _ 7 none (omega arith) (omega (arith, s.some))))
    (inside_at n s.some (row8 w) 8 (broken_at w) _ (omega arith) (broken_inside w s) (λ linked.
    subst⁻¹ (λ (r : Refusal). index_in r < n) (records_placed (place w) refl form σ _ _ _ _ _)
    (inside_placed n s.some (place w) _
    (place_inside w s linked _ (records_index form σ (get_or w 0 0) (get_or w 1 0) (get_or w 2 0) (body_of w) (following w))).0))))
