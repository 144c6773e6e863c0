-- The walk along a message's chain: what a reader knows at each step, and what it knows at the end.
use Rattle.std.specs.Prelude.{◌≡◌, refl, ◌⊎◌, Bool, false, ◌&&◌, List, eqb, leb, ltb, length}
use Rattle.std.proofs.Math.Path.{sym, ap, subst⁻¹}
use Rattle.std.proofs.Common.{◌∙◌, subst, ⊎_elim, add-one, arith, eq-eqb, ne_eqb, eqb-true, lt-ltb, le-ltb, ltb-true, leb-true}
use Rattle.std.proofs.Math.Bool.{true}
use Prim.Native.Nat.{ℕ, zero, suc, ◌+◌, ◌*◌, ◌%◌, ◌≤◌, ◌<◌, zero-le, suc-le-suc}
use Rattle.base_laws.specs.Bools.{clash, no_false, and_both, and_left, and_right, and_fails_left, and_fails_right, or_left, or_right, or_neither, lt_or_le}
use Rattle.base_laws.specs.Definitions.{all_below, any_below, lowest}
use Rattle.base_laws.specs.Below.{all_none, all_at, any_none, any_more, any_fails, lowest_none, lowest_first, lowest-holds}
use Rattle.base_laws.proofs.Below.{all_more, all_fails, lowest_at, lowest_some}
use Rattle.base_laws.proofs.Loops.{bad_at}
use Rattle.base_ids.specs.declared.Refusal.{Refusal}
use Rattle.base_ids.specs.Definitions.{none, refused_at, unless_at}
use Rattle.base_ids.specs.Refusals.{unless_at_true, unless_at_false}
use Rattle.message_format.specs.Definitions.{next, place, ends, following, linked, row5, row8, broken_at}
use Rattle.message_format.specs.Shorthands.{records}

-- record j steps along the chain ends it
abbrev pub ends_at : List ℕ → ℕ → Bool
ends_at w j = ends w (place w j)

-- record j steps along the chain is linked
abbrev pub linked_at : List ℕ → ℕ → Bool
linked_at w j = linked w (place w j)

-- row 8 alone: the refusal of a message's chain, told at the first record whose next index is wrong
unfoldable pub chain_refusal : List ℕ → Refusal
chain_refusal w = unless_at (row8 w) 8 (broken_at w) none

-- ---- row 5

-- what row 5 gives
pub record SizedMessage (w : List ℕ) : Type 0 where
  pub some : 1 ≤ records w
  pub few : records w ≤ 128
  pub whole : length w ≡ 4 * records w

pub row5_gives : (w : List ℕ) → row5 w ≡ true → SizedMessage w
unfolding row5
row5_gives w h =
    let least : 1 ≤ length w = leb-true 1 (length w) (and_left (leb 1 (length w)) (leb (length w) 512) (and_left (leb 1 (length w) && leb (length w) 512) (eqb (length w % 4) 0) h)) in
    let most : length w ≤ 512 = leb-true (length w) 512 (and_right (leb 1 (length w)) (leb (length w) 512) (and_left (leb 1 (length w) && leb (length w) 512) (eqb (length w % 4) 0) h)) in
    let part : length w % 4 ≡ 0 = eqb-true (length w % 4) 0 (and_right (leb 1 (length w) && leb (length w) 512) (eqb (length w % 4) 0) h) in
    record { some = omega arith; few = omega arith; whole = omega arith }

-- ---- the chain

pub place_none : (w : List ℕ) → place w 0 ≡ 0
unfolding place
place_none w = refl

pub place_next : (w : List ℕ) (j : ℕ) → place w (j + 1) ≡ next w (place w j)
unfolding place
place_next w j = ap (place w) (add-one j)

-- a chain that has not ended before step j has at least j records after the head
pub following_from : (w : List ℕ) (j : ℕ) → j ≤ 127 → any_below j (ends_at w) ≡ false → j ≤ following w
unfolding following
following_from w j l h = ⊎_elim (λ m. ended m) (λ m. m) (lt_or_le (lowest 127 (ends_at w)) j)
  where
    ended : lowest 127 (ends_at w) < j → j ≤ lowest 127 (ends_at w)
    ended m =
        clash (lowest-holds 127 (ends_at w) (lowest_some 127 (ends_at w) (omega arith)))
        (any_fails j (ends_at w) h (lowest 127 (ends_at w)) m)

-- a chain that ends at step j, and not before
pub following_at : (w : List ℕ) (j : ℕ) → j ≤ 127 → any_below j (ends_at w) ≡ false → ends_at w j ≡ true → following w ≡ j
unfolding following
following_at w j l h e =
    ⊎_elim (λ m. lowest_at 127 (ends_at w) j m h e)
    (λ m. let last : j ≡ 127 = omega arith in
    lowest_none 127 (ends_at w) (subst (λ (x : ℕ). any_below x (ends_at w) ≡ false) last h) ∙ sym last)
    (lt_or_le j 127)

-- no record before the last on the chain ends it
pub following_open : (w : List ℕ) (j : ℕ) → j < following w → ends_at w j ≡ false
unfolding following
following_open w j l = lowest_first 127 (ends_at w) j l

-- a chain of fewer than 128 records ends with its last one
pub following_short : (w : List ℕ) → following w < 127 → ends_at w (following w) ≡ true
unfolding following
following_short w l = lowest-holds 127 (ends_at w) (lowest_some 127 (ends_at w) l)

-- a record that does not end the chain and is linked: its next index is larger and lies inside the message
pub linked_on : (w : List ℕ) (i : ℕ) → ends w i ≡ false → linked w i ≡ true → (i < next w i) × (next w i < records w)
linked_on w i e h =
    let both : (ltb i (next w i) && ltb (next w i) (records w)) ≡ true = rw e at h in (
      ltb-true i (next w i) (and_left (ltb i (next w i)) (ltb (next w i) (records w)) both),
      ltb-true (next w i) (records w) (and_right (ltb i (next w i)) (ltb (next w i) (records w)) both),
    )

-- ---- the walk

-- the walk has come to record at: the chain so far is linked and has not ended
pub record CameTo (w : List ℕ) (at : ℕ) : Type 0 where
  pub steps : ℕ
  pub here : at ≡ place w steps
  pub inside : at < records w
  pub risen : steps ≤ at
  pub unended : any_below steps (ends_at w) ≡ false
  pub sound : all_below steps (linked_at w) ≡ true

pub walk_start : (w : List ℕ) → SizedMessage w → CameTo w 0
unfolding place
walk_start w s =
    record { steps = 0; here = refl; inside = s.some; risen = zero-le; unended = any_none (ends_at w); sound = all_none (linked_at w) }

-- at record at, which names n as the next one
module _ (w : List ℕ) (at n : ℕ) (s : SizedMessage w) (k : CameTo w at) (e : n ≡ next w at) where
  steps_le : k.steps ≤ 127
  steps_le = let a = k.inside in let b = k.risen in let c = s.few in omega arith

  -- what is known of the record at hand, at its step
  at_step : (f : ℕ → Bool) (b : Bool) → f at ≡ b → f (place w k.steps) ≡ b
  at_step f b h = subst (λ (x : ℕ). f x ≡ b) k.here h

  -- on to the next record
  pub walk_on : at < n → n < records w → CameTo w n
  walk_on up inside =
      let goes : ends w at ≡ false = ne_eqb (next w at) 0 (λ z. omega arith) in
      let link : linked w at ≡ true = or_right (ends w at) (and_both (lt-ltb at (next w at) (omega arith)) (lt-ltb (next w at) (records w) (omega arith))) in
      record {
        steps = k.steps + 1;
        here = e ∙ ap (next w) k.here ∙ sym (place_next w k.steps);
        inside = inside;
        risen = let a = k.risen in omega arith;
        unended = any_more k.steps (ends_at w) k.unended (at_step (ends w) false goes);
        sound = all_more k.steps (linked_at w) k.sound (at_step (linked w) true link);
      }

  -- a record's index has its place in a refusal
  pub walk_few : at ≤ 127
  walk_few = let a = k.inside in let c = s.few in omega arith

  -- the chain ends here
  row8-holds : n ≡ 0 → row8 w ≡ true
  unfolding row8
  row8-holds z =
      let ended : ends_at w k.steps ≡ true = at_step (ends w) true (eq-eqb (next w at) 0 (sym e ∙ z)) in
      let link : linked_at w k.steps ≡ true = or_left _ ended in
      subst⁻¹ (λ (n : ℕ). all_below n (linked_at w) ≡ true)
      (ap suc (following_at w k.steps steps_le k.unended ended) ∙ sym (add-one k.steps))
      (all_more k.steps (linked_at w) k.sound link)

  pub walk_end : n ≡ 0 → none ≡ chain_refusal w
  unfolding chain_refusal
  walk_end z = sym (unless_at_true (row8 w) 8 (broken_at w) none (row8-holds z))

  -- the next index is wrong: row 8 fails, first at this record
  module _ (goes : n ≡ 0 → ⊥) (bad : (n ≤ at) ⊎ (records w ≤ n)) where
    unlinked : (ltb at (next w at) && ltb (next w at) (records w)) ≡ false
    unlinked =
        ⊎_elim
        (λ l. and_fails_left (ltb (next w at) (records w)) (le-ltb at (next w at) (omega arith)))
        (λ l. and_fails_right (ltb at (next w at)) (le-ltb (next w at) (records w) (omega arith)))
        bad

    broken : linked_at w k.steps ≡ false
    broken = at_step (linked w) false (or_neither (ne_eqb (next w at) 0 (λ z. goes (e ∙ z))) unlinked)

    reached : k.steps < suc (following w)
    reached = suc-le-suc (following_from w k.steps steps_le k.unended)

    row8_fails : row8 w ≡ false
    unfolding row8
    row8_fails = all_fails (suc (following w)) (linked_at w) k.steps reached broken

    first_broken : broken_at w ≡ at
    unfolding broken_at
    first_broken = ap (place w) (bad_at (suc (following w)) (linked_at w) k.steps reached k.sound broken) ∙ sym k.here

    pub walk_broken : refused_at 8 at ≡ chain_refusal w
    unfolding chain_refusal
    walk_broken = ap (refused_at 8) (sym first_broken) ∙ sym (unless_at_false (row8 w) 8 (broken_at w) none row8_fails)

-- ---- a chain that passes row 8

module _ (w : List ℕ) (s : SizedMessage w) (h : row8 w ≡ true) where
  -- no record on the chain is broken
  pub linked-at : (j : ℕ) → j ≤ following w → linked_at w j ≡ true
  unfolding row8
  linked-at j l = all_at (suc (following w)) (linked_at w) h j (suc-le-suc l)

  -- every record on the chain lies inside the message, and no earlier than its step
  pub place_inside : (j : ℕ) → j ≤ following w → (place w j < records w) × (j ≤ place w j)
  unfolding place
  place_inside zero l = (s.some, zero-le)
  place_inside (suc j) l =
      let before = place_inside j (omega arith) in
      let on = linked_on w (place w j) (following_open w j l) (linked-at j (omega arith)) in
      (on.1, omega arith)

  -- the last record on the chain ends it
  pub following_ends : ends_at w (following w) ≡ true
  following_ends =
      no_false (ends_at w (following w)) (λ e.
      let on = linked_on w (place w (following w)) e (linked-at (following w) (omega arith)) in
      let here = place_inside (following w) (omega arith) in
      let few = s.few in
      let last : following w < 127 = omega arith in
      clash (following_short w last) e)
