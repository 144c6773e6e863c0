-- A state's words stored part by part, from zeros on: definitions, then that this gives the words.
use Rattle.std.specs.Prelude.{◌≡◌, ℕ, ◌+◌, ◌*◌, ◌/◌, ◌%◌, ◌-◌, ◌≤◌, ◌<◌, set}
use Rattle.std.proofs.Math.Path.{refl, sym, ap}
use Rattle.std.proofs.Common.{◌∙◌, arith, lit<, lit≤}
use Rattle.std.proofs.Math.Logic.{⊎_elim}
use mathlib.Core.List.{List}
use Rattle.std.proofs.Math.ListN.{get_or, length-replicate, get_or-replicate}
use Rattle.base_laws.specs.Bools.{lt_or_le}
use Rattle.base_laws.specs.Loops.{turns, turns_hold}
use Rattle.base_laws.specs.Tables.{zeros, filled, filled_none, length_filled, get_or_filled, get_or_filled_rest, tabulate_ext}
use Rattle.base_laws.proofs.Tables.{filled_turn}
use Rattle.base_ids.specs.declared.Position.{Position}
use Rattle.base_ids.specs.declared.View.{View}
use Rattle.report_views.specs.declared.Layout.{Layout}
use Rattle.report_views.specs.declared.Plan.{Plan}
use Rattle.report_views.specs.declared.Termination.{Termination}
use Rattle.report_views.specs.Definitions.{position_at, holder_at, target_at, position_word}
use Rattle.state_planner.specs.declared.State.{State}
use Rattle.c_state_words.specs.Definitions.{phase_number, flag, kept_word, plan_word, state_word, state_words}
use Rattle.c_state_words.specs.Inverse.{masks_at, positions-at, plan_masks_at, holders_at, targets_at, views-at, rest_at}

-- the number of view n of a list
abbrev pub view_number_at : List View → ℕ → ℕ
view_number_at l n = (get_or l n (record { 0 = 0 })).0

-- turn s stores word s of a part that starts at a place
abbrev pub store_word : (ℕ → ℕ) → ℕ → ℕ → List ℕ → List ℕ
store_word f at s l = set l (at + s) (f s)

-- turn s stores the two words of position s
abbrev pub store_position : (ℕ → Position) → ℕ → ℕ → List ℕ → List ℕ
store_position p at s l = set (set l (at + 2 * s) (p s).view.0) (at + 2 * s + 1) (p s).k

-- words 0 to 51
unfoldable pub store_kept : ℕ → Layout → Termination → List ℕ → List ℕ
store_kept phase v t l =
    turns 16 (store_position (position_at t) 20)
    (turns 16 (store_word (λ s. get_or v.masks s 0) 4)
    (set (set (set (set l 0 phase) 1 v.number.0) 2 v.members) 3 (flag t.made)))

-- words 55 to 121
unfoldable pub store_plan : Plan → List ℕ → List ℕ
store_plan p l =
    turns 16 (store_position (target_at p) 90)
    (turns 16 (store_word (holder_at p) 74)
    (turns 16 (store_word (λ s. get_or p.layout.masks s 0) 58)
    (set (set (set l 55 p.layout.number.0) 56 p.layout.members) 57 p.total)))

-- ---- laws

-- the words of position s
module _ (p : ℕ → Position) (s : ℕ) where
  even_word : position_word p (2 * s) ≡ (p s).view.0
  even_word =
      let even : 2 * s % 2 ≡ 0 = omega arith in
      let half : 2 * s / 2 ≡ s = omega arith in
      rw (even, half)

  odd_word : position_word p (2 * s + 1) ≡ (p s).k
  odd_word =
      let odd : (2 * s + 1) % 2 ≡ 1 = omega arith in
      let half : (2 * s + 1) / 2 ≡ s = omega arith in
      rw (odd, half)

module _ (x : State) where
  -- the first k words over zeros
  abbrev first_words : ℕ → List ℕ
  first_words k = filled k (state_word x) (zeros 160)

  one_more : (k v : ℕ) → k < 160 → v ≡ state_word x k → set (first_words k) k v ≡ first_words (k + 1)
  one_more k v l e = filled_turn k (state_word x) (zeros 160) (first_words k) v (omega (arith, length-replicate {A = ℕ} 160 0)) refl e

  words_more : (at n : ℕ) (f : ℕ → ℕ) → at + n ≤ 160 → ((k : ℕ) → at ≤ k → k < at + n → state_word x k ≡ f (k - at))
      → turns n (store_word f at) (first_words at) ≡ first_words (at + n)
  words_more at n f l h =
      ap (λ (k : ℕ). turns n (store_word f at) (first_words k)) (let e : at ≡ at + 0 = omega arith in e)
      ∙ turns_hold (λ s. first_words (at + s)) (store_word f at) n
      (λ s m.
      one_more (at + s) (f s) (omega arith) (ap f (omega arith) ∙ sym (h (at + s) (omega arith) (omega arith)))
      ∙ ap first_words (omega arith))

  positions_more : (at n : ℕ) (p : ℕ → Position) → at + 2 * n ≤ 160
      → ((k : ℕ) → at ≤ k → k < at + 2 * n → state_word x k ≡ position_word p (k - at))
      → turns n (store_position p at) (first_words at) ≡ first_words (at + 2 * n)
  positions_more at n p l h =
      ap (λ (k : ℕ). turns n (store_position p at) (first_words k)) (let e : at ≡ at + 2 * 0 = omega arith in e)
      ∙ turns_hold (λ s. first_words (at + 2 * s)) (store_position p at) n
      (λ s m.
      ap (λ (r : List ℕ). set r (at + 2 * s + 1) (p s).k) (one_more (at + 2 * s) (p s).view.0 (omega arith) (first s m))
      ∙ one_more (at + 2 * s + 1) (p s).k (omega arith) (second s m)
      ∙ ap first_words (omega arith))
    where
      first : (s : ℕ) → s < n → (p s).view.0 ≡ state_word x (at + 2 * s)
      first s m =
          sym (h (at + 2 * s) (omega arith) (omega arith) ∙ ap (position_word p) (let e : at + 2 * s - at ≡ 2 * s = omega arith in e) ∙ even_word p s)

      second : (s : ℕ) → s < n → (p s).k ≡ state_word x (at + 2 * s + 1)
      second s m =
          sym (h (at + 2 * s + 1) (omega arith) (omega arith) ∙ ap (position_word p) (let e : at + 2 * s + 1 - at ≡ 2 * s + 1 = omega arith in e) ∙ odd_word p s)

  kept_stored : store_kept (phase_number x.phase) x.kept x.termination (zeros 160) ≡ first_words 52
  unfolding store_kept state_word kept_word
  kept_stored =
      let start : zeros 160 ≡ first_words 0 = sym (filled_none (state_word x) (zeros 160)) in
      ap (λ (l : List ℕ). store_kept (phase_number x.phase) x.kept x.termination l) start
      ∙ rw (
        one_more 0 (phase_number x.phase) (lit< tt) refl,
        one_more 1 x.kept.number.0 (lit< tt) refl,
        one_more 2 x.kept.members (lit< tt) refl,
        one_more 3 (flag x.termination.made) (lit< tt) refl,
        words_more 4 16 (λ s. get_or x.kept.masks s 0) (lit≤ tt) (masks_at x),
        positions_more 20 16 (position_at x.termination) (lit≤ tt) (positions-at x),
      )

  marks_stored : set (set (set (first_words 52) 52 x.held) 53 x.fetched) 54 x.prepared ≡ first_words 55
  unfolding state_word
  marks_stored =
      rw (one_more 52 x.held (lit< tt) refl, one_more 53 x.fetched (lit< tt) refl, one_more 54 x.prepared (lit< tt) refl)

  plan_stored : store_plan x.plan (first_words 55) ≡ first_words 122
  unfolding store_plan state_word plan_word
  plan_stored =
      rw (
        one_more 55 x.plan.layout.number.0 (lit< tt) refl,
        one_more 56 x.plan.layout.members (lit< tt) refl,
        one_more 57 x.plan.total (lit< tt) refl,
        words_more 58 16 (λ s. get_or x.plan.layout.masks s 0) (lit≤ tt) (plan_masks_at x),
        words_more 74 16 (holder_at x.plan) (lit≤ tt) (holders_at x),
        positions_more 90 16 (target_at x.plan) (lit≤ tt) (targets_at x),
      )

  views_stored : turns 32 (store_word (view_number_at x.latest.views) 122) (first_words 122) ≡ state_words x
  unfolding state_words
  views_stored =
      words_more 122 32 (view_number_at x.latest.views) (lit≤ tt) (views-at x)
      ∙ tabulate_ext 0 160 (state_word x) (first_words 154)
      (length_filled 154 (state_word x) (zeros 160) (omega (arith, length-replicate {A = ℕ} 160 0)) ∙ length-replicate {A = ℕ} 160 0)
      (λ k l.
      ⊎_elim (λ m. get_or_filled 154 (state_word x) (zeros 160) k 0 m)
      (λ m. get_or_filled_rest 154 (state_word x) (zeros 160) k 0 m ∙ get_or-replicate 160 k 0 0 l ∙ sym (rest_at x k m))
      (lt_or_le k 154))

  pub state_stored : turns 32 (store_word (view_number_at x.latest.views) 122)
      (store_plan x.plan
      (set (set (set (store_kept (phase_number x.phase) x.kept x.termination (zeros 160)) 52 x.held) 53 x.fetched) 54 x.prepared))
      ≡ state_words x
  state_stored = rw (kept_stored, marks_stored, plan_stored) views_stored
