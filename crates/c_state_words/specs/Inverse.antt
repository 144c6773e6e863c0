-- Each state has one representation: what was encoded decodes to the state, and what decodes is what the state encodes to.
use Rattle.std.specs.Prelude.{◌≡◌, refl, Bool, true, false, cond, List, ℕ, zero, suc, ◌+◌, ◌*◌, ◌/◌, ◌%◌, ◌-◌, ◌≤◌, ◌<◌, ltb, length}
use Rattle.std.proofs.Math.Path.{sym, ap, ap₂}
use Rattle.std.proofs.Common.{◌∙◌, ⊎_elim, lit<, lit≤}
use native.Mathlib.Omega.{arith}
use Rattle.std.proofs.Math.Dec.{eqb}
use Rattle.std.proofs.Math.ListN.{get_or}
use borrow.Author.Tests.{eq-eqb, ne_eqb, le-leb, lt-ltb, le-ltb}
use Rattle.base_laws.specs.Bools.{lt_or_le, eq_or_ne, and_both}
use Rattle.base_laws.specs.Below.{all_of}
use Rattle.base_laws.specs.Definitions.{tabulate}
use Rattle.base_laws.specs.Tables.{tabulate_ext, length_tabulate, get_d_tabulate}
use Rattle.base_ids.specs.declared.Node.{Node}
use Rattle.base_ids.specs.declared.Position.{Position}
use Rattle.base_ids.specs.declared.View.{View}
use Rattle.report_views.specs.declared.Phase.{Phase}
use Rattle.report_views.specs.declared.Phase.TheVariants.{Gathering, Ordered, Preparing, Committed}
use Rattle.report_views.specs.Definitions.{pos, start, node_at, position_at, holder_at, target_at, position_word}
use Rattle.report_rows.specs.Definitions.{latest_at}
use Rattle.state_planner.specs.declared.State.{State}
use Rattle.c_state_words.specs.Definitions.{phase_number, flag, kept_word, plan_word, latest_word, state_word, state_words, phase_of, span, nodes_at, views_at, positions_at, layout_at, state_in, rest_zero, is_state}
use Rattle.c_state_words.specs.StateWords.{decoded}
use Rattle.c_state_words.specs.Laws.{stated}

-- one row of a table of words
row : (k limit : ℕ) {a b v : ℕ} → (k < limit → a ≡ v) → (limit ≤ k → b ≡ v) → cond (ltb k limit) a b ≡ v
row k limit low high =
    ⊎_elim (λ l. rw (lt-ltb k limit l) (low l)) (λ l. rw (le-ltb k limit l) (high l)) (lt_or_le k limit)

-- ---- what decodes is what the state encodes to

-- word k of a span
get_or_span : (w : List ℕ) (at n k : ℕ) → at ≤ k → k < at + n → get_or (span w at n) (k - at) 0 ≡ get_or w k 0
unfolding span
get_or_span w at n k l h =
    get_d_tabulate n (λ i. get_or w (at + i) 0) (k - at) 0 (omega arith) ∙ ap (λ (i : ℕ). get_or w i 0) (omega arith)

-- node k of those from a place on
node_span : (w : List ℕ) (at k : ℕ) → at ≤ k → k < at + 16 → node_at (nodes_at w at) (k - at) ≡ get_or w k 0
unfolding nodes_at
node_span w at k l h =
    let f : ℕ → Node = λ s. record { 0 = get_or w (at + s) 0 } in
    ap (λ (n : Node). n.0) (get_d_tabulate 16 f (k - at) (record { 0 = 0 }) (omega arith)) ∙ ap (λ (i : ℕ). get_or w i 0) (omega arith)

-- view k of those from a place on
view_span : (w : List ℕ) (at k : ℕ) → at ≤ k → k < at + 32 → (get_or (views_at w at) (k - at) (record { 0 = 0 })).0 ≡ get_or w k 0
unfolding views_at
view_span w at k l h =
    let f : ℕ → View = λ s. record { 0 = get_or w (at + s) 0 } in
    ap (λ (v : View). v.0) (get_d_tabulate 32 f (k - at) (record { 0 = 0 }) (omega arith)) ∙ ap (λ (i : ℕ). get_or w i 0) (omega arith)

-- word i of a position
word-of : (p : Position) (i v : ℕ) → (i % 2 ≡ 0 → p.view.0 ≡ v) → (i % 2 ≡ 1 → p.k ≡ v) → position_word (λ s. p) i ≡ v
word-of p i v even odd =
    ⊎_elim (λ e. rw (eq-eqb (i % 2) 0 e) (even e)) (λ e. rw (ne_eqb (i % 2) 0 e) (odd (half i e))) (eq_or_ne (i % 2) 0)
  where
    half : (i : ℕ) → (i % 2 ≡ 0 → ⊥) → i % 2 ≡ 1
    half i e = omega arith

-- word k of the positions from a place on
position_span : (w : List ℕ) (at k : ℕ) → at ≤ k → k < at + 32
    → position_word (λ s. get_or (positions_at w at) s start) (k - at) ≡ get_or w k 0
unfolding positions_at
position_span w at k l h =
    let i : ℕ = k - at in
    let f : ℕ → Position = λ s. pos (get_or w (at + 2 * s) 0) (get_or w (at + 2 * s + 1) 0) in
    let e : get_or (tabulate 16 f) (i / 2) start ≡ f (i / 2) = get_d_tabulate 16 f (i / 2) start (omega arith) in
    ap (λ (p : Position). position_word (λ s. p) i) e
    ∙ word-of (f (i / 2)) i (get_or w k 0) (λ z. ap (λ (j : ℕ). get_or w j 0) (omega arith)) (λ z. ap (λ (j : ℕ). get_or w j 0) (omega arith))

phase_back : (n : ℕ) → n ≤ 3 → phase_number (phase_of n) ≡ n
unfolding phase_of
phase_back zero l = refl
phase_back (suc zero) l = refl
phase_back (suc (suc zero)) l = refl
phase_back (suc (suc (suc zero))) l = refl
phase_back (suc (suc (suc (suc n)))) l = absurd (omega arith)

flag_back : (n : ℕ) → n ≤ 1 → flag (eqb n 1) ≡ n
flag_back zero l = refl
flag_back (suc zero) l = refl
flag_back (suc (suc n)) l = absurd (omega arith)

module _ (w : List ℕ) (h : is_state w ≡ true) where
  -- word k is word i
  here : (i k : ℕ) → i ≡ k → get_or w i 0 ≡ get_or w k 0
  here i k e = ap (λ (j : ℕ). get_or w j 0) e

  kept_back : (k : ℕ) → k < 52 → kept_word (state_in w) k ≡ get_or w k 0
  unfolding kept_word state_in layout_at
  kept_back k m =
      row k 1 (λ l. phase_back (get_or w 0 0) (stated w h).phase ∙ here 0 k (omega arith))
      (λ l1. row k 2 (λ l. here 1 k (omega arith))
      (λ l2. row k 3 (λ l. here 2 k (omega arith))
      (λ l3. row k 4 (λ l. flag_back (get_or w 3 0) (stated w h).flag ∙ here 3 k (omega arith))
      (λ l4. row k 20 (λ l. get_or_span w 4 16 k l4 l) (λ l5. position_span w 20 k l5 m)))))

  plan_back : (k : ℕ) → 55 ≤ k → k < 122 → plan_word (state_in w).plan k ≡ get_or w k 0
  unfolding plan_word state_in layout_at
  plan_back k f m =
      row k 56 (λ l. here 55 k (omega arith))
      (λ l1. row k 57 (λ l. here 56 k (omega arith))
      (λ l2. row k 58 (λ l. here 57 k (omega arith))
      (λ l3. row k 74 (λ l. get_or_span w 58 16 k l3 l)
      (λ l4. row k 90 (λ l. node_span w 74 k l4 l) (λ l5. position_span w 90 k l5 m)))))

  word_back : (k : ℕ) → k < 160 → state_word (state_in w) k ≡ get_or w k 0
  unfolding state_word state_in latest_word
  word_back k m =
      row k 52 (kept_back k)
      (λ l1. row k 53 (λ l. here 52 k (omega arith))
      (λ l2. row k 54 (λ l. here 53 k (omega arith))
      (λ l3. row k 55 (λ l. here 54 k (omega arith))
      (λ l4. row k 122 (plan_back k l4)
      (λ l5. row k 154 (λ l. view_span w 122 k l5 l)
      (λ l6. sym ((stated w h).rest (k - 154) (omega arith)) ∙ here (154 + (k - 154)) k (omega arith)))))))

  pub encode_decode : state_words (state_in w) ≡ w
  unfolding state_words
  encode_decode = sym (tabulate_ext 0 160 (state_word (state_in w)) w (stated w h).long (λ k m. sym (word_back k m)))

-- ---- what was encoded decodes to the state

-- the arrays of a state have their lengths
pub record SizedState (x : State) : Type 0 where
  pub masks : length x.kept.masks ≡ 16
  pub positions : length x.termination.positions ≡ 16
  pub plan_masks : length x.plan.layout.masks ≡ 16
  pub holders : length x.plan.holders ≡ 16
  pub targets : length x.plan.targets ≡ 16
  pub views : length x.latest.views ≡ 32

phase_there : (p : Phase) → phase_of (phase_number p) ≡ p
unfolding phase_of
phase_there Gathering = refl
phase_there Ordered = refl
phase_there Preparing = refl
phase_there Committed = refl

phase_le : (p : Phase) → phase_number p ≤ 3
phase_le Gathering = omega arith
phase_le Ordered = omega arith
phase_le Preparing = omega arith
phase_le Committed = omega arith

flag_there : (b : Bool) → eqb (flag b) 1 ≡ b
flag_there true = refl
flag_there false = refl

flag_le : (b : Bool) → flag b ≤ 1
flag_le true = omega arith
flag_le false = omega arith

module _ (x : State) where
  word : (k : ℕ) → k < 160 → get_or (state_words x) k 0 ≡ state_word x k
  unfolding state_words
  word k m = get_d_tabulate 160 (state_word x) k 0 m

  pub length_words : length (state_words x) ≡ 160
  unfolding state_words
  length_words = length_tabulate 160 (state_word x)

  -- a span of the words that is an array of the state
  span_is : (at n : ℕ) (l : List ℕ) → at + n ≤ 160 → length l ≡ n
      → ((k : ℕ) → at ≤ k → k < at + n → state_word x k ≡ get_or l (k - at) 0) → span (state_words x) at n ≡ l
  unfolding span
  span_is at n l m e h =
      sym (tabulate_ext 0 n (λ i. get_or (state_words x) (at + i) 0) l e
      (λ i q. ap (λ (j : ℕ). get_or l j 0) (omega arith) ∙ sym (h (at + i) (omega arith) (omega arith)) ∙ sym (word (at + i) (omega arith))))

  -- nodes and positions of the state from a place on
  nodes_are : (at : ℕ) (l : List Node) → at + 16 ≤ 160 → length l ≡ 16
      → ((k : ℕ) → at ≤ k → k < at + 16 → state_word x k ≡ node_at l (k - at)) → nodes_at (state_words x) at ≡ l
  unfolding nodes_at
  nodes_are at l m e h =
      sym (tabulate_ext (record { 0 = 0 }) 16 (λ s. record { 0 = get_or (state_words x) (at + s) 0 }) l e
      (λ s q. ap (λ (n : ℕ). record { 0 = n }) (here_is s q)))
    where
      here_is : (s : ℕ) → s < 16 → node_at l s ≡ get_or (state_words x) (at + s) 0
      here_is s q =
          ap (node_at l) (omega arith) ∙ sym (h (at + s) (omega arith) (omega arith)) ∙ sym (word (at + s) (omega arith))

  views_are : (at : ℕ) (l : List View) → at + 32 ≤ 160 → length l ≡ 32
      → ((k : ℕ) → at ≤ k → k < at + 32 → state_word x k ≡ (get_or l (k - at) (record { 0 = 0 })).0) → views_at (state_words x) at ≡ l
  unfolding views_at
  views_are at l m e h =
      sym (tabulate_ext (record { 0 = 0 }) 32 (λ s. record { 0 = get_or (state_words x) (at + s) 0 }) l e
      (λ s q. ap (λ (n : ℕ). record { 0 = n }) (here_is s q)))
    where
      here_is : (s : ℕ) → s < 32 → (get_or l s (record { 0 = 0 })).0 ≡ get_or (state_words x) (at + s) 0
      here_is s q =
          ap (λ (j : ℕ). (get_or l j (record { 0 = 0 })).0) (omega arith) ∙ sym (h (at + s) (omega arith) (omega arith))
          ∙ sym (word (at + s) (omega arith))

  positions_are : (at : ℕ) (l : List Position) → at + 32 ≤ 160 → length l ≡ 16
      → ((k : ℕ) → at ≤ k → k < at + 32 → state_word x k ≡ position_word (λ s. get_or l s start) (k - at)) → positions_at (state_words x) at ≡ l
  unfolding positions_at
  positions_are at l m e h =
      sym (tabulate_ext start 16 (λ s. pos (get_or (state_words x) (at + 2 * s) 0) (get_or (state_words x) (at + 2 * s + 1) 0)) l e
      (λ s q. ap₂ pos (view_is s q) (k_is s q)))
    where
      view_is : (s : ℕ) → s < 16 → (get_or l s start).view.0 ≡ get_or (state_words x) (at + 2 * s) 0
      view_is s q =
          let back : at + 2 * s - at ≡ 2 * s = omega arith in
          let even : 2 * s % 2 ≡ 0 = omega arith in
          let half : 2 * s / 2 ≡ s = omega arith in
          sym (word (at + 2 * s) (omega arith) ∙ h (at + 2 * s) (omega arith) (omega arith) ∙ rw (back, even, half))

      k_is : (s : ℕ) → s < 16 → (get_or l s start).k ≡ get_or (state_words x) (at + 2 * s + 1) 0
      k_is s q =
          let back : at + 2 * s + 1 - at ≡ 2 * s + 1 = omega arith in
          let odd : (2 * s + 1) % 2 ≡ 1 = omega arith in
          let half : (2 * s + 1) / 2 ≡ s = omega arith in
          sym (word (at + 2 * s + 1) (omega arith) ∙ h (at + 2 * s + 1) (omega arith) (omega arith) ∙ rw (back, odd, half))

  -- the words of each part
  pub masks_at : (k : ℕ) → 4 ≤ k → k < 20 → state_word x k ≡ get_or x.kept.masks (k - 4) 0
  unfolding state_word kept_word
  masks_at k l m =
      simp (lt-ltb k 52 (omega arith), le-ltb k 1 (omega arith), le-ltb k 2 (omega arith), le-ltb k 3 (omega arith), le-ltb k 4 l, lt-ltb k 20 m)

  pub positions-at : (k : ℕ) → 20 ≤ k → k < 52 → state_word x k ≡ position_word (position_at x.termination) (k - 20)
  unfolding state_word kept_word
  positions-at k l m =
      simp (lt-ltb k 52 m, le-ltb k 1 (omega arith), le-ltb k 2 (omega arith), le-ltb k 3 (omega arith), le-ltb k 4 (omega arith), le-ltb k 20 l)

  plan-at : (k : ℕ) → 55 ≤ k → k < 122 → state_word x k ≡ plan_word x.plan k
  unfolding state_word
  plan-at k l m =
      simp (le-ltb k 52 (omega arith), le-ltb k 53 (omega arith), le-ltb k 54 (omega arith), le-ltb k 55 l, lt-ltb k 122 m)

  pub plan_masks_at : (k : ℕ) → 58 ≤ k → k < 74 → state_word x k ≡ get_or x.plan.layout.masks (k - 58) 0
  unfolding plan_word
  plan_masks_at k l m =
      plan-at k (omega arith) (omega arith)
      ∙ simp (le-ltb k 56 (omega arith), le-ltb k 57 (omega arith), le-ltb k 58 l, lt-ltb k 74 m)

  pub holders_at : (k : ℕ) → 74 ≤ k → k < 90 → state_word x k ≡ holder_at x.plan (k - 74)
  unfolding plan_word
  holders_at k l m =
      plan-at k (omega arith) (omega arith)
      ∙ simp (le-ltb k 56 (omega arith), le-ltb k 57 (omega arith), le-ltb k 58 (omega arith), le-ltb k 74 l, lt-ltb k 90 m)

  pub targets_at : (k : ℕ) → 90 ≤ k → k < 122 → state_word x k ≡ position_word (target_at x.plan) (k - 90)
  unfolding plan_word
  targets_at k l m =
      plan-at k (omega arith) m
      ∙ simp (le-ltb k 56 (omega arith), le-ltb k 57 (omega arith), le-ltb k 58 (omega arith), le-ltb k 74 (omega arith), le-ltb k 90 l)

  pub views-at : (k : ℕ) → 122 ≤ k → k < 154 → state_word x k ≡ latest_at x.latest (k - 122)
  unfolding state_word latest_word
  views-at k l m =
      simp (le-ltb k 52 (omega arith), le-ltb k 53 (omega arith), le-ltb k 54 (omega arith), le-ltb k 55 (omega arith), le-ltb k 122 l, lt-ltb k 154 m)

  pub rest_at : (k : ℕ) → 154 ≤ k → state_word x k ≡ 0
  unfolding state_word
  rest_at k l =
      simp (le-ltb k 52 (omega arith), le-ltb k 53 (omega arith), le-ltb k 54 (omega arith), le-ltb k 55 (omega arith), le-ltb k 122 (omega arith), le-ltb k 154 l)

  state_there : SizedState x → state_in (state_words x) ≡ x
  unfolding state_in layout_at state_word kept_word plan_word
  state_there s =
      let phase : phase_of (get_or (state_words x) 0 0) ≡ x.phase = ap phase_of (word 0 (lit< tt)) ∙ phase_there x.phase in
      let number : get_or (state_words x) 1 0 ≡ x.kept.number.0 = word 1 (lit< tt) in
      let members : get_or (state_words x) 2 0 ≡ x.kept.members = word 2 (lit< tt) in
      let made : eqb (get_or (state_words x) 3 0) 1 ≡ x.termination.made =
      ap (λ (n : ℕ). eqb n 1) (word 3 (lit< tt)) ∙ flag_there x.termination.made in
      let masks : span (state_words x) 4 16 ≡ x.kept.masks = span_is 4 16 x.kept.masks (lit≤ tt) s.masks masks_at in
      let positions : positions_at (state_words x) 20 ≡ x.termination.positions =
      positions_are 20 x.termination.positions (lit≤ tt) s.positions positions-at in
      let held : get_or (state_words x) 52 0 ≡ x.held = word 52 (lit< tt) in
      let fetched : get_or (state_words x) 53 0 ≡ x.fetched = word 53 (lit< tt) in
      let prepared : get_or (state_words x) 54 0 ≡ x.prepared = word 54 (lit< tt) in
      let plan-number : get_or (state_words x) 55 0 ≡ x.plan.layout.number.0 = word 55 (lit< tt) in
      let plan-members : get_or (state_words x) 56 0 ≡ x.plan.layout.members = word 56 (lit< tt) in
      let total : get_or (state_words x) 57 0 ≡ x.plan.total = word 57 (lit< tt) in
      let plan_masks : span (state_words x) 58 16 ≡ x.plan.layout.masks =
      span_is 58 16 x.plan.layout.masks (lit≤ tt) s.plan_masks plan_masks_at in
      let holders : nodes_at (state_words x) 74 ≡ x.plan.holders =
      nodes_are 74 x.plan.holders (lit≤ tt) s.holders holders_at in
      let targets : positions_at (state_words x) 90 ≡ x.plan.targets =
      positions_are 90 x.plan.targets (lit≤ tt) s.targets targets_at in
      let views : views_at (state_words x) 122 ≡ x.latest.views = views_are 122 x.latest.views (lit≤ tt) s.views views-at in
      rw (phase, number, members, made, masks, positions, held, fetched, prepared, plan-number, plan-members, total, plan_masks, holders, targets, views)

  is_there : is_state (state_words x) ≡ true
  unfolding is_state rest_zero state_word kept_word
  is_there =
      and_both (and_both (and_both
      (eq-eqb (length (state_words x)) 160 length_words)
      (le-leb (get_or (state_words x) 0 0) 3 (rw (word 0 (lit< tt)) (phase_le x.phase))))
      (le-leb (get_or (state_words x) 3 0) 1 (rw (word 3 (lit< tt)) (flag_le x.termination.made))))
      (all_of 6 (λ k. eqb (get_or (state_words x) (154 + k) 0) 0)
      (λ k l. eq-eqb (get_or (state_words x) (154 + k) 0) 0 (word (154 + k) (omega arith) ∙ rest_at (154 + k) (omega arith))))

  pub decode_encode : SizedState x → decoded (state_words x) ≡ record { ok = true; state = x }
  unfolding decoded
  decode_encode s = rw (is_there, state_there s)
