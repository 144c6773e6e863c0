-- Arrival order is harmless: where the same reports of distinct nodes are all accepted in two orders, both end with the same state and
-- desk, and decide gives the same answer, with improving rounds and without.
use Rattle.std.specs.Prelude.{ℕ, ◌+◌, ◌*◌, ◌/◌, ◌%◌, ◌<◌, ◌≤◌, true, List, ◌≡◌, refl, length, get_or}
use Rattle.std.proofs.Common.{arith, sym, ap, ◌∙◌, subst, ext_get_or}
use Rattle.std.proofs.Math.Path.{subst⁻¹}
use Rattle.base_laws.specs.Definitions.{has, padded}
use Rattle.base_laws.specs.Masks.{ext_all}
use Rattle.base_laws.specs.Tables.{get_d_part}
use Rattle.base_ids.specs.declared.View.{View}
use Rattle.message_format.specs.declared.Form.TheVariants.{Report}
use Rattle.message_format.specs.Definitions.{contents_of, message_refusal}
use Rattle.message_format.specs.Passed.{message_given}
use Rattle.message_reader.specs.Walks.{row5_gives}
use Rattle.message_reader.specs.Padding.{padded_contents}
use Rattle.base_ids.specs.Definitions.{none}
use Rattle.report_views.specs.declared.Layout.{Layout}
use Rattle.report_views.specs.declared.Termination.{Termination}
use Rattle.report_views.specs.Definitions.{slot}
use Rattle.report_views.specs.Meets.{slot_given}
use Rattle.report_rows.specs.declared.latest.Latest.{Latest}
use Rattle.report_rows.specs.Definitions.{latest_at}
use Rattle.report_kept.specs.Laws.{message_node}
use Rattle.state_planner.specs.declared.State.{State}
use Rattle.state_planner.specs.declared.Decided.{Decided}
use Rattle.state_planner.specs.declared.DecidedWithin.{DecidedWithin}
use Rattle.state_planner.specs.Definitions.{keeping, Decides, DecidesWithin}
use Rattle.state_laws.proofs.Once.{decides_unique}
use Rattle.state_laws.specs.Within.{within_unique}
use Rattle.state_laws.specs.Parts.{sound_given}
use Rattle.state_laws.specs.Fitting.{Fits, slot_reported}
use Rattle.state_arrival_laws.specs.Arrivals as arrivals
use Rattle.state_arrival_laws.specs.Arrivals.{AllTaken, sender, OneOf, Distinct, SameMessages}
use Rattle.state_arrival_laws.specs.Messages.{not_none, OneEach, distinct_one, one_same, same_back}
use Rattle.state_arrival_laws.specs.Steps.{SteadyAfter, report_steady, held_own, held_other, latest_own, latest_other, slot_written, slot_kept, all_steady, all_valid, all_rest}
use Rattle.state_arrival_laws.proofs.Cells.{cell_of, cells_same}
use Rattle.state_arrival_laws.proofs.Kept.{kept-by, kept_over}
use Rattle.state_arrival_laws.specs.Agreed.{view_equal, view_agrees}
use Rattle.state_arrival_laws.proofs.Agreed.{termination_agrees}

-- ---- every message fits what is kept at the end

message_short : (σ w : List ℕ) → message_refusal Report σ w ≡ none → length w ≤ 512
message_short σ w h = let s = row5_gives w (message_given Report σ w h).words_pass in omega (arith, s.few, s.whole)

module _ {σ : List ℕ} {x : State} {d : List ℕ} {ws : List (List ℕ)} {y : State} {e : List ℕ} (all : AllTaken σ x d ws y e) (one : OneEach ws) (steady : SteadyAfter σ y e) where
  all_fit : (w : List ℕ) → OneOf w ws → Fits σ y.kept y.termination (contents_of w)
  all_fit w a =
      let valid = all_valid σ all w a in
      let below : sender w < 32 = message_node σ w steady.settings valid in
      let is_held : has y.held (sender w) ≡ true
      = cell_of σ (λ (z : State) (f : List ℕ) (n : ℕ). has z.held n) (λ u. true) (λ n. n ≡ n) (held_own σ) (held_other σ) all one w a refl in
      let stands : slot e (sender w) ≡ padded 512 w
      = cell_of σ (λ (z : State) (f : List ℕ) (n : ℕ). slot f n) (λ u. padded 512 u) (λ n. n < 32) (slot_written σ) (slot_kept σ) all one w a below in
      let s = slot_given σ y.kept y.termination y.held e (sound_given σ y e steady.state_sound).slots-ok (sender w) below is_held in
      subst (λ c. Fits σ y.kept y.termination c) (ap contents_of stands ∙ padded_contents w (message_short σ w valid))
      (slot_reported σ y.kept y.termination e (sender w) s).fits

-- ---- equal slots are equal desks

word_in_slot : (d : List ℕ) (k : ℕ) → get_or d k 0 ≡ get_or (slot d (k / 512)) (k % 512) 0
unfolding slot
word_in_slot d k =
    let place : 512 * (k / 512) + k % 512 ≡ k = omega arith in
    sym (get_d_part (512 * (k / 512)) (512 * (k / 512) + 512) d (k % 512) 0 (omega arith) ∙ ap (λ (i : ℕ). get_or d i 0) place)

desk_equal : (d e : List ℕ) → length d ≡ 16384 → length e ≡ 16384 → ((n : ℕ) → n < 32 → slot d n ≡ slot e n) → d ≡ e
desk_equal d e p q h =
    ext_get_or 0 d e (p ∙ sym q)
    (λ k l. word_in_slot d k ∙ (ap (λ (s : List ℕ). get_or s (k % 512) 0) (h (k / 512) (omega (arith, p))) ∙ sym (word_in_slot e k)))

latest_equal : (m o : Latest) → length m.views ≡ 32 → length o.views ≡ 32 → ((n : ℕ) → n < 32 → latest_at m n ≡ latest_at o n) → m ≡ o
latest_equal m o p q h =
    ap (λ (l : List View). record { views = l })
    (ext_get_or (record { 0 = 0 }) m.views o.views (p ∙ sym q)
    (λ n l. view_equal (get_or m.views n (record { 0 = 0 })) (get_or o.views n (record { 0 = 0 })) (h n (omega (arith, p)))))

-- ---- two orders that both end after a report

module _ {σ : List ℕ} {x : State} {d : List ℕ} {ws us : List (List ℕ)} {y z : State} {e f : List ℕ}
    (all : AllTaken σ x d ws y e) (also : AllTaken σ x d us z f) (one : OneEach ws) (same : SameMessages ws us) (steady : SteadyAfter σ y e) (still : SteadyAfter σ z f) where
  held_agrees : y.held ≡ z.held
  held_agrees =
      ext_all y.held z.held
      (λ n. cells_same σ (λ (k : State) (l : List ℕ) (i : ℕ). has k.held i) (λ w. true) (λ i. i ≡ i) (held_own σ) (held_other σ) all also one same n refl)

  latest_agrees : y.latest ≡ z.latest
  latest_agrees =
      latest_equal y.latest z.latest steady.sized still.sized
      (cells_same σ (λ (k : State) (l : List ℕ) (i : ℕ). latest_at k.latest i) (λ w. get_or w 1 0) (λ i. i < 32) (latest_own σ) (latest_other σ) all also one same)

  desk_agrees : e ≡ f
  desk_agrees =
      desk_equal e f steady.words still.words
      (cells_same σ (λ (k : State) (l : List ℕ) (i : ℕ). slot l i) (λ w. padded 512 w) (λ i. i < 32) (slot_written σ) (slot_kept σ) all also one same)

  -- every message fits the second end too
  also_fit : (w : List ℕ) → OneOf w ws → Fits σ z.kept z.termination (contents_of w)
  also_fit w a = all_fit also (one_same same one) still w (same.forth w a)

  kept_agrees : y.kept ≡ z.kept
  kept_agrees =
      view_agrees σ steady.settings.sizes.shards_to x.kept x.termination ws y.kept y.termination z.kept z.termination
      (all_fit all one steady) also_fit (kept-by σ all) (kept_over σ (same_back same) x.kept x.termination z.kept z.termination (kept-by σ also))

  termination_kept : y.termination ≡ z.termination
  termination_kept =
      termination_agrees σ steady.settings.sizes.shards_to x.kept x.termination ws y.kept y.termination z.kept z.termination
      (all_fit all one steady) also_fit (kept-by σ all) (kept_over σ (same_back same) x.kept x.termination z.kept z.termination (kept-by σ also))

  state_agrees : y ≡ z
  state_agrees =
      all_rest σ all
      ∙ (ap (λ (v : Layout). keeping x v y.termination y.held y.latest) kept_agrees
      ∙ (ap (λ (t : Termination). keeping x z.kept t y.held y.latest) termination_kept
      ∙ (ap (λ (h : ℕ). keeping x z.kept z.termination h y.latest) held_agrees
      ∙ (ap (λ (m : Latest). keeping x z.kept z.termination z.held m) latest_agrees
      ∙ sym (all_rest σ also)))))

-- ---- the theorems

orders_agree : {σ : List ℕ} {x : State} {d : List ℕ} {ws us : List (List ℕ)} {y z : State} {e f : List ℕ}
    → OneEach ws → SameMessages ws us → AllTaken σ x d ws y e → AllTaken σ x d us z f → (y ≡ z) × (e ≡ f)
orders_agree one same (arrivals.none_left x d) (arrivals.none_left _ _) = (refl, refl)
orders_agree one same (arrivals.none_left x d) (arrivals.taking _ _ u us z f g q) = absurd (not_none u (same.back u (arrivals.first us)))
orders_agree one same (arrivals.taking x d w ws y e h p) (arrivals.none_left _ _) = absurd (not_none w (same.forth w (arrivals.first ws)))
orders_agree {σ} one same (arrivals.taking x d w ws y e h p) (arrivals.taking _ _ u us z f g q) =
    let all = arrivals.taking x d w ws y e h p in
    let also = arrivals.taking x d u us z f g q in
    let steady = all_steady σ p (report_steady σ x d w h) in
    let still = all_steady σ q (report_steady σ x d u g) in
    (state_agrees all also one same steady still, desk_agrees all also one same steady still)

-- Reports of distinct nodes that are all accepted in two orders from the same state and desk end with the same state and desk. The state
-- need not be one that events lead to, and a held node may report anew.
pub arrival_harmless : {σ : List ℕ} {x : State} {d : List ℕ} {ws us : List (List ℕ)} {y z : State} {e f : List ℕ}
    → Distinct ws → SameMessages ws us → AllTaken σ x d ws y e → AllTaken σ x d us z f → (y ≡ z) × (e ≡ f)
arrival_harmless distinct = orders_agree (distinct_one distinct)

-- and decide gives the same answer: any two outcomes that meet its promise, state and decision, are equal
pub arrival_decides : {σ : List ℕ} {x : State} {d : List ℕ} {ws us : List (List ℕ)} {y z : State} {e f : List ℕ}
    → Distinct ws → SameMessages ws us → AllTaken σ x d ws y e → AllTaken σ x d us z f
    → {r q : Decided} → Decides σ y e r → Decides σ z f q → r ≡ q
arrival_decides {σ} {y = y} {z = z} {f = f} distinct same all also {r} {q} a b =
    let ends = arrival_harmless distinct same all also in
    decides_unique a
    (subst⁻¹ (λ (l : List ℕ). Decides σ y l q) ends.1 (subst⁻¹ (λ (k : State). Decides σ k f q) ends.0 b))

-- and so do any number of improving rounds: state, decision and gap
pub arrival_within : {σ : List ℕ} {x : State} {d : List ℕ} {ws us : List (List ℕ)} {y z : State} {e f : List ℕ}
    → Distinct ws → SameMessages ws us → AllTaken σ x d ws y e → AllTaken σ x d us z f
    → {n : ℕ} {r q : DecidedWithin} → DecidesWithin σ y e n r → DecidesWithin σ z f n q → r ≡ q
arrival_within {σ} {y = y} {z = z} {f = f} distinct same all also {n} {r} {q} a b =
    let ends = arrival_harmless distinct same all also in
    within_unique a
    (subst⁻¹ (λ (l : List ℕ). DecidesWithin σ y l n q) ends.1 (subst⁻¹ (λ (k : State). DecidesWithin σ k f n q) ends.0 b))
