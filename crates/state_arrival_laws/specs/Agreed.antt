-- The kept view and termination of two ends are equal where both come from the same messages and every message fits both.
use Rattle.std.specs.Prelude.{ℕ, ◌<◌, ◌≤◌, true, not, ◌&&◌, ◌⊎◌, ◌≡◌, ltb}
use Rattle.std.proofs.Common.{arith, inl, inr, ◌∙◌}
use Rattle.std.proofs.Math.Bool.{cond}
use mathlib.Core.List.{List}
use Rattle.std.proofs.Math.Logic.{⊎_elim}
use Rattle.std.proofs.Math.Path.{sym, ap, subst}
use Rattle.std.proofs.Math.Dec.{eqb}
use borrow.Author.Tests.{eqb-true, eq-eqb, lt-ltb, le-ltb}
use Rattle.base_laws.specs.Bools.{clash, lt_or_le, and_both, and_left, and_right, or-holds, of_not_true}
use Rattle.base_laws.specs.Below.{all_at}
use Rattle.base_laws.specs.Definitions.{tabulate}
use Rattle.base_laws.specs.Tables.{tabulate_cong}
use Rattle.settings_values.specs.Definitions.{shards}
use Rattle.base_ids.specs.declared.View.{View}
use Rattle.message_format.specs.declared.Contents.{Contents}
use Rattle.message_format.specs.Definitions.{members_of, contents_of}
use Rattle.report_views.specs.declared.Layout.{Layout}
use Rattle.report_views.specs.declared.Termination.{Termination}
use Rattle.report_views.specs.Definitions.{terminated, mask_at, of_kept, same_view, row12, same_termination, row13, term_kept}
use Rattle.report_kept.specs.Definitions.{layout_of}
use Rattle.state_laws.specs.Keeping.{mask_same}
use Rattle.state_laws.specs.Fitting.{Fits}
use Rattle.state_arrival_laws.specs.Arrivals.{OneOf}
use Rattle.state_arrival_laws.specs.Kept.{view_in, NewView, KeptThrough}

-- ---- from equal numbers

pub view_equal : (a b : View) → a.0 ≡ b.0 → a ≡ b
view_equal a b e = ap (λ (k : ℕ). record { 0 = k }) e

-- ---- a message of the kept view

module _ (σ : List ℕ) (v : Layout) (t : Termination) (c : Contents) (fits : Fits σ v t c) (e : c.view.0 ≡ v.number.0) where
  of-kept : of_kept v c ≡ true
  of-kept = eq-eqb c.view.0 v.number.0 e

  -- has its masks
  pub masks_agree : same_view σ v c ≡ true
  unfolding row12
  masks_agree = ⊎_elim (λ h. clash of-kept (of_not_true (of_kept v c) h)) (λ h. h) (or-holds (not (of_kept v c)) (same_view σ v c) fits.masks-same)

  -- and where it has a termination, one is kept, the same
  pub made_agrees : terminated σ c ≡ true → t.made ≡ true
  unfolding term_kept
  made_agrees m =
      ⊎_elim (λ h. clash (and_both of-kept m) (of_not_true (of_kept v c && terminated σ c) h)) (λ h. h)
      (or-holds (not (of_kept v c && terminated σ c)) t.made fits.term-kept)

  pub positions_agree : terminated σ c ≡ true → same_termination σ t c ≡ true
  unfolding row13
  positions_agree m =
      ⊎_elim (λ h. clash (and_both (and_both of-kept m) (made_agrees m)) (of_not_true (of_kept v c && terminated σ c && t.made) h)) (λ h. h)
      (or-holds (not (of_kept v c && terminated σ c && t.made)) (same_termination σ t c) fits.term_same)

-- ---- what two messages of one view give to be kept

module _ (σ : List ℕ) (few : shards σ ≤ 16) (b c : Contents) where
  mask_equal : same_view σ (layout_of σ c) b ≡ true → (s : ℕ) → s < shards σ → members_of b.body s ≡ members_of c.body s
  unfolding same_view
  mask_equal h s l =
      eqb-true (members_of b.body s) (mask_at (layout_of σ c) s)
      (all_at (shards σ) (λ i. eqb (members_of b.body i) (mask_at (layout_of σ c) i))
      (and_right (eqb b.members (layout_of σ c).members) _ h) s l)
      ∙ mask_same σ c few s l

  members_equal : same_view σ (layout_of σ c) b ≡ true → b.members ≡ c.members
  unfolding same_view layout_of
  members_equal h = eqb-true b.members c.members (and_left (eqb b.members c.members) _ h)

  layout_equal : b.view.0 ≡ c.view.0 → same_view σ (layout_of σ c) b ≡ true → layout_of σ b ≡ layout_of σ c
  unfolding layout_of
  layout_equal e h =
      let numbers : b.view ≡ c.view = view_equal b.view c.view e in
      let masks : tabulate 16 (λ s. cond (ltb s (shards σ)) (members_of b.body s) 0) ≡ tabulate 16 (λ s. cond (ltb s (shards σ)) (members_of c.body s) 0)
      = tabulate_cong 16 _ _ (λ s l. ⊎_elim (λ i. rw (lt-ltb s (shards σ) i) (mask_equal h s i)) (λ i. rw (le-ltb s (shards σ) i)) (lt_or_le s (shards σ))) in
      rw (numbers, members_equal h, masks)

-- ---- two ends

-- v with t was kept before; u with r, and y with z, are kept after the same messages
module _ (σ : List ℕ) (v : Layout) (t : Termination) (ws : List (List ℕ)) (u : Layout) (r : Termination) (y : Layout) (z : Termination) where
  -- a view that no message exceeds is not the old one where another is a message's
  view_apart : {A : Type 0} → ((w : List ℕ) → OneOf w ws → Fits σ u r (contents_of w)) → u ≡ v → NewView σ v ws y → A
  view_apart fits e k =
      let q : u.number.0 ≡ v.number.0 = ap (λ (l : Layout). l.number.0) e in
      absurd (omega (arith, (fits k.message k.among).no_later, k.greater))

  -- every message fits both
  module _ (few : shards σ ≤ 16) (fits : (w : List ℕ) → OneOf w ws → Fits σ u r (contents_of w)) (also : (w : List ℕ) → OneOf w ws → Fits σ y z (contents_of w)) where
    views_equal : (k : NewView σ v ws u) (l : NewView σ v ws y) → layout_of σ (contents_of k.message) ≡ layout_of σ (contents_of l.message)
    unfolding layout_of
    views_equal k l =
        let first : u.number.0 ≡ view_in k.message = ap (λ (i : Layout). i.number.0) k.given in
        let second : y.number.0 ≡ view_in l.message = ap (λ (i : Layout). i.number.0) l.given in
        let fit = also k.message k.among in
        let e : view_in k.message ≡ view_in l.message = omega (arith, fit.no_later, (fits l.message l.among).no_later) in
        layout_equal σ few (contents_of k.message) (contents_of l.message) e
        (subst (λ (i : Layout). same_view σ i (contents_of k.message) ≡ true) l.given (masks_agree σ y z (contents_of k.message) fit (omega arith)))

module _ (σ : List ℕ) (few : shards σ ≤ 16) (v : Layout) (t : Termination) (ws : List (List ℕ)) (u : Layout) (r : Termination) (y : Layout) (z : Termination)
    (fits : (w : List ℕ) → OneOf w ws → Fits σ u r (contents_of w)) (also : (w : List ℕ) → OneOf w ws → Fits σ y z (contents_of w)) where
  view_of : (u ≡ v) ⊎ NewView σ v ws u → (y ≡ v) ⊎ NewView σ v ws y → u ≡ y
  view_of (inl e) (inl f) = e ∙ sym f
  view_of (inl e) (inr l) = view_apart σ v t ws u r y z fits e l
  view_of (inr k) (inl f) = view_apart σ v t ws y z u r also f k
  view_of (inr k) (inr l) = k.given ∙ (views_equal σ v t ws u r y z few fits also k l ∙ sym l.given)

  pub view_agrees : KeptThrough σ v t ws u r → KeptThrough σ v t ws y z → u ≡ y
  view_agrees k l = view_of k.view l.view
