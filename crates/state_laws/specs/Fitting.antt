-- When a report fits a kept view and termination (no view above the kept one, rows 12 and 13, its termination kept), and why it
-- still fits after another report changed what is kept.
use Rattle.std.specs.Prelude.{ℕ, ◌<◌, ◌≤◌, true, false, not, ◌&&◌, List, ◌≡◌, refl}
use Rattle.std.proofs.Common.{arith, sym, ap}
use Rattle.std.proofs.Math.Logic.{⊎_elim}
use Rattle.std.proofs.Math.Dec.{eqb}
use borrow.Author.Tests.{eqb-false, eq-eqb, ne_eqb, le-leb}
use Rattle.base_laws.specs.Bools.{either, clash, and_both, and_fails, and_fails_left, and_fails_right, or_left, or_right, or-holds, not_of_false, of_not_true, of_not_false}
use Rattle.base_laws.specs.Below.{all_of}
use Rattle.settings_values.specs.Definitions.{shards}
use Rattle.base_ids.specs.declared.Refusal.{Refusal}
use Rattle.base_ids.specs.declared.Position.{Position}
use Rattle.base_ids.specs.Definitions.{none, accepted}
use Rattle.message_format.specs.declared.Form.TheVariants.{Report}
use Rattle.message_format.specs.declared.Contents.{Contents}
use Rattle.message_format.specs.Definitions.{members_of, contents_of, message_refusal}
use Rattle.report_views.specs.declared.Layout.{Layout}
use Rattle.report_views.specs.declared.Termination.{Termination}
use Rattle.report_views.specs.Definitions.{slot, report_of, terminated, terminated_at, mask_at, position_at, of_kept, same_view, row12, same_position, same_termination, row13, term_kept, slot_ok}
use Rattle.report_views.specs.Meets.{SlotSound}
use Rattle.report_kept.specs.Definitions.{layout_of, termination_of}
use Rattle.state_laws.specs.Keeping.{mask_same, position_same}

pub record Fits (σ : List ℕ) (v : Layout) (t : Termination) (c : Contents) : Type 0 where
  pub no_later : c.view.0 ≤ v.number.0
  pub masks-same : row12 σ v c ≡ true
  pub term_same : row13 σ v t c ≡ true
  pub term-kept : term_kept σ v t c ≡ true

-- words that are node n's valid report, and fit
pub record FitReport (σ : List ℕ) (v : Layout) (t : Termination) (w : List ℕ) (n : ℕ) : Type 0 where
  pub valid : message_refusal Report σ w ≡ none
  pub own : (contents_of w).node.0 ≡ n
  pub fits : Fits σ v t (contents_of w)

module _ (σ : List ℕ) (v : Layout) (t : Termination) (d : List ℕ) (n : ℕ) where
  pub slot_reported : SlotSound σ v t d n → FitReport σ v t (slot d n) n
  unfolding report_of
  slot_reported s =
      record {
        valid = s.valid;
        own = s.own;
        fits = record { no_later = s.no_later; masks-same = s.masks-same; term_same = s.term_same; term-kept = s.term-kept };
      }

  pub reported_slot : FitReport σ v t (slot d n) n → slot_ok σ v t d n ≡ true
  unfolding slot_ok report_of
  reported_slot r =
      and_both
      (and_both
      (and_both
      (and_both
      (and_both (ap (λ (k : Refusal). accepted k) r.valid) (eq-eqb (contents_of (slot d n)).node.0 n r.own))
      (le-leb (contents_of (slot d n)).view.0 v.number.0 r.fits.no_later))
      r.fits.masks-same)
      r.fits.term_same)
      r.fits.term-kept

module _ (σ : List ℕ) (v : Layout) (t : Termination) (c : Contents) where
  -- a report of another view than the kept one
  other_fits : c.view.0 ≤ v.number.0 → of_kept v c ≡ false → Fits σ v t c
  unfolding row12 row13 term_kept
  other_fits l e =
      record {
        no_later = l;
        masks-same = or_left (same_view σ v c) (not_of_false e);
        term_same = or_left (same_termination σ t c) (not_of_false (and_fails_left t.made (and_fails_left (terminated σ c) e)));
        term-kept = or_left t.made (not_of_false (and_fails_left (terminated σ c) e));
      }

  -- a greater view is kept now
  pub greater_fits : (u : Layout) (r : Termination) → u.number.0 < v.number.0 → Fits σ u r c → Fits σ v t c
  greater_fits u r l f =
      other_fits (omega (arith, f.no_later)) (ne_eqb c.view.0 v.number.0 (λ e. omega (arith, f.no_later)))

  -- a termination is kept now, and none was before
  pub added_fits : (r : Termination) → r.made ≡ false → Fits σ v r c → Fits σ v t c
  unfolding row13 term_kept
  added_fits r unmade f =
      let q =
      ⊎_elim (λ e. of_not_true (of_kept v c && terminated σ c) e) (λ e. clash e unmade)
      (or-holds (not (of_kept v c && terminated σ c)) r.made f.term-kept) in
      record {
        no_later = f.no_later;
        masks-same = f.masks-same;
        term_same = or_left (same_termination σ t c) (not_of_false (and_fails_left t.made q));
        term-kept = or_left t.made (not_of_false q);
      }

  -- a report that changes nothing that is kept
  pub known_fits : c.view.0 ≤ v.number.0 → row12 σ v c ≡ true → row13 σ v t c ≡ true
      → (eqb v.number.0 c.view.0 && not t.made) ≡ false → Fits σ v t c
  unfolding term_kept
  known_fits l masks term e =
      record {
        no_later = l;
        masks-same = masks;
        term_same = term;
        term-kept =
            ⊎_elim
            (λ q.
            or_left t.made
            (not_of_false (and_fails_left (terminated σ c) (ne_eqb c.view.0 v.number.0 (λ k. eqb-false v.number.0 c.view.0 q (sym k))))))
            (λ q. or_right (not (of_kept v c && terminated σ c)) (of_not_false t.made q))
            (and_fails (eqb v.number.0 c.view.0) (not t.made) e);
      }

module _ (σ : List ℕ) (few : shards σ ≤ 16) (c : Contents) where
  -- the report whose view becomes the kept one has its masks
  pub own_masks : row12 σ (layout_of σ c) c ≡ true
  unfolding row12 same_view layout_of
  own_masks =
      or_right (not (of_kept (layout_of σ c) c))
      (and_both (eq-eqb c.members c.members refl)
      (all_of (shards σ) (λ s. eqb (members_of c.body s) (mask_at (layout_of σ c) s))
      (λ s l. eq-eqb (members_of c.body s) (mask_at (layout_of σ c) s) (sym (mask_same σ c few s l)))))

  same-position : (p q : Position) → q ≡ p → same_position p q ≡ true
  same-position p q e = rw e (and_both (eq-eqb p.view.0 p.view.0 refl) (eq-eqb p.k p.k refl))

  -- a report whose termination becomes the kept one
  pub own_fits : (v : Layout) → c.view.0 ≤ v.number.0 → row12 σ v c ≡ true → Fits σ v (termination_of σ c) c
  unfolding row13 same_termination term_kept termination_of
  own_fits v l masks =
      record {
        no_later = l;
        masks-same = masks;
        term_same =
            ⊎_elim
            (λ made.
            or_right (not (of_kept v c && terminated σ c && terminated σ c))
            (all_of (shards σ) (λ s. same_position (terminated_at σ c s) (position_at (termination_of σ c) s))
            (λ s i. same-position (terminated_at σ c s) (position_at (termination_of σ c) s) (position_same σ c few made s i))))
            (λ unmade. or_left _ (not_of_false (and_fails_right (of_kept v c && terminated σ c) unmade)))
            (either (terminated σ c));
        term-kept =
            ⊎_elim (λ made. or_right (not (of_kept v c && terminated σ c)) made)
            (λ unmade. or_left (terminated σ c) (not_of_false (and_fails_right (of_kept v c) unmade)))
            (either (terminated σ c));
      }
