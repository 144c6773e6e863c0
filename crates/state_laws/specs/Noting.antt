-- What is remembered after a report: soundly, and of each held node just the view of its report, if it was so before.
use Rattle.std.specs.Prelude.{ℕ, ◌<◌, ◌≤◌, true, ◌≡◌, eqb, length}
use native.Mathlib.Omega.{arith}
use mathlib.Core.List.{List}
use Rattle.std.proofs.Common.{⊎_elim, sym, ◌∙◌}
use Rattle.std.proofs.Math.Path.{ap, subst⁻¹}
use Rattle.std.proofs.Math.ListN.{get_or}
use borrow.Author.Tests.{eqb-true, leb-true}
use Rattle.base_laws.specs.Bools.{or-holds, eq_or_ne}
use Rattle.base_laws.specs.Definitions.{has, with}
use Rattle.base_laws.specs.Masks.{has_with}
use Rattle.settings_values.specs.Definitions.{nodes}
use Rattle.message_format.specs.declared.Contents.{Contents}
use Rattle.message_format.specs.Definitions.{contents_of}
use Rattle.message_reader.specs.Padding.{padded_contents}
use Rattle.report_views.specs.Definitions.{report_of}
use Rattle.report_views.specs.Shorthands.{view_of}
use Rattle.report_rows.specs.declared.latest.Latest.{Latest}
use Rattle.report_rows.specs.Definitions.{latest_at, row18, noted}
use Rattle.report_rows.specs.Laws.{noted_own, noted_other, Recalls}
use Rattle.report_desk.specs.Definitions.{desk_with}
use Rattle.state_laws.specs.Desks.{slot_own, slot_other}

-- of each held node the view of its report is remembered
abbrev pub RecallsReports : ℕ → List ℕ → Latest → Type 0
RecallsReports held d m = (n : ℕ) → n < 32 → has held n ≡ true → latest_at m n ≡ view_of d n

-- the node of the message w reports
module _ (held : ℕ) (d w : List ℕ) (m : Latest) (words : length d ≡ 16384) (few : length w ≤ 512) (below : get_or w 0 0 < 32)
    (passed : row18 m (contents_of w) ≡ true) where
  abbrev latest_now : Latest
  latest_now = noted m (get_or w 0 0) (get_or w 1 0)

  -- its slot has the message's view, and the others what they had
  own_view : view_of (desk_with d (get_or w 0 0) w) (get_or w 0 0) ≡ get_or w 1 0
  unfolding report_of contents_of
  own_view =
      ap (λ (s : List ℕ). (contents_of s).view.0) (slot_own d w (get_or w 0 0) words below)
      ∙ ap (λ (c : Contents). c.view.0) (padded_contents w few)

  other_view : (n : ℕ) → n < 32 → (n ≡ get_or w 0 0 → ⊥) → view_of (desk_with d (get_or w 0 0) w) n ≡ view_of d n
  unfolding report_of
  other_view n l o = ap (λ (s : List ℕ). (contents_of s).view.0) (slot_other d w (get_or w 0 0) words below n l o)

  -- its view is the greatest that it has reported
  own_latest : latest_at latest_now (get_or w 0 0) ≡ get_or w 1 0
  unfolding row18 contents_of
  own_latest =
      let l : latest_at m (get_or w 0 0) ≤ get_or w 1 0 = leb-true _ _ passed in
      noted_own m (get_or w 0 0) (get_or w 1 0) below ∙ omega arith

  -- another node that is held now was held before
  held_other : (n : ℕ) → (n ≡ get_or w 0 0 → ⊥) → has (with held (get_or w 0 0)) n ≡ true → has held n ≡ true
  held_other n o h =
      ⊎_elim (λ p. p) (λ p. absurd (o (sym (eqb-true (get_or w 0 0) n p))))
      (or-holds (has held n) (eqb (get_or w 0 0) n) (sym (has_with held (get_or w 0 0) n) ∙ h))

  -- what is asked of the reporting node and of every other
  by_node : (P : ℕ → Type 0) (n : ℕ) → P (get_or w 0 0) → ((n ≡ get_or w 0 0 → ⊥) → P n) → P n
  by_node P n own other = ⊎_elim (λ e. subst⁻¹ P e own) other (eq_or_ne n (get_or w 0 0))

  pub report_recalls : (σ : List ℕ) (old new : ℕ) → get_or w 0 0 < nodes σ → old ≤ new → get_or w 1 0 ≤ new → Recalls σ old held d m
      → Recalls σ new (with held (get_or w 0 0)) (desk_with d (get_or w 0 0) w) latest_now
  report_recalls σ old new node up own r =
      record {
        from_report = λ n l h.
            by_node (λ i. view_of (desk_with d (get_or w 0 0) w) i ≤ latest_at latest_now i) n (omega (arith, own_view, own_latest))
            (λ o. omega (arith, other_view n l o, noted_other m (get_or w 0 0) (get_or w 1 0) n l o, r.from_report n l (held_other n o h)));
        to_kept = λ n l h.
            by_node (λ i. latest_at latest_now i ≤ new) n (omega (arith, own_latest))
            (λ o. omega (arith, noted_other m (get_or w 0 0) (get_or w 1 0) n l o, r.to_kept n l (held_other n o h)));
        none_past = λ n l h. noted_other m (get_or w 0 0) (get_or w 1 0) n l (λ e. omega arith) ∙ r.none_past n l h;
      }

  pub report_exact : RecallsReports held d m → RecallsReports (with held (get_or w 0 0)) (desk_with d (get_or w 0 0) w) latest_now
  report_exact r n l h =
      by_node (λ i. latest_at latest_now i ≡ view_of (desk_with d (get_or w 0 0) w) i) n (own_latest ∙ sym own_view)
      (λ o. noted_other m (get_or w 0 0) (get_or w 1 0) n l o ∙ r n l (held_other n o h) ∙ sym (other_view n l o))
