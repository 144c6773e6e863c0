-- A report of the kept view taken in at once: it is not refused, and what is kept stays.
use Rattle.std.specs.Prelude.{ℕ, ◌/◌, ◌%◌, ◌<◌, ◌≤◌, Bool, true, false, List, ◌≡◌, refl, length}
use Rattle.std.proofs.Common.{arith, ⊎_elim, ◌∙◌, subst, eq-eqb}
use Rattle.std.proofs.Math.Path.{sym, ap, ap₂}
use Rattle.std.proofs.Math.Dec.{leb}
use Rattle.std.proofs.Math.ListN.{get_or}
use Rattle.base_laws.specs.Bools.{either, clash, no_true}
use Rattle.base_ids.specs.declared.View.{View}
use Rattle.settings_values.specs.Definitions.{Settings}
use Rattle.base_ids.specs.Definitions.{none, accepted}
use Rattle.base_ids.specs.Refusals.{unless_none, first_none}
use Rattle.message_format.specs.declared.Form.TheVariants.{Report}
use Rattle.message_format.specs.declared.Contents.{Contents}
use Rattle.message_format.specs.Definitions.{message_refusal, contents_of}
use Rattle.message_format.specs.Passed.{MessagePasses, message_none}
use Rattle.report_views.specs.declared.Layout.{Layout}
use Rattle.report_views.specs.declared.Termination.{Termination}
use Rattle.report_views.specs.Definitions.{no_termination, terminated, row12, row13, term_kept}
use Rattle.report_rows.specs.declared.latest.Latest.{Latest}
use Rattle.report_rows.specs.Definitions.{latest_at, row18}
use Rattle.report_walk.specs.Pairs.{FitWords, pairs_of}
use Rattle.report_walk.specs.Seen.{SlotTold}
use Rattle.report_walk.specs.Kept.{TablesOf, ready_means}
use Rattle.report_walk.specs.declared.Tables.{Tables}
use Rattle.report_walk.specs.Sound.{Walked, told_passes, told_view, told_row12, told_row13, told_kept}
use Rattle.report_kept.specs.declared.Kept.{Kept}
use Rattle.report_kept.specs.declared.Received.{Received}
use Rattle.report_kept.specs.Definitions.{kept_refusal, refusal_beside, termination_of, keeps, renewed}
use Rattle.report_kept.specs.Reports.{taken_in}
use Rattle.report_kept.specs.Words.{made_first}
use Rattle.report_kept.specs.Laws.{termination_none, renewed_equal, in_taken}

-- w reports the kept view and passes rows 5 to 13; a termination in it is kept
pub record ReportsKept (σ : List ℕ) (v : Layout) (t : Termination) (w : List ℕ) : Type 0 where
  pub passes : MessagePasses Report σ w
  pub view : (contents_of w).view.0 ≡ v.number.0
  pub masks : row12 σ v (contents_of w) ≡ true
  pub positions : row13 σ v t (contents_of w) ≡ true
  pub kept : term_kept σ v t (contents_of w) ≡ true

-- what is kept stays after node n's report of the kept view
abbrev pub kept_stays : ℕ → Layout → Termination → Received
kept_stays n v t =
    record { refusal = none; node = record { 0 = n }; view = v.number; kept = v; termination = made_first t no_termination }

-- w is taken in, and what is kept stays
pub record TakenAtOnce (σ : List ℕ) (v : Layout) (t : Termination) (m : Latest) (w : List ℕ) : Type 0 where
  pub some : 1 ≤ length w
  pub stays : kept_stays (get_or w 0 0) v t ≡ taken_in σ v t m w

-- a message that the walk tells up to record n, one of its own
pub walked_kept : (σ : List ℕ) (v : Layout) (t : Termination) (w : List ℕ) (x : Tables) {b k l : List ℕ} {node n : ℕ}
    → Settings σ → TablesOf σ v t x → FitWords w → b ≡ pairs_of w
    → (n ≤ 127 → (x.frame.ready ≡ true) × SlotTold x.frame.number.0 x.frame.members x.masks x.frame.made x.positions x.frame.count b node k l n)
    → length w ≤ 512 → length w % 4 ≡ 0 → n < length w / 4 → ReportsKept σ v t w
walked_kept σ v t w x {b = b} {k = k} {l = l} {node = node} {n = n} right tables words pairs seen short whole within =
    record {
      passes = told_passes g short whole within;
      view = told_view g;
      masks = told_row12 g;
      positions = told_row13 g;
      kept = told_kept g;
    }
  where
    told : (x.frame.ready ≡ true) × SlotTold x.frame.number.0 x.frame.members x.masks x.frame.made x.positions x.frame.count b node k l n
    told = seen (omega arith)

    g : Walked σ v t w b x.masks x.positions k l node n
    g =
        record {
          right = right;
          kept = ready_means σ v t (sym tables.ready ∙ told.0);
          words = words;
          pairs = pairs;
          members = tables.masks;
          ends = tables.positions;
          seen =
              subst (λ (y : ℕ). SlotTold v.number.0 v.members x.masks t.made x.positions y b node k l n) tables.count
              (subst (λ (y : Bool). SlotTold v.number.0 v.members x.masks y x.positions x.frame.count b node k l n) tables.made
              (subst (λ (y : ℕ). SlotTold v.number.0 y x.masks x.frame.made x.positions x.frame.count b node k l n) tables.members
              (subst (λ (y : View). SlotTold y.0 x.frame.members x.masks x.frame.made x.positions x.frame.count b node k l n) tables.number told.1)));
        }

module _ (σ : List ℕ) (v : Layout) (t : Termination) (m : Latest) (w : List ℕ) (g : ReportsKept σ v t w) where
  abbrev report_kept : Contents
  report_kept = contents_of w

  -- no termination of its own
  own : t.made ≡ false → terminated σ report_kept ≡ false
  unfolding term_kept
  own e = no_true (terminated σ report_kept) (λ h. clash g.kept (rw (eq-eqb report_kept.view.0 v.number.0 g.view, h, e) refl))

  first_made : made_first t no_termination ≡ made_first t (termination_of σ report_kept)
  first_made =
      ⊎_elim (λ e. rw e refl) (λ e. rw e (termination_none σ report_kept (own e))) (either t.made)

  module _ (late : leb (latest_at m (get_or w 0 0)) v.number.0 ≡ true) where
    passes_row18 : row18 m report_kept ≡ true
    unfolding row18 contents_of
    passes_row18 = ap (λ (x : ℕ). leb (latest_at m (get_or w 0 0)) x) g.view ∙ late

    not_refused : refusal_beside σ v t m w ≡ none
    unfolding refusal_beside kept_refusal
    not_refused =
        first_none (message_refusal Report σ w) (kept_refusal σ v t m report_kept) (message_none Report σ w g.passes)
        ∙ unless_none _ _ _ passes_row18 (unless_none _ _ _ g.masks (unless_none _ _ _ g.positions refl))

    stays_renewed : keeps v (made_first t no_termination) ≡ renewed σ v t report_kept
    stays_renewed = ap (keeps v) first_made ∙ renewed_equal σ v t report_kept (sym g.view)

    pub taken_at_once : kept_stays (get_or w 0 0) v t ≡ taken_in σ v t m w
    unfolding contents_of
    taken_at_once =
        ap₂ (λ (n : ℕ) (k : Kept). record { refusal = none; node = record { 0 = get_or w 0 0 }; view = record { 0 = n }; kept = k.view; termination = k.termination }) (sym g.view) stays_renewed
        ∙ sym (in_taken σ v t m w (ap accepted not_refused))
