-- What is printed, stage by stage.
use Rattle.std.specs.Prelude.{ℕ, ◌-◌, ◌≤◌, Bool, ◌≡◌, refl, length}
use Rattle.std.proofs.Math.Bool.{true, cond}
use mathlib.Core.List.{List}
use Rattle.std.proofs.Math.Path.{sym, ap, subst}
use Rattle.std.proofs.Common.{◌∙◌, arith, eq-eqb, ne_eqb}
use Rattle.std.proofs.Math.ListN.{take}
use Rattle.base_laws.specs.Tables.{part_front}
use Rattle.base_ids.specs.declared.Refusal.{Refusal}
use Rattle.base_ids.specs.Definitions.{refused, accepted}
use Rattle.settings_values.specs.Definitions.{nodes, Settings}
use Rattle.settings_values.specs.Laws.{settings_give}
use Rattle.state_planner.specs.declared.State.{State}
use Rattle.state_readiness.specs.declared.ReadyRows.{ReadyRows}
use Rattle.state_readiness.specs.Definitions.{Readies}
use Rattle.state_readiness.specs.Answers.{ReadyGiven, ready_given}
use Rattle.program_text.specs.Definitions.{number_line, Puts}
use Rattle.program_text.specs.Text.{number_line_length}
use Rattle.program_run.specs.declared.Stage.{Stage}
use Rattle.program_run.specs.declared.Stage.TheVariants.{Opening, Open, Closed}
use Rattle.program_run.specs.declared.Run.{Run}
use Rattle.program_run.specs.Definitions.{Progress, progress_at, progress_of}
use Rattle.program_sheet_text.specs.Definitions.{sheet_text}
use Rattle.program_sheet_text.proofs.Laws.{sheet_length}
use Rattle.program_sheet.specs.Definitions.{readiness_text, SheetPrints, SheetWrites}

-- what it means that readiness refuses nothing
pub ready_passed : (σ : List ℕ) (x : State) (d : List ℕ) (r : ReadyRows) → Readies true σ x d r → r.refusal.code ≡ 0 → ReadyGiven true σ x d
ready_passed σ x d r readies h =
    ready_given true σ x d (sym (ap accepted readies.answers) ∙ eq-eqb r.refusal.code 0 h)

pub ready_settings : (σ : List ℕ) (x : State) (d : List ℕ) (r : ReadyRows) → Readies true σ x d r → r.refusal.code ≡ 0 → Settings σ
ready_settings σ x d r readies h = settings_give σ (ready_passed σ x d r readies h).settings-ok

-- the settings of a run, as the code cuts them out
own_settings : (run : Run) → take (run.words - 0) run.settings ≡ take run.words run.settings
own_settings run = part_front run.words run.settings

-- what a run has come to, by its stage
progress_by : (run : Run) (d : List ℕ) (s : Stage) → run.stage ≡ s → progress_of run d ≡ progress_at s (take run.words run.settings) run.state d
progress_by run d s h = ap (λ (k : Stage). progress_at k (take run.words run.settings) run.state d) h

module _ (run : Run) (d out after : List ℕ) (n : ℕ) where
  pub sheet_opening : run.stage ≡ Opening → Puts out 0 (number_line (refused 2)) after n → SheetWrites (progress_of run d) out after n
  unfolding progress_at SheetPrints
  sheet_opening h p =
      record {
        text = number_line (refused 2);
        prints = subst (λ (q : Progress). SheetPrints q (number_line (refused 2))) (sym (progress_by run d Opening h)) refl;
        fits = omega (arith, number_line_length (refused 2));
        puts = p;
      }

  pub sheet_closed : (r : Refusal) → run.stage ≡ Closed r → Puts out 0 (number_line r) after n → SheetWrites (progress_of run d) out after n
  unfolding progress_at SheetPrints
  sheet_closed r h p =
      record {
        text = number_line r;
        prints = subst (λ (q : Progress). SheetPrints q (number_line r)) (sym (progress_by run d (Closed r) h)) refl;
        fits = omega (arith, number_line_length r);
        puts = p;
      }

  module _ (r : ReadyRows) (h : run.stage ≡ Open) (readies : Readies true (take (run.words - 0) run.settings) run.state d r) where
    -- the text of the state's readiness
    sheet_by : (text : List ℕ) → text ≡ readiness_text (take (run.words - 0) run.settings) r → length text ≤ 32768 → Puts out 0 text after n
        → SheetWrites (progress_of run d) out after n
    unfolding progress_at SheetPrints
    sheet_by text says few p =
        record {
          text = text;
          prints =
              subst (λ (q : Progress). SheetPrints q text) (sym (progress_by run d Open h))
              (record {
                readiness = r;
                readies = subst (λ (σ : List ℕ). Readies true σ run.state d r) (own_settings run) readies;
                says = says ∙ ap (λ (σ : List ℕ). readiness_text σ r) (own_settings run);
              });
          fits = few;
          puts = p;
        }

    pub sheet_refused : (r.refusal.code ≡ 0 → ⊥) → Puts out 0 (number_line r.refusal) after n → SheetWrites (progress_of run d) out after n
    unfolding readiness_text
    sheet_refused k p =
        sheet_by (number_line r.refusal)
        (sym (ap (λ (b : Bool). cond b (sheet_text r.rows (nodes (take (run.words - 0) run.settings))) (number_line r.refusal)) (ne_eqb r.refusal.code 0 k)))
        (omega (arith, number_line_length r.refusal)) p

    pub sheet_shown : (m : ℕ) → r.refusal.code ≡ 0 → m ≡ nodes (take (run.words - 0) run.settings) → Puts out 0 (sheet_text r.rows m) after n
        → SheetWrites (progress_of run d) out after n
    unfolding readiness_text
    sheet_shown m k e p =
        let σ = take (run.words - 0) run.settings in
        let few : m ≤ 10 = omega (arith, e, (ready_passed σ run.state d r readies k).few) in
        sheet_by (sheet_text r.rows m)
        (ap (sheet_text r.rows) e ∙ sym (ap (λ (b : Bool). cond b (sheet_text r.rows (nodes σ)) (number_line r.refusal)) (eq-eqb r.refusal.code 0 k)))
        (sheet_length r.rows m few) p
