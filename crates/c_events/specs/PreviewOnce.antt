-- The promises of the calls leave no freedom: one answer meets each, and one buffer afterwards; after its rows a preview answers a plan or a wait.
use Rattle.std.specs.Prelude.{ℕ, true, List, [], ◌∷◌, ◌⊎◌, ◌≡◌}
use Rattle.std.proofs.Common.{inl, inr, ⊎_elim, sym, ap, ◌∙◌}
use Rattle.base_laws.specs.Bools.{either}
use Rattle.base_laws.specs.Definitions.{padded}
use Rattle.base_bytes.specs.Definitions.{bytes_of}
use Rattle.base_lent.specs.Definitions.{words_in, planned_word, wait_word}
use Rattle.base_ids.specs.Definitions.{accepted}
use Rattle.report_views.specs.declared.Reason.{Reason}
use Rattle.report_views.specs.Definitions.{number_of, value_of}
use Rattle.state_planner.specs.declared.Decided.{Decided}
use Rattle.state_preview.specs.declared.Warning.{Warning}
use Rattle.state_preview.specs.Definitions.{preview_refusal}
use Rattle.state_preview.specs.Laws.{previews_unique, warns_unique, preview_answers}
use Rattle.c_state.specs.Definitions.{state_lent}
use Rattle.c_events.specs.Definitions.{decision_word, preview_leaves, preview_entry, PreviewCall, warn_refused, WarnCall}

module _ {role : ℕ} {settings state desk buffer : List ℕ} {a b : ℕ} {l m : List ℕ} where
  pub preview_unique : {node : ℕ} → PreviewCall role settings state desk node buffer a l → PreviewCall role settings state desk node buffer b m → (a ≡ b) × (l ≡ m)
  preview_unique {node} p q =
      ⊎_elim
      (λ h.
      let x = p.previewed h in
      let y = q.previewed h in
      let same : x.outcome ≡ y.outcome = previews_unique (words_in settings) (state_lent state) (words_in desk) node x.previews y.previews in (
        x.answers ∙ (ap (λ (o : Decided). decision_word o.decision) same ∙ sym y.answers),
        x.leaves ∙ (ap (λ (o : Decided). preview_leaves o.decision o.state buffer) same ∙ sym y.leaves),
      ))
      (λ h. ((p.refused h).0 ∙ sym (q.refused h).0, (p.refused h).1 ∙ sym (q.refused h).1))
      (either (accepted (preview_entry role settings state desk buffer)))

  pub warn_unique : WarnCall role settings state desk buffer a l → WarnCall role settings state desk buffer b m → (a ≡ b) × (l ≡ m)
  warn_unique p q =
      ⊎_elim
      (λ h.
      let x = p.warned h in
      let y = q.warned h in
      let same : x.warning ≡ y.warning = warns_unique (words_in settings) (state_lent state) (words_in desk) x.warns y.warns in (
        x.answers ∙ sym y.answers,
        x.leaves ∙ (ap (λ (w : Warning). bytes_of (padded 512 (w.lost ∷ []))) same ∙ sym y.leaves),
      ))
      (λ h. ((p.refused h).0 ∙ sym (q.refused h).0, (p.refused h).1 ∙ sym (q.refused h).1))
      (either (accepted (warn_refused role settings state desk buffer)))

-- past the rows the answer is a plan's or a wait's
pub preview_told : {role : ℕ} {settings state desk buffer : List ℕ} {node a : ℕ} {l : List ℕ} → PreviewCall role settings state desk node buffer a l
    → accepted (preview_entry role settings state desk buffer) ≡ true
    → accepted (preview_refusal (words_in settings) (state_lent state) (words_in desk) node) ≡ true
    → (a ≡ planned_word) ⊎ ((reason : Reason) × (a ≡ wait_word (number_of reason) (value_of reason)))
preview_told {settings = settings} {state = state} {desk = desk} {node = node} p h t =
    let x = p.previewed h in
    ⊎_elim (λ w. inl (x.answers ∙ ap (λ (o : Decided). decision_word o.decision) w.1))
    (λ w. inr (w.0, x.answers ∙ ap (λ (o : Decided). decision_word o.decision) w.1))
    (preview_answers (words_in settings) (state_lent state) (words_in desk) node x.previews t)
