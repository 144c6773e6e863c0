-- Only the planner asks for previews: to any other role the calls answer by lengths and settings alone, and change no lent byte.
use Rattle.std.specs.Prelude.{ℕ, false, List, ◌≡◌}
use Rattle.std.proofs.Common.{ap, ◌∙◌}
use Rattle.base_lent.specs.Definitions.{words_in}
use Rattle.base_ids.specs.declared.Refusal.{Refusal}
use Rattle.base_ids.specs.Definitions.{accepted}
use Rattle.c_state_words.specs.Definitions.{is_state}
use Rattle.c_state.specs.Definitions.{lengths_ok, by_planner}
use Rattle.c_state.specs.Barred.{barred, barred_refuses, entry_barred, called_barred, Bars}
use Rattle.c_events.specs.Definitions.{preview_entry, PreviewCall, warn_refused, WarnCall}

module _ (role : ℕ) (settings state desk buffer : List ℕ) (h : by_planner role ≡ false) where
  preview-entry : preview_entry role settings state desk buffer ≡ barred (lengths_ok desk buffer) settings
  unfolding preview_entry
  preview-entry = entry_barred (by_planner role) (lengths_ok desk buffer) settings (is_state (words_in state)) h

  warn_entry : warn_refused role settings state desk buffer ≡ barred (lengths_ok desk buffer) settings
  unfolding warn_refused
  warn_entry = called_barred (by_planner role) (lengths_ok desk buffer) settings state _ h

  pub preview_barred : {node answer : ℕ} {left : List ℕ} → PreviewCall role settings state desk node buffer answer left
      → Bars (lengths_ok desk buffer) settings buffer answer left
  preview_barred p =
      let r = p.refused (ap accepted preview-entry ∙ barred_refuses (lengths_ok desk buffer) settings) in
      record { answers = r.0 ∙ ap (λ (x : Refusal). x.code) preview-entry; leaves = r.1 }

  pub warn_barred : {answer : ℕ} {left : List ℕ} → WarnCall role settings state desk buffer answer left → Bars (lengths_ok desk buffer) settings buffer answer left
  warn_barred p =
      let r = p.refused (ap accepted warn_entry ∙ barred_refuses (lengths_ok desk buffer) settings) in
      record { answers = r.0 ∙ ap (λ (x : Refusal). x.code) warn_entry; leaves = r.1 }
