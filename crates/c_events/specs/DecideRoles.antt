-- Only the planner decides: to any other role the call answers by lengths and settings alone, and changes no lent byte.
use Rattle.std.specs.Prelude.{ℕ, false, List, ◌≡◌}
use Rattle.std.proofs.Common.{ap, ◌∙◌}
use Rattle.base_lent.specs.Definitions.{words_in}
use Rattle.base_ids.specs.declared.Refusal.{Refusal}
use Rattle.base_ids.specs.Definitions.{accepted}
use Rattle.state_planner.specs.Definitions.{desk_ok}
use Rattle.c_state_words.specs.Definitions.{is_state}
use Rattle.c_state.specs.Definitions.{by_planner}
use Rattle.c_state.specs.Barred.{barred, barred_refuses, entry_barred, Bars}
use Rattle.c_events.specs.Definitions.{decide_entry, DecideCall}

module _ (role : ℕ) (settings state desk : List ℕ) (h : by_planner role ≡ false) where
  pub entry_is : decide_entry role settings state desk ≡ barred (desk_ok (words_in desk)) settings
  unfolding decide_entry
  entry_is = entry_barred (by_planner role) (desk_ok (words_in desk)) settings (is_state (words_in state)) h

  pub decide_barred : {answer : ℕ} {left : List ℕ} → DecideCall role settings state desk answer left
      → Bars (desk_ok (words_in desk)) settings state answer left
  decide_barred p =
      let r = p.refused (ap accepted entry_is ∙ barred_refuses (desk_ok (words_in desk)) settings) in
      record { answers = r.0 ∙ ap (λ (x : Refusal). x.code) entry_is; leaves = r.1 }
