-- The promise of the call leaves no freedom, and only the planner is answered by state and desk.
use Rattle.std.specs.Prelude.{ℕ, false, List, ◌≡◌}
use Rattle.std.proofs.Common.{⊎_elim, sym, ◌∙◌}
use Rattle.std.proofs.Math.Path.{ap}
use Rattle.base_laws.specs.Bools.{either}
use Rattle.base_lent.specs.Definitions.{words_in}
use Rattle.base_ids.specs.declared.Refusal.{Refusal}
use Rattle.base_ids.specs.Definitions.{accepted}
use Rattle.state_planner.specs.Definitions.{desk_ok}
use Rattle.state_game.specs.Asked.{plays_unique}
use Rattle.c_state_words.specs.Definitions.{is_state}
use Rattle.c_state.specs.Definitions.{by_planner, state_lent}
use Rattle.c_state.specs.Barred.{barred, barred_refuses, entry_barred}
use Rattle.c_events.specs.Definitions.{decide_entry, played_word, GameCall}

module _ {role : ℕ} {settings state desk : List ℕ} {held rounds : ℕ} where
  -- one answer
  pub game_unique : {a b : ℕ} → GameCall role settings state desk held rounds a → GameCall role settings state desk held rounds b → a ≡ b
  game_unique p q =
      ⊎_elim
      (λ h.
      let v = p.played h in
      let w = q.played h in
      v.answers
      ∙ ap played_word
      (plays_unique (words_in settings) (state_lent state) (words_in desk) held rounds v.outcome w.outcome v.plays w.plays)
      ∙ sym w.answers)
      (λ h. p.refused h ∙ sym (q.refused h)) (either (accepted (decide_entry role settings state desk)))

  -- any other role than the planner's is answered by lengths and settings alone
  pub game_barred : by_planner role ≡ false → {a : ℕ} → GameCall role settings state desk held rounds a
      → a ≡ (barred (desk_ok (words_in desk)) settings).code
  unfolding decide_entry
  game_barred h p =
      let e = entry_barred (by_planner role) (desk_ok (words_in desk)) settings (is_state (words_in state)) h in
      p.refused (ap accepted e ∙ barred_refuses (desk_ok (words_in desk)) settings) ∙ ap (λ (r : Refusal). r.code) e
