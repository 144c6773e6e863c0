-- Laws over the values that definitions have, where the code gives a Result or an Option.
use Rattle.std.specs.Prelude.{◌≡◌, Bool, List, ℕ, ◌-◌, drop}
use Rattle.std.proofs.Math.Path.{ap}
use Rattle.std.proofs.Common.{◌∙◌, ⊎_elim}
use Rattle.std.proofs.Math.Bool.{false}
use Rattle.std.proofs.Math.ListN.{length, take}
use Rattle.base_laws.specs.Bools.{either, no_true}
use Rattle.base_lent.specs.Definitions.{words_in}
use Rattle.base_lent.specs.Lent.{bytes_of_words, HoldsSettings}
use Rattle.base_ids.specs.declared.Refusal.{Refusal}
use Rattle.base_ids.specs.Definitions.{none, unless}
use Rattle.settings_values.specs.Definitions.{settings_ok}
use Rattle.c_messages.specs.Limits.{settings_same}
use Rattle.state_planner.specs.Definitions.{fresh}
use Rattle.c_state_words.specs.Definitions.{is_state}
use Rattle.c_state_words.specs.StateWords.{decoded}
use Rattle.c_state_words.specs.Laws.{stated}
use Rattle.c_state_words.specs.declared.DecodedState.{DecodedState}
use Rattle.c_state.specs.declared.CallFinds.{CallFinds}
use Rattle.c_state.specs.Definitions.{entry_refused}
use Rattle.c_state.specs.Calls.{entry}

not_state : (w : List ℕ) → (length w ≡ 160 → ⊥) → is_state w ≡ false
not_state w h = no_true (is_state w) (λ s. h (stated w s).long)

decoded_ok : (w : List ℕ) → (decoded w).ok ≡ is_state w
unfolding decoded
decoded_ok w = ⊎_elim (λ e. rw e) (λ e. rw e) (either (is_state w))

-- bytes of another length are no state
pub decoded_other : (b : List ℕ) → (length b ≡ 640 → ⊥) → decoded (words_in b) ≡ record { ok = false; state = fresh }
unfolding decoded
decoded_other b h = rw (not_state (words_in b) (λ e. h (bytes_of_words b 159 e)))

pub entry_of : (allowed lengths : Bool) (settings state : List ℕ) (d : DecodedState) → d ≡ decoded (words_in state)
    → (table : List ℕ) (n : ℕ) → HoldsSettings table n settings
    → (right : Bool) → right ≡ settings_ok (take (n - 0) (drop 0 table))
    → (r : Refusal) → r ≡ unless lengths 1 (unless right 2 (unless allowed 15 (unless d.ok 3 none)))
    → ◌≡◌ {A = CallFinds} (record { refusal = r; state = d.state; settings = table; words = n }) (entry allowed lengths settings state)
unfolding entry entry_refused
entry_of allowed lengths settings state d e table n h right q r f =
    let checked : right ≡ settings_ok (words_in settings) = q ∙ ap settings_ok h.front ∙ settings_same settings in
    let held = h.whole in
    let counted = h.count in
    rw (f, checked, e, decoded_ok (words_in state), held, counted)
