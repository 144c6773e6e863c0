-- Row 15 in its place: a call that its role may not ask is refused by lengths and settings alone, whatever state and event are, and one
-- that it may ask has the rows that follow.
use Rattle.std.specs.Prelude.{ℕ, Bool, true, false, List, ◌≡◌, refl}
use Rattle.std.proofs.Math.Path.{ap}
use Rattle.base_lent.specs.Definitions.{words_in, answer_word, bytes_left}
use Rattle.base_ids.specs.declared.Refusal.{Refusal}
use Rattle.base_ids.specs.Definitions.{none, refused, accepted, unless, first_of}
use Rattle.settings_values.specs.Definitions.{settings_ok}
use Rattle.state_planner.specs.declared.Outcome.{Outcome}
use Rattle.state_planner.specs.Definitions.{desk_ok}
use Rattle.c_state_words.specs.Definitions.{is_state}
use Rattle.c_state.specs.Definitions.{by_planner, entry_refused, called, event_refused, event_answer, event_leaves}

-- rows 1, 2 and 15
unfoldable pub barred : Bool → List ℕ → Refusal
barred lengths settings = unless lengths 1 (unless (settings_ok (words_in settings)) 2 (refused 15))

-- rows 1, 2 and 3, of a call that is allowed
unfoldable pub admitted : Bool → List ℕ → Bool → Refusal
admitted lengths settings ok = unless lengths 1 (unless (settings_ok (words_in settings)) 2 (unless ok 3 none))

pub barred_refuses : (lengths : Bool) (settings : List ℕ) → accepted (barred lengths settings) ≡ false
unfolding barred unless
barred_refuses lengths settings = go lengths (settings_ok (words_in settings))
  where
    go : (a b : Bool) → accepted (unless a 1 (unless b 2 (refused 15))) ≡ false
    go true true = refl
    go true false = refl
    go false b = refl

module _ (allowed lengths : Bool) (settings : List ℕ) where
  pub entry_barred : (ok : Bool) → allowed ≡ false → entry_refused allowed lengths settings ok ≡ barred lengths settings
  unfolding entry_refused barred unless
  entry_barred ok h = rw h

  pub entry_admitted : (ok : Bool) → allowed ≡ true → entry_refused allowed lengths settings ok ≡ admitted lengths settings ok
  unfolding entry_refused admitted unless
  entry_admitted ok h = rw h

  module _ (state : List ℕ) (event : Refusal) where
    pub called_barred : allowed ≡ false → called allowed lengths settings state event ≡ barred lengths settings
    unfolding called first_of
    called_barred h = rw (entry_barred (is_state (words_in state)) h, barred_refuses lengths settings)

    pub called_admitted : allowed ≡ true
        → called allowed lengths settings state event ≡ first_of (admitted lengths settings (is_state (words_in state))) event
    unfolding called
    called_admitted h = ap (λ (r : Refusal). first_of r event) (entry_admitted (is_state (words_in state)) h)

-- what a call answers and leaves where it is barred: the word of that refusal, and what was lent
pub record Bars (lengths : Bool) (settings : List ℕ) (bytes : List ℕ) (answer : ℕ) (left : List ℕ) : Type 0 where
  pub answers : answer ≡ (barred lengths settings).code
  pub leaves : left ≡ bytes

module _ (allowed lengths : Bool) (settings state : List ℕ) (event : Refusal) (h : allowed ≡ false) (given : ℕ) (made bytes : List ℕ) where
  pub told_barred : Bars lengths settings bytes (answer_word (called allowed lengths settings state event) given)
      (bytes_left (called allowed lengths settings state event) made bytes)
  unfolding answer_word bytes_left
  told_barred =
      let e = called_barred allowed lengths settings state event h in
      let n = barred_refuses lengths settings in
      record { answers = rw (e, n); leaves = rw (e, n) }

module _ (role : ℕ) (settings state desk : List ℕ) (o : Outcome) where
  pub event_barred : by_planner role ≡ false
      → Bars (desk_ok (words_in desk)) settings state (event_answer role settings state desk o) (event_leaves role settings state desk o)
  unfolding event_answer event_leaves event_refused
  event_barred h = told_barred (by_planner role) (desk_ok (words_in desk)) settings state _ h 0 _ state
