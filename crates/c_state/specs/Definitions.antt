-- What the C calls over the planner's state have in common: what the lent bytes mean, when a call is refused, what it answers, and
-- what it leaves in the state's bytes.
use Rattle.std.specs.Prelude.{ℕ, Bool, ◌&&◌, List, eqb, length}
use Rattle.base_ids.specs.declared.Refusal.{Refusal}
use Rattle.base_ids.specs.Definitions.{none, unless, first_of}
use Rattle.base_roles.specs.Definitions.{role_of, may_plan}
use Rattle.base_bytes.specs.Definitions.{bytes_of}
use Rattle.base_lent.specs.Definitions.{words_in, answer_word, bytes_left}
use Rattle.settings_values.specs.Definitions.{settings_ok}
use Rattle.state_planner.specs.declared.State.{State}
use Rattle.state_planner.specs.declared.Answer.{Answer}
use Rattle.state_planner.specs.declared.Answer.TheVariants.{Accepted, Refused}
use Rattle.state_planner.specs.declared.Outcome.{Outcome}
use Rattle.state_planner.specs.Definitions.{desk_ok}
use Rattle.c_state_words.specs.Definitions.{state_words, state_in, is_state}

-- the state that lent bytes say
unfoldable pub state_lent : List ℕ → State
state_lent state = state_in (words_in state)

-- row 1 of a call that writes into a lent buffer: desk and buffer have their lengths
abbrev pub lengths_ok : List ℕ → List ℕ → Bool
lengths_ok desk buffer = desk_ok (words_in desk) && eqb (length (words_in buffer)) 512

-- the word is the planner's role, to whom every operation is allowed
abbrev pub by_planner : ℕ → Bool
by_planner role = may_plan (role_of role)

-- row 1 by the lengths of desk and buffer, row 2, row 15 where the role may not ask the call, and row 3 where the bytes are no state
unfoldable pub entry_refused : Bool → Bool → List ℕ → Bool → Refusal
entry_refused allowed lengths settings ok =
    unless lengths 1 (unless (settings_ok (words_in settings)) 2 (unless allowed 15 (unless ok 3 none)))

-- a call's refusal: those rows, and then the event's own, which has rows 1 and 2 first and soundness at row 3
unfoldable pub called : Bool → Bool → List ℕ → List ℕ → Refusal → Refusal
called allowed lengths settings state event = first_of (entry_refused allowed lengths settings (is_state (words_in state))) event

-- the refusal that an answer holds
abbrev pub refusal_of : Answer → Refusal
refusal_of Accepted = none
refusal_of (Refused r) = r

module _ (role : ℕ) (settings state desk : List ℕ) (o : Outcome) where
  unfoldable pub event_refused : Refusal
  event_refused = called (by_planner role) (desk_ok (words_in desk)) settings state (refusal_of o.answer)

  unfoldable pub event_answer : ℕ
  event_answer = answer_word event_refused 0

  -- the state's bytes afterwards
  unfoldable pub event_leaves : List ℕ
  event_leaves = bytes_left event_refused (bytes_of (state_words o.state)) state
