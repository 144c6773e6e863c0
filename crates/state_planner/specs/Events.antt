-- Answers that accept, and an outcome beside what the code finds: the next state, or the refusal.
use Rattle.std.specs.Prelude.{Bool, true, false, Result, Ok, Err}
use Rattle.base_ids.specs.declared.Refusal.{Refusal}
use Rattle.state_planner.specs.declared.State.{State}
use Rattle.state_planner.specs.declared.Answer.{Answer}
use Rattle.state_planner.specs.declared.Outcome.{Outcome}

-- an answer that accepts
unfoldable pub is_accepted : Answer → Bool
is_accepted Answer.Accepted = true
is_accepted (Answer.Refused r) = false

-- what the code finds of an outcome: the next state, or the refusal
abbrev answer_step : Answer → State → Result State Refusal
answer_step Answer.Accepted x = Ok x
answer_step (Answer.Refused r) x = Err r

abbrev pub outcome_step : Outcome → Result State Refusal
outcome_step o = answer_step o.answer o.state

-- the outcome of that: beside a refusal the state x as it was
abbrev pub outcome_by : State → Result State Refusal → Outcome
outcome_by x (Ok next) = record { state = next; answer = Answer.Accepted }
outcome_by x (Err r) = record { state = x; answer = Answer.Refused r }
