-- Reports that arrive one after the other: when all are accepted, and when two lists have the same reports.
use Rattle.std.specs.Prelude.{ℕ, List, [], ◌∷◌, ◌≡◌, get_or}
use Rattle.base_ids.specs.Definitions.{none}
use Rattle.state_planner.specs.declared.State.{State}
use Rattle.state_planner.specs.Definitions.{report_refusal, reported, desk_after}

-- the reports ws, given to the planner one after the other from state x and desk d, are all accepted and lead to state y and desk e
pub data AllTaken (σ : List ℕ) : State → List ℕ → List (List ℕ) → State → List ℕ → Type 0 where
  none_left : (x : State) (d : List ℕ) → AllTaken σ x d [] x d
  taking : (x : State) (d w : List ℕ) (ws : List (List ℕ)) (y : State) (e : List ℕ) → report_refusal σ x d w ≡ none
      → AllTaken σ (reported σ x d w).state (desk_after σ x d w) ws y e → AllTaken σ x d (w ∷ ws) y e

-- the node that sent a message
abbrev pub sender : List ℕ → ℕ
sender w = get_or w 0 0

-- w is one of the messages ws
pub data OneOf (w : List ℕ) : List (List ℕ) → Type 0 where
  first : (ws : List (List ℕ)) → OneOf w (w ∷ ws)
  later : (u : List ℕ) (ws : List (List ℕ)) → OneOf w ws → OneOf w (u ∷ ws)

-- each is of another node
pub data Distinct : List (List ℕ) → Type 0 where
  nobody : Distinct []
  another : (w : List ℕ) (ws : List (List ℕ)) → ((u : List ℕ) → OneOf u ws → sender u ≡ sender w → ⊥) → Distinct ws → Distinct (w ∷ ws)

-- each of ws is one of us, and each of us one of ws
pub record SameMessages (ws us : List (List ℕ)) : Type 0 where
  pub forth : (w : List ℕ) → OneOf w ws → OneOf w us
  pub back : (w : List ℕ) → OneOf w us → OneOf w ws
