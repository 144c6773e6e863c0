-- What is told by node: a report gives its own node's entry and leaves the others, so after all of them each sender's entry is by its
-- message and every other one is as it was, in whatever order they came.
use Rattle.std.specs.Prelude.{ℕ, List, ◌≡◌, refl}
use Rattle.std.proofs.Common.{sym, ◌∙◌}
use Rattle.base_ids.specs.Definitions.{none}
use Rattle.state_planner.specs.declared.State.{State}
use Rattle.state_planner.specs.Definitions.{report_refusal, reported, desk_after}
use Rattle.state_arrival_laws.specs.Arrivals as arrivals
use Rattle.state_arrival_laws.specs.Arrivals.{AllTaken, sender}
use Rattle.state_arrival_laws.specs.Messages.{Unsent}

-- cell: the entry of a node; mark: what a message makes it; inside: the nodes that have one
module _ (σ : List ℕ) {A : Type 0} (cell : State → List ℕ → ℕ → A) (mark : List ℕ → A) (inside : ℕ → Type 0)
    (own : (x : State) (d w : List ℕ) → report_refusal σ x d w ≡ none → cell (reported σ x d w).state (desk_after σ x d w) (sender w) ≡ mark w)
    (other : (x : State) (d w : List ℕ) → report_refusal σ x d w ≡ none → (n : ℕ) → inside n → (n ≡ sender w → ⊥)
    → cell (reported σ x d w).state (desk_after σ x d w) n ≡ cell x d n) where
  -- the entry of a node that sent none
  pub cell_else : {x : State} {d : List ℕ} {ws : List (List ℕ)} {y : State} {e : List ℕ} → AllTaken σ x d ws y e → (n : ℕ) → inside n → Unsent n ws
      → cell y e n ≡ cell x d n
  cell_else (arrivals.none_left x d) n i free = refl
  cell_else (arrivals.taking x d w ws y e h r) n i free =
      cell_else r n i (λ u a. free u (arrivals.later w ws a)) ∙ other x d w h n i (λ k. free w (arrivals.first ws) (sym k))
