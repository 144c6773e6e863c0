-- What is told by node: a report gives its own node's entry and leaves the others, so after all of them each sender's entry is by its
-- message and every other one is as it was, in whatever order they came.
use Rattle.std.specs.Prelude.{ℕ, List, ◌≡◌, refl}
use Rattle.std.proofs.Common.{⊎_elim, sym, ◌∙◌, subst}
use Rattle.std.proofs.Math.Path.{subst⁻¹}
use Rattle.base_ids.specs.Definitions.{none}
use Rattle.state_planner.specs.declared.State.{State}
use Rattle.state_planner.specs.Definitions.{report_refusal, reported, desk_after}
use Rattle.state_arrival_laws.specs.Arrivals as arrivals
use Rattle.state_arrival_laws.specs.Arrivals.{AllTaken, sender, OneOf, SameMessages}
use Rattle.state_arrival_laws.specs.Messages.{not_none, head_or, Unsent, SentBy, sent_or, OneEach, one_same}
use Rattle.state_arrival_laws.specs.Cells.{cell_else}

-- cell: the entry of a node; mark: what a message makes it; inside: the nodes that have one
module _ (σ : List ℕ) {A : Type 0} (cell : State → List ℕ → ℕ → A) (mark : List ℕ → A) (inside : ℕ → Type 0)
    (own : (x : State) (d w : List ℕ) → report_refusal σ x d w ≡ none → cell (reported σ x d w).state (desk_after σ x d w) (sender w) ≡ mark w)
    (other : (x : State) (d w : List ℕ) → report_refusal σ x d w ≡ none → (n : ℕ) → inside n → (n ≡ sender w → ⊥)
    → cell (reported σ x d w).state (desk_after σ x d w) n ≡ cell x d n) where
  -- the entry of a sender
  pub cell_of : {x : State} {d : List ℕ} {ws : List (List ℕ)} {y : State} {e : List ℕ} → AllTaken σ x d ws y e → OneEach ws → (w : List ℕ) → OneOf w ws
      → inside (sender w) → cell y e (sender w) ≡ mark w
  cell_of (arrivals.none_left x d) one w a i = absurd (not_none w a)
  cell_of (arrivals.taking x d u ws y e h r) one w a i =
      ⊎_elim (again (λ b. cell_of r (λ v t b c. one v t (arrivals.later u ws b) (arrivals.later u ws c)) w b i)) last (sent_or (sender w) ws)
    where
      again : (OneOf w ws → cell y e (sender w) ≡ mark w) → SentBy (sender w) ws → cell y e (sender w) ≡ mark w
      again rest s =
          let same : s.message ≡ w = one s.message w (arrivals.later u ws s.among) a s.by in
          rest (subst (λ (v : List ℕ). OneOf v ws) same s.among)

      last : Unsent (sender w) ws → cell y e (sender w) ≡ mark w
      last free =
          (cell_else σ cell mark inside own other) r (sender w) i free
          ∙ ⊎_elim (λ q. subst⁻¹ (λ (v : List ℕ). cell (reported σ x d u).state (desk_after σ x d u) (sender v) ≡ mark v) q (own x d u h))
          (λ b. absurd (free w b refl)) (head_or w u ws a)

  -- the entries after two orders
  pub cells_same : {x : State} {d : List ℕ} {ws us : List (List ℕ)} {y z : State} {e f : List ℕ} → AllTaken σ x d ws y e → AllTaken σ x d us z f
      → OneEach ws → SameMessages ws us → (n : ℕ) → inside n → cell y e n ≡ cell z f n
  cells_same {ws = ws} {us = us} {y = y} {z = z} {e = e} {f = f} a b one same n i = ⊎_elim sent unsent (sent_or n ws)
    where
      sent : SentBy n ws → cell y e n ≡ cell z f n
      sent s =
          subst (λ (k : ℕ). cell y e k ≡ cell z f k) s.by
          (let j = subst⁻¹ inside s.by i in
          cell_of a one s.message s.among j ∙ sym (cell_of b (one_same same one) s.message (same.forth s.message s.among) j))

      unsent : Unsent n ws → cell y e n ≡ cell z f n
      unsent free = (cell_else σ cell mark inside own other) a n i free ∙ sym ((cell_else σ cell mark inside own other) b n i (λ w m. free w (same.back w m)))
