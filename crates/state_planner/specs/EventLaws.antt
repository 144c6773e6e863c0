-- Laws that the events' code uses: what acceptance gives, and what an event hands back by the refusal that its code found.
use Rattle.std.specs.Prelude.{ℕ, ◌<◌, Bool, List, ◌≡◌, Result, Ok, Err}
use Rattle.std.proofs.Math.Bool.{true, false}
use Rattle.std.proofs.Math.Logic.{⊎_elim}
use Rattle.std.proofs.Math.Path.{refl, sym, ap, ap₂}
use Rattle.std.proofs.Common.{◌∙◌, arith, eq-eqb, ne_eqb}
use Rattle.base_laws.specs.Bools.{either}
use Rattle.settings_values.specs.Definitions.{Settings}
use Rattle.settings_values.specs.Laws.{settings_give}
use Rattle.base_ids.specs.declared.Refusal.{Refusal}
use Rattle.base_ids.specs.Definitions.{none, accepted, or_refusal}
use Rattle.base_ids.specs.Refusals.{accepted_none}
use Rattle.base_ids.specs.Results.{ok_is, err_is, ok_none, err_value, err_refused}
use Rattle.report_views.specs.declared.Phase.{Phase}
use Rattle.state_planner.specs.declared.State.{State}
use Rattle.state_planner.specs.declared.Outcome.{Outcome}
use Rattle.state_planner.specs.Definitions.{desk_ok, entry_refusal, event_refusal, refusing, accepting, outcome_of}
use Rattle.state_planner.specs.Entry.{entry_given, node_given}
use Rattle.state_planner.specs.Events.{is_accepted, outcome_step, outcome_by}

module _ (lengths : Bool) (σ : List ℕ) (x : State) (d : List ℕ) (inPhase : Bool) where
  pub entry_settings : accepted (entry_refusal lengths σ x d inPhase) ≡ true → Settings σ
  entry_settings h =
      settings_give σ (entry_given lengths σ x d inPhase (accepted_none (entry_refusal lengths σ x d inPhase) h)).settings-ok

module _ (r : Refusal) (x next : State) where
  pub outcome_accepted : accepted r ≡ true → outcome_of r x next ≡ accepting next
  unfolding outcome_of
  outcome_accepted h = rw h

  pub outcome_refused : accepted r ≡ false → outcome_of r x next ≡ refusing x r
  unfolding outcome_of
  outcome_refused h = rw h

  -- an answer accepts where nothing is refused
  pub answer_accepts : {o : Outcome} → o ≡ outcome_of r x next → is_accepted o.answer ≡ accepted r
  unfolding is_accepted
  answer_accepts {o} f =
      ap (λ (k : Outcome). is_accepted k.answer) f
      ∙ ⊎_elim (λ h. ap (λ (k : Outcome). is_accepted k.answer) (outcome_accepted h) ∙ sym h)
      (λ h. ap (λ (k : Outcome). is_accepted k.answer) (outcome_refused h) ∙ sym h) (either (accepted r))

-- r is what the code found of the refusal s
module _ {r s : Refusal} (e : r ≡ s) (x next : State) where
  pub settles_refused : (r.code ≡ 0 → ⊥) → refusing x r ≡ outcome_of s x next
  settles_refused h = sym (outcome_refused r x next (ne_eqb r.code 0 h)) ∙ ap (λ (k : Refusal). outcome_of k x next) e

  pub settles_accepted : r.code ≡ 0 → accepting next ≡ outcome_of s x next
  settles_accepted h = sym (outcome_accepted r x next (eq-eqb r.code 0 h)) ∙ ap (λ (k : Refusal). outcome_of k x next) e

pub given_is : (r : Refusal) (x next : State) → outcome_step (outcome_of r x next) ≡ or_refusal r next
given_is r x next =
    ⊎_elim (λ h. ap outcome_step (outcome_accepted r x next h) ∙ ok_is r next (accepted_none r h))
    (λ h. ap outcome_step (outcome_refused r x next h) ∙ err_is r r next refl h) (either (accepted r))

-- and back
pub handed_is : (r : Refusal) (x next : State) → outcome_by x (or_refusal r next) ≡ outcome_of r x next
handed_is r x next =
    ⊎_elim (λ h. sym (ap (outcome_by x) (ok_is r next (accepted_none r h))) ∙ sym (outcome_accepted r x next h))
    (λ h. sym (ap (outcome_by x) (err_is r r next refl h)) ∙ sym (outcome_refused r x next h)) (either (accepted r))

-- what a call gives under a refusal, whatever stands beside it
module _ {A : Type 0} (r e : Refusal) (a : A) (f : Err e ≡ or_refusal r a) where
  pub given_refusal : e ≡ r
  given_refusal = err_value r e a f

  pub given_refuses : accepted e ≡ false
  given_refuses = ap accepted given_refusal ∙ err_refused r e a f

  pub refused_beside : {B : Type 0} (b : B) → Err e ≡ or_refusal r b
  refused_beside b = err_is r e b given_refusal given_refuses

module _ {A : Type 0} (r : Refusal) (a v : A) (f : Ok v ≡ or_refusal r a) where
  pub given_none : r ≡ none
  given_none = ok_none r a v f

  pub taken_beside : {B : Type 0} (b : B) → Ok b ≡ or_refusal r b
  taken_beside b = ok_is r b given_none

-- an event that names node n: p and q are what its code found of the phase and of the node, y of the next state
module _ (σ : List ℕ) (x : State) (d : List ℕ) (p : Bool) (n : ℕ) (q : Bool) {inPhase ok : Bool} (f : p ≡ inPhase) (g : q ≡ ok) where
  refusal : Refusal
  refusal = event_refusal (desk_ok d) σ x d p n q

  -- an accepted one names a node of the settings
  below : accepted refusal ≡ true → n < 32
  unfolding refusal
  below h =
      let t = node_given (desk_ok d) σ x d p n q (accepted_none refusal h) in
      omega (arith, t.node_below, (settings_give σ t.entered.settings-ok).sizes.nodes_to)

  pub event_settles : (y next : State) {o : Outcome} → o ≡ outcome_of (event_refusal (desk_ok d) σ x d p n q) x y → (n < 32 → y ≡ next)
      → o ≡ outcome_of (event_refusal (desk_ok d) σ x d inPhase n ok) x next
  unfolding refusal
  event_settles y next e i =
      e ∙ same (accepted refusal) refl ∙ ap₂ (λ (a b : Bool). outcome_of (event_refusal (desk_ok d) σ x d a n b) x next) f g
    where
      same : (b : Bool) → accepted refusal ≡ b → outcome_of refusal x y ≡ outcome_of refusal x next
      same true h = ap (λ (z : State). outcome_of refusal x z) (i (below h))
      same false h = outcome_refused refusal x y h ∙ sym (outcome_refused refusal x next h)

  pub event_gives : (y next : State) {o : Result State Refusal} → o ≡ or_refusal (event_refusal (desk_ok d) σ x d p n q) y → (n < 32 → y ≡ next)
      → o ≡ or_refusal (event_refusal (desk_ok d) σ x d inPhase n ok) next
  event_gives y next e i =
      e ∙ sym (given_is (event_refusal (desk_ok d) σ x d p n q) x y) ∙ ap outcome_step (event_settles y next refl i)
      ∙ given_is (event_refusal (desk_ok d) σ x d inPhase n ok) x next

-- a state by its phase and the marks changed, where the phase follows from the marks
pub marks_step : (mk : Phase → ℕ → State) (ph : ℕ → Phase) {y : State} {p : Phase} {f g : ℕ} → y ≡ mk p f → p ≡ ph f → f ≡ g → y ≡ mk (ph g) g
marks_step mk ph {f = f} i e h = i ∙ ap (λ (q : Phase). mk q f) e ∙ ap (λ (k : ℕ). mk (ph k) k) h
