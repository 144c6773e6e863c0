-- What the calls answer and leave, case by case.
-- ---- fresh
-- ---- the check of a state
-- ---- an event that names a node
-- the words that are looked at are those that were lent
use Rattle.std.specs.Prelude.{◌≡◌, true, false, List, ℕ, eqb, length}
use Rattle.std.proofs.Math.Path.{refl, sym, ap}
use Rattle.std.proofs.Common.{◌∙◌, subst}
use borrow.Author.Tests.{eq-eqb, ne_eqb}
use Rattle.base_bytes.specs.Definitions.{bytes_of}
use Rattle.base_lent.specs.Definitions.{words_in}
use Rattle.base_lent.specs.Answers.{Told, told_refused, told_accepted}
use Rattle.base_ids.specs.declared.Refusal.{Refusal}
use Rattle.base_ids.specs.Definitions.{none, refused, accepted}
use Rattle.base_ids.specs.Refusals.{unless_true, unless_false, first_refused}
use Rattle.state_planner.specs.declared.State.{State}
use Rattle.state_planner.specs.declared.Outcome.{Outcome}
use Rattle.state_planner.specs.Definitions as Definitions
use Rattle.state_planner.specs.Definitions.{desk_ok, check_refusal}
use Rattle.c_state_words.specs.Definitions.{state_words, is_state}
use Rattle.c_state.specs.declared.CallFinds.{CallFinds}
use Rattle.c_state.specs.Definitions.{by_planner, state_lent, entry_refused, called, refusal_of}
use Rattle.c_state.specs.Calls.{entry}
use Rattle.c_state.specs.CallLaws.{desk_entry, desk_passes, event-refused, event_done}
use Rattle.c_events.specs.declared.Event.{Event}
use Rattle.c_events.specs.Definitions.{fresh_refused, fresh_answer, fresh_leaves, check_state_answer, happened, taken, take_answer, take_leaves}

module _ (role : ℕ) (state : List ℕ) where
  abbrev ToldFresh : ℕ → List ℕ → Type 0
  ToldFresh answer left = (answer ≡ fresh_answer role state) × (left ≡ fresh_leaves role state)

  pub fresh_barred : by_planner role ≡ false → ToldFresh 15 state
  unfolding fresh_answer fresh_leaves fresh_refused
  fresh_barred n =
      let t = told_refused (refused 15) (fresh_refused role state) (unless_false (by_planner role) 15 _ n) 0 (bytes_of (state_words Definitions.fresh)) state refl in
      (t.answers, t.leaves)

  pub fresh_not_640 : by_planner role ≡ true → (length state ≡ 640 → ⊥) → ToldFresh 3 state
  unfolding fresh_answer fresh_leaves fresh_refused
  fresh_not_640 p h =
      let t = told_refused (refused 3) (fresh_refused role state) (unless_true (by_planner role) 15 _ p ∙ unless_false (eqb (length state) 640) 3 none (ne_eqb (length state) 640 h)) 0 (bytes_of (state_words Definitions.fresh)) state refl in
      (t.answers, t.leaves)

  pub fresh_stored : by_planner role ≡ true → length state ≡ 640 → (x : State) → x ≡ Definitions.fresh → (left : List ℕ) → left ≡ bytes_of (state_words x) → ToldFresh 0 left
  unfolding fresh_answer fresh_leaves fresh_refused
  fresh_stored p h x e left f =
      let t = told_accepted none (fresh_refused role state) (unless_true (by_planner role) 15 _ p ∙ unless_true (eqb (length state) 640) 3 none (eq-eqb (length state) 640 h)) 0 (bytes_of (state_words Definitions.fresh)) state refl in
      (t.answers, f ∙ ap (λ (y : State). bytes_of (state_words y)) e ∙ t.leaves)

module _ (role : ℕ) (settings state desk : List ℕ) (e : CallFinds) (given : e ≡ entry (by_planner role) (eqb (length desk) 65536) settings state) where
  pub check_refused : (e.refusal.code ≡ 0 → ⊥) → e.refusal.code ≡ check_state_answer role settings state desk
  unfolding check_state_answer called entry
  check_refused h =
      let first : e.refusal ≡ entry_refused (by_planner role) (desk_ok (words_in desk)) settings (is_state (words_in state)) =
      ap (λ (x : CallFinds). x.refusal) (desk_entry (by_planner role) settings state desk e given) in
      ap (λ (r : Refusal). r.code)
      (first
      ∙ sym (first_refused (entry_refused (by_planner role) (desk_ok (words_in desk)) settings (is_state (words_in state))) (check_refusal (words_in settings) (state_lent state) (words_in desk)) (ap accepted (sym first) ∙ ne_eqb e.refusal.code 0 h)))

  pub check_done : e.refusal.code ≡ 0 → (r : Refusal) → r ≡ check_refusal (words_in settings) e.state (words_in desk)
      → r.code ≡ check_state_answer role settings state desk
  unfolding check_state_answer
  check_done h r f =
      let p = desk_passes (by_planner role) settings state desk e given h in
      ap (λ (r : Refusal). r.code)
      (f ∙ ap (λ (x : State). check_refusal (words_in settings) x (words_in desk)) p.state_is
      ∙ sym (p.event (check_refusal (words_in settings) (state_lent state) (words_in desk))))

module _ (role : ℕ) (event : Event) (settings state desk : List ℕ) (node : ℕ) where
  abbrev ToldTake : ℕ → List ℕ → Type 0
  ToldTake answer left = (answer ≡ take_answer role event settings state desk node) × (left ≡ take_leaves role event settings state desk node)

  module _ (e : CallFinds) (given : e ≡ entry (by_planner role) (eqb (length desk) 65536) settings state) where
    pub take_refused : (e.refusal.code ≡ 0 → ⊥) → ToldTake e.refusal.code state
    unfolding take_answer take_leaves
    take_refused h = event-refused role settings state desk (taken event settings state desk node) e given h

    pub take_done : e.refusal.code ≡ 0 → (o : Outcome) → o ≡ happened event (words_in settings) e.state (words_in desk) node
        → {answer : ℕ} {left : List ℕ} → Told (refusal_of o.answer) 0 (bytes_of (state_words o.state)) state answer left → ToldTake answer left
    unfolding take_answer take_leaves taken
    take_done h o f {answer} {left} t =
        let same : o ≡ taken event settings state desk node =
        f ∙ ap (λ (x : State). happened event (words_in settings) x (words_in desk) node) (desk_passes (by_planner role) settings state desk e given h).state_is in
        event_done role settings state desk (taken event settings state desk node) e given h
        (subst (λ (p : Outcome). Told (refusal_of p.answer) 0 (bytes_of (state_words p.state)) state answer left) same t)
