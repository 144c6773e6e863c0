-- The promise of the call leaves no freedom: one answer meets it, and one state afterwards; and calls that agree on what decide reads
-- answer the same, with the same plan.
use Rattle.std.specs.Prelude.{ℕ, true, List, ◌≡◌}
use Rattle.std.proofs.Common.{⊎_elim, sym, ap, ◌∙◌}
use Rattle.base_laws.specs.Bools.{either}
use Rattle.base_lent.specs.Definitions.{words_in}
use Rattle.base_ids.specs.Definitions.{accepted}
use Rattle.report_views.specs.Agreeing.{SameReports}
use Rattle.state_planner.specs.declared.Decided.{Decided}
use Rattle.state_planner.specs.Definitions.{decide_refusal}
use Rattle.state_laws.specs.Once.{SameAsked, SameSaid}
use Rattle.state_laws.proofs.Once.{same_said, same_state, decides_unique}
use Rattle.c_state.specs.Definitions.{state_lent}
use Rattle.c_events.specs.Definitions.{decision_word, decision_leaves, decide_entry, ByOutcome, DecideCall}

-- the same outcome gives the same answer and the same bytes
outcome_same : {settings state desk other : List ℕ} {a b : ℕ} {l m : List ℕ} (p : ByOutcome settings state desk a l) (q : ByOutcome settings state other b m)
    → p.outcome ≡ q.outcome → (a ≡ b) × (l ≡ m)
outcome_same {state = state} p q e = (
  p.answers ∙ (ap (λ (o : Decided). decision_word o.decision) e ∙ sym q.answers),
  p.leaves ∙ (ap (λ (o : Decided). decision_leaves o.decision o.state state) e ∙ sym q.leaves),
)

-- one call: one answer, and the same bytes
pub call_unique : {role : ℕ} {settings state desk : List ℕ} {a b : ℕ} {l m : List ℕ} → DecideCall role settings state desk a l → DecideCall role settings state desk b m
    → (a ≡ b) × (l ≡ m)
call_unique {role} {settings} {state} {desk} p q =
    ⊎_elim (λ h. outcome_same (p.decided h) (q.decided h) (decides_unique (p.decided h).decides (q.decided h).decides))
    (λ h. ((p.refused h).0 ∙ sym (q.refused h).0, (p.refused h).1 ∙ sym (q.refused h).1))
    (either (accepted (decide_entry role settings state desk)))

-- two calls that agree on the settings, the kept view, its termination, the held mask and the contents of the held reports: one answer, and where it
-- is a plan one plan
pub calls_agree : {role : ℕ} {settings state second desk other : List ℕ} {a b : ℕ} {l m : List ℕ} (p : DecideCall role settings state desk a l)
    (q : DecideCall role settings second other b m) (h : accepted (decide_entry role settings state desk) ≡ true)
    (k : accepted (decide_entry role settings second other) ≡ true)
    → accepted (decide_refusal (words_in settings) (state_lent state) (words_in desk)) ≡ true
    → accepted (decide_refusal (words_in settings) (state_lent second) (words_in other)) ≡ true
    → SameAsked (state_lent state) (state_lent second) (words_in desk) (words_in other)
    → (a ≡ b) × SameSaid (p.decided h).outcome (q.decided k).outcome
calls_agree p q h k taken also same =
    let said = same_said (p.decided h).decides (q.decided k).decides taken also same in
    ((p.decided h).answers ∙ (ap decision_word said.decision ∙ sym (q.decided k).answers), said)

-- with the same state: the same bytes
pub calls_leave : {role : ℕ} {settings state desk other : List ℕ} {a b : ℕ} {l m : List ℕ} → DecideCall role settings state desk a l → DecideCall role settings state other b m
    → accepted (decide_entry role settings state desk) ≡ true → accepted (decide_entry role settings state other) ≡ true
    → accepted (decide_refusal (words_in settings) (state_lent state) (words_in desk)) ≡ true
    → accepted (decide_refusal (words_in settings) (state_lent state) (words_in other)) ≡ true
    → SameReports (state_lent state).held (words_in desk) (words_in other) → l ≡ m
calls_leave p q h k taken also same =
    (outcome_same (p.decided h) (q.decided k) (same_state (p.decided h).decides (q.decided k).decides taken also same)).1
