-- Every call of the planner is an event, by its own promise: what it did is told by what it hands back. An order, and every call that only
-- looks, leaves the state: nothing happened.
use Rattle.std.specs.Prelude.{ℕ, true, List, ◌≡◌, refl}
use Rattle.std.proofs.Math.Logic.{⊎_elim}
use Rattle.std.proofs.Math.Path.{subst⁻¹}
use Rattle.base_laws.specs.Bools.{either}
use Rattle.base_ids.specs.declared.Refusal.{Refusal}
use Rattle.base_ids.specs.Definitions.{none, accepted}
use Rattle.base_ids.specs.Refusals.{accepted_none}
use Rattle.message_format.specs.Definitions.{contents_of}
use Rattle.report_views.specs.declared.Phase.TheVariants.{Committed}
use Rattle.report_views.specs.declared.Quorum.{Quorum}
use Rattle.report_views.specs.declared.Quorum.TheVariants.{Met, Short}
use Rattle.report_views.specs.Definitions.{quorum_of}
use Rattle.plan_restart.specs.Offers.{plans_next}
use Rattle.state_planner.specs.declared.State.{State}
use Rattle.state_planner.specs.declared.Decided.{Decided}
use Rattle.state_planner.specs.declared.DecidedWithin.{DecidedWithin}
use Rattle.state_planner.specs.Definitions.{report_refusal, drop_refusal, decide_refusal, fetched_refusal, prepared_refusal, after_report, after_drop, after_fetched, after_prepared, outcome_of, reported, dropped, fetched_of, prepared_of, Decides, DecidesWithin}
use Rattle.state_laws.specs.AfterDecide.{plans_sound}
use Rattle.state_laws.specs.Reached as reached
use Rattle.state_laws.specs.Reached.{Reached}
use Rattle.state_commit_laws.specs.Events as events
use Rattle.state_commit_laws.specs.Events.{Deed, Happens, LedTo, Committing, if_taken, happened_by}
use Rattle.state_commit_laws.proofs.Commits.{commits}
use Rattle.state_commit_laws.specs.Calls.{happened_on}

-- ---- report, drop, fetched and prepared

outcome_happens : (r : Refusal) (x next : State) (h : Deed) → (r ≡ none → Happens x h next) → Happens x (if_taken r h) (outcome_of r x next).state
unfolding if_taken outcome_of
outcome_happens r x next h step =
    ⊎_elim (λ a. rw a (step (accepted_none r a))) (λ a. rw a (events.unchanged x)) (either (accepted r))

module _ (σ : List ℕ) (x : State) (d : List ℕ) where
  pub report_happens : (w : List ℕ) → Happens x (if_taken (report_refusal σ x d w) events.Appeared) (reported σ x d w).state
  unfolding reported
  report_happens w = outcome_happens (report_refusal σ x d w) x (after_report σ x (contents_of w)) events.Appeared (λ h. events.report σ x d w h)

  pub drop_happens : (n : ℕ) → Happens x (if_taken (drop_refusal σ x d n) events.DropDone) (dropped σ x d n).state
  unfolding dropped
  drop_happens n = outcome_happens (drop_refusal σ x d n) x (after_drop x n) events.DropDone (λ h. events.drop σ x d n h)

  pub fetched_happens : (n : ℕ) → Happens x (if_taken (fetched_refusal σ x d n) (events.Fetched n)) (fetched_of σ x d n).state
  unfolding fetched_of
  fetched_happens n = outcome_happens (fetched_refusal σ x d n) x (after_fetched x n) (events.Fetched n) (λ h. events.fetch σ x d n h)

  pub prepared_happens : (n : ℕ) → Happens x (if_taken (prepared_refusal σ x d n) (events.PrepareDone n)) (prepared_of σ x d n).state
  unfolding prepared_of
  prepared_happens n = outcome_happens (prepared_refusal σ x d n) x (after_prepared x n) (events.PrepareDone n) (λ h. events.prepare σ x d n h)

-- ---- decide, and decide with improving rounds

module _ {σ : List ℕ} {x : State} {d : List ℕ} {r : Decided} (a : Decides σ x d r) where
  -- what it hands back is so
  by_decided : (o : Decided) → r ≡ o → Happens x (happened_by o.decision) o.state → Happens x (happened_by r.decision) r.state
  by_decided o e k = subst⁻¹ (λ (q : Decided). Happens x (happened_by q.decision) q.state) e k

  decide_answers : accepted (decide_refusal σ x d) ≡ true → (q : Quorum) → quorum_of σ x.kept x.termination x.held d ≡ q
      → Happens x (happened_by r.decision) r.state
  unfolding happened_by
  decide_answers taken (Short reason) h = by_decided _ (a.waits taken reason h) (events.unchanged x)
  decide_answers taken Met h =
      ⊎_elim
      (λ k.
      by_decided _ k.given
      (events.plan σ x d k.plan (accepted_none (decide_refusal σ x d) taken) (plans_sound σ x d k.plan (plans_next k.plans) h)))
      (λ k. by_decided _ k.given (events.unchanged x))
      (a.answers taken h)

  pub decide_happens : Happens x (happened_by r.decision) r.state
  unfolding happened_by
  decide_happens =
      ⊎_elim (λ taken. decide_answers taken (quorum_of σ x.kept x.termination x.held d) refl)
      (λ no. by_decided _ (a.refused no) (events.unchanged x))
      (either (accepted (decide_refusal σ x d)))

module _ {σ : List ℕ} {x : State} {d : List ℕ} {n : ℕ} {r : DecidedWithin} (a : DecidesWithin σ x d n r) where
  by_offered : (o : DecidedWithin) → r ≡ o → Happens x (happened_by o.decision) o.state → Happens x (happened_by r.decision) r.state
  by_offered o e k = subst⁻¹ (λ (q : DecidedWithin). Happens x (happened_by q.decision) q.state) e k

  within_answers : accepted (decide_refusal σ x d) ≡ true → (q : Quorum) → quorum_of σ x.kept x.termination x.held d ≡ q
      → Happens x (happened_by r.decision) r.state
  unfolding happened_by
  within_answers taken (Short reason) h = by_offered _ (a.waits taken reason h) (events.unchanged x)
  within_answers taken Met h =
      ⊎_elim
      (λ k.
      by_offered _ k.given
      (events.plan σ x d k.plan (accepted_none (decide_refusal σ x d) taken) (plans_sound σ x d k.plan k.plans.next h)))
      (λ k. by_offered _ k.given (events.unchanged x))
      (a.answers taken h)

  pub within_happens : Happens x (happened_by r.decision) r.state
  unfolding happened_by
  within_happens =
      ⊎_elim (λ taken. within_answers taken (quorum_of σ x.kept x.termination x.held d) refl)
      (λ no. by_offered _ (a.refused no) (events.unchanged x))
      (either (accepted (decide_refusal σ x d)))

-- ---- the states that are reached

module _ (σ : List ℕ) where
  pub reached_led : {x : State} {d : List ℕ} (r : Reached σ x d) → LedTo ((happened_on σ) r) x
  unfolding happened_on
  reached_led (reached.starting d s l) = events.begun
  reached_led (reached.reporting x d w r h) = events.then ((happened_on σ) r) x events.Appeared _ (reached_led r) (events.report σ x d w h)
  reached_led (reached.dropping x d n r h) = events.then ((happened_on σ) r) x events.DropDone _ (reached_led r) (events.drop σ x d n h)
  reached_led (reached.deciding x d a r h w) = events.then ((happened_on σ) r) x (happened_by a.decision) _ (reached_led r) (decide_happens w)
  reached_led (reached.improving x d n a r h w) = events.then ((happened_on σ) r) x (happened_by a.decision) _ (reached_led r) (within_happens w)
  reached_led (reached.fetching x d n r h) = events.then ((happened_on σ) r) x (events.Fetched n) _ (reached_led r) (events.fetch σ x d n h)
  reached_led (reached.preparing x d n r h) = events.then ((happened_on σ) r) x (events.PrepareDone n) _ (reached_led r) (events.prepare σ x d n h)

  -- of these too
  pub reached_commits : {x : State} {d : List ℕ} (r : Reached σ x d)
      → (x.phase ≡ Committed → Committing ((happened_on σ) r) x.held) × (Committing ((happened_on σ) r) x.held → x.phase ≡ Committed)
  reached_commits r = commits (reached_led r)
