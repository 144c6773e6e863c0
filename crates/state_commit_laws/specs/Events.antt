-- What happened, event by event, from the fresh state: settings, desk and messages may be other ones at each call.
use Rattle.std.specs.Prelude.{ℕ, Bool, true, false, cond, ◌&&◌, ◌||◌, List, [], ◌∷◌, ◌≡◌, eqb}
use Rattle.base_laws.specs.Definitions.{has}
use Rattle.base_ids.specs.declared.Refusal.{Refusal}
use Rattle.base_ids.specs.Definitions.{none, accepted}
use Rattle.message_format.specs.Definitions.{contents_of}
use Rattle.report_views.specs.declared.Plan.{Plan}
use Rattle.report_views.specs.Definitions.{plan_sound}
use Rattle.state_planner.specs.declared.State.{State}
use Rattle.state_planner.specs.declared.Decision.{Decision}
use Rattle.state_planner.specs.Definitions.{fresh, planned, report_refusal, drop_refusal, decide_refusal, fetched_refusal, prepared_refusal, after_report, after_drop, after_fetched, after_prepared}

-- what a call did; nothing: it was refused, a wait, an order
pub data Deed : Type 0 where
  NothingDone : Deed
  Appeared : Deed
  DropDone : Deed
  PlanDone : Deed
  Fetched : ℕ → Deed
  PrepareDone : ℕ → Deed

-- an event leads from one state to the next: any call that is refused or changes nothing, and each call that is accepted, where a plan
-- may be any sound one
pub data Happens : State → Deed → State → Type 0 where
  unchanged : (x : State) → Happens x NothingDone x
  report : (σ : List ℕ) (x : State) (d w : List ℕ) → report_refusal σ x d w ≡ none → Happens x Appeared (after_report σ x (contents_of w))
  drop : (σ : List ℕ) (x : State) (d : List ℕ) (n : ℕ) → drop_refusal σ x d n ≡ none → Happens x DropDone (after_drop x n)
  plan : (σ : List ℕ) (x : State) (d : List ℕ) (p : Plan) → decide_refusal σ x d ≡ none → plan_sound σ x.kept x.termination x.held d p ≡ true
      → Happens x PlanDone (planned x p)
  fetch : (σ : List ℕ) (x : State) (d : List ℕ) (n : ℕ) → fetched_refusal σ x d n ≡ none → Happens x (Fetched n) (after_fetched x n)
  prepare : (σ : List ℕ) (x : State) (d : List ℕ) (n : ℕ) → prepared_refusal σ x d n ≡ none → Happens x (PrepareDone n) (after_prepared x n)

-- these events, the latest first, lead from the fresh state to this one
pub data LedTo : List Deed → State → Type 0 where
  begun : LedTo [] fresh
  then : (l : List Deed) (x : State) (h : Deed) (y : State) → LedTo l x → Happens x h y → LedTo (h ∷ l) y

-- the event is a plan
unfoldable pub is_planned : Deed → Bool
is_planned NothingDone = false
is_planned Appeared = false
is_planned DropDone = false
is_planned PlanDone = true
is_planned (Fetched n) = false
is_planned (PrepareDone n) = false

-- a drop
unfoldable pub is_dropped : Deed → Bool
is_dropped NothingDone = false
is_dropped Appeared = false
is_dropped DropDone = true
is_dropped PlanDone = false
is_dropped (Fetched n) = false
is_dropped (PrepareDone n) = false

-- node m was marked fetched
unfoldable pub is_fetched : ℕ → Deed → Bool
is_fetched m NothingDone = false
is_fetched m Appeared = false
is_fetched m DropDone = false
is_fetched m PlanDone = false
is_fetched m (Fetched n) = eqb n m
is_fetched m (PrepareDone n) = false

-- node m was marked prepared
unfoldable pub is_prepared : ℕ → Deed → Bool
is_prepared m NothingDone = false
is_prepared m Appeared = false
is_prepared m DropDone = false
is_prepared m PlanDone = false
is_prepared m (Fetched n) = false
is_prepared m (PrepareDone n) = eqb n m

-- one of the events is such
unfoldable pub some_of : (Deed → Bool) → List Deed → Bool
some_of f [] = false
some_of f (h ∷ l) = f h || some_of f l

-- a plan was made
abbrev pub made : List Deed → Bool
made l = some_of is_planned l

-- what happened since the last plan
unfoldable pub since : List Deed → List Deed
since [] = []
since (h ∷ l) = cond (is_planned h) [] (h ∷ since l)

-- node n was marked fetched, and then prepared
unfoldable pub done : ℕ → List Deed → Bool
done n [] = false
done n (h ∷ l) = is_prepared n h && some_of (is_fetched n) l || done n l

-- a plan was made, and since the last one no drop was accepted and each held node was marked fetched and then prepared
pub record Committing (l : List Deed) (held : ℕ) : Type 0 where
  pub plan : made l ≡ true
  pub no_drop : some_of is_dropped (since l) ≡ false
  pub marked : (n : ℕ) → has held n ≡ true → done n (since l) ≡ true

-- ---- what a call did, by what it hands back

-- an event with this refusal
unfoldable pub if_taken : Refusal → Deed → Deed
if_taken r h = cond (accepted r) h NothingDone

-- a decision
unfoldable pub happened_by : Decision → Deed
happened_by Decision.Planned = PlanDone
happened_by (Decision.Wait reason) = NothingDone
happened_by (Decision.Refused r) = NothingDone
