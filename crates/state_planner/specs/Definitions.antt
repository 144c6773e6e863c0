-- What contracts cite, each definition after those that it builds on. Laws stand in the files beside this one.
use Rattle.std.specs.Prelude.{ℕ, Bool, ◌&&◌, true, not, false, cond, List, eqb, length, get_or, ◌⊎◌, ◌≡◌}
use Rattle.base_laws.specs.Definitions.{has, with, without}
use Rattle.base_ids.specs.declared.Refusal.{Refusal}
use Rattle.base_ids.specs.Definitions.{none, unless, first_of, accepted}
use Rattle.base_bytes.specs.Definitions.{bytes_of}
use Rattle.base_lent.specs.Definitions.{words_in}
use Rattle.settings_values.specs.Definitions.{settings_ok}
use Rattle.message_format.specs.declared.Contents.{Contents}
use Rattle.message_format.specs.Definitions.{contents_of}
use Rattle.place_groups.specs.Definitions.{LowestUnplaced}
use Rattle.report_views.specs.declared.Layout.{Layout}
use Rattle.report_views.specs.declared.Termination.{Termination}
use Rattle.report_views.specs.declared.Plan.{Plan}
use Rattle.report_views.specs.declared.Phase.{Phase}
use Rattle.report_views.specs.declared.Phase.TheVariants.{Gathering, Ordered, Preparing, Committed}
use Rattle.report_views.specs.Definitions.{slots_ok, kept_sound, marks_sound, plan_fits, no_view, no_termination, no_plan, quorum_of, is_gathering, is_ordered, is_preparing, is_committed}
use Rattle.report_views.specs.declared.Reason.{Reason}
use Rattle.report_views.specs.declared.Reason.TheVariants.{NoPlacement}
use Rattle.report_views.specs.declared.Quorum.TheVariants.{Met, Short}
use Rattle.report_rows.specs.declared.latest.Latest.{Latest}
use Rattle.report_rows.specs.Definitions.{no_latest, latest_sound, noted}
use Rattle.report_desk.specs.Definitions.{desk_with}
use Rattle.report_kept.specs.Definitions.{refusal_beside, renewed}
use Rattle.plan_restart.specs.Definitions.{Plans, PlansWithin}
use Rattle.state_rows.specs.Definitions.{node_refusal}
use Rattle.state_planner.specs.declared.State.{State}
use Rattle.state_planner.specs.declared.Outcome.{Outcome}
use Rattle.state_planner.specs.declared.Answer.{Answer}
use Rattle.state_planner.specs.declared.Decision.{Decision}
use Rattle.state_planner.specs.declared.Decided.{Decided}
use Rattle.state_planner.specs.declared.DecidedWithin.{DecidedWithin}

-- ---- The planner's state: when it is sound beside a desk, the fresh state, and a state with a part changed.

-- row 3: the state is sound beside the desk, under right settings
unfoldable pub sound : List ℕ → State → List ℕ → Bool
sound σ x d =
    kept_sound σ x.kept x.termination x.held && slots_ok σ x.kept x.termination x.held d
    && marks_sound x.phase x.held x.fetched x.prepared
    && latest_sound σ x.kept.number.0 x.held d x.latest
    && plan_fits x.phase σ x.kept x.termination x.held d x.plan

-- a state of its parts
abbrev pub of_parts : Phase → Layout → Termination → ℕ → ℕ → ℕ → Plan → Latest → State
of_parts phase v t held fetched prepared p m =
    record { phase = phase; kept = v; termination = t; held = held; fetched = fetched; prepared = prepared; plan = p; latest = m }

-- the fresh state: gathering, with the rest empty
unfoldable pub fresh : State
fresh = of_parts Gathering no_view no_termination 0 0 0 no_plan no_latest

-- the state with other held nodes
unfoldable pub holding : State → ℕ → State
holding x held = of_parts x.phase x.kept x.termination held x.fetched x.prepared x.plan x.latest

-- the state with another kept view, termination, held nodes and reported views
unfoldable pub keeping : State → Layout → Termination → ℕ → Latest → State
keeping x v t held m = of_parts x.phase v t held x.fetched x.prepared x.plan m

-- the state with another phase and marks
unfoldable pub marked : State → Phase → ℕ → ℕ → State
marked x phase fetched prepared = of_parts phase x.kept x.termination x.held fetched prepared x.plan x.latest

-- gathering anew: the kept view, its termination and the reported views remain
unfoldable pub restarted : State → State
restarted x = of_parts Gathering x.kept x.termination 0 0 0 no_plan x.latest

-- ordered, with a plan
unfoldable pub planned : State → Plan → State
planned x p = of_parts Ordered x.kept x.termination x.held x.fetched x.prepared p x.latest

-- ---- When each event is refused: rows of document 01's table in their order.

-- rows 1 to 4, which concern every event: lengths right, settings, state, and the event in its phase
unfoldable pub entry_refusal : Bool → List ℕ → State → List ℕ → Bool → Refusal
entry_refusal lengths σ x d inPhase = unless lengths 1 (unless (settings_ok σ) 2 (unless (sound σ x d) 3 (unless inPhase 4 none)))

abbrev pub desk_ok : List ℕ → Bool
desk_ok d = eqb (length d) 16384

-- an event that names node n, in its phase, where n is as it should be
unfoldable pub event_refusal : Bool → List ℕ → State → List ℕ → Bool → ℕ → Bool → Refusal
event_refusal lengths σ x d inPhase n ok = first_of (entry_refusal lengths σ x d inPhase) (node_refusal σ n ok)

unfoldable pub report_refusal : List ℕ → State → List ℕ → List ℕ → Refusal
report_refusal σ x d w =
    first_of (entry_refusal (desk_ok d) σ x d (is_gathering x.phase)) (refusal_beside σ x.kept x.termination x.latest w)

unfoldable pub drop_refusal : List ℕ → State → List ℕ → ℕ → Refusal
drop_refusal σ x d n = event_refusal (desk_ok d) σ x d (not (is_committed x.phase)) n (has x.held n)

unfoldable pub decide_refusal : List ℕ → State → List ℕ → Refusal
decide_refusal σ x d = entry_refusal (desk_ok d) σ x d (is_gathering x.phase)

unfoldable pub order_refusal : List ℕ → State → List ℕ → ℕ → List ℕ → Refusal
order_refusal σ x d n buffer =
    event_refusal (desk_ok d && eqb (length buffer) 512) σ x d (is_ordered x.phase) n (has x.held n)

unfoldable pub fetched_refusal : List ℕ → State → List ℕ → ℕ → Refusal
fetched_refusal σ x d n =
    event_refusal (desk_ok d) σ x d (is_ordered x.phase) n (has x.held n && not (has x.fetched n))

unfoldable pub prepared_refusal : List ℕ → State → List ℕ → ℕ → Refusal
prepared_refusal σ x d n =
    event_refusal (desk_ok d) σ x d (is_preparing x.phase) n (has x.held n && not (has x.prepared n))

-- the state's check: rows 1 to 3, whatever its phase
unfoldable pub check_refusal : List ℕ → State → List ℕ → Refusal
check_refusal σ x d = entry_refusal (desk_ok d) σ x d true

-- ---- What each event leads to, and what it hands back.

-- a report's node is held, what is kept is renewed, and the view is remembered as that node's
unfoldable pub after_report : List ℕ → State → Contents → State
after_report σ x c =
    keeping x (renewed σ x.kept x.termination c).view (renewed σ x.kept x.termination c).termination
    (with x.held c.node.0) (noted x.latest c.node.0 c.view.0)

-- in gathering the node is no longer held; while ordered or preparing gathering starts again with nothing held
unfoldable pub dropped_in : Phase → State → ℕ → State
dropped_in Gathering x n = holding x (without x.held n)
dropped_in Ordered x n = restarted x
dropped_in Preparing x n = restarted x
dropped_in Committed x n = x

abbrev pub after_drop : State → ℕ → State
after_drop x n = dropped_in x.phase x n

-- the node is marked; when all held nodes are, the next phase follows
unfoldable pub after_fetched : State → ℕ → State
after_fetched x n =
    marked x (cond (eqb (with x.fetched n) x.held) Preparing Ordered) (with x.fetched n) x.prepared

unfoldable pub after_prepared : State → ℕ → State
after_prepared x n =
    marked x (cond (eqb (with x.prepared n) x.held) Committed Preparing) x.fetched (with x.prepared n)

-- the state as it was, beside a refusal
abbrev pub refusing : State → Refusal → Outcome
refusing x r = record { state = x; answer = Answer.Refused r }

-- the next state
abbrev pub accepting : State → Outcome
accepting next = record { state = next; answer = Answer.Accepted }

-- the next state, or beside a refusal the state as it was
unfoldable pub outcome_of : Refusal → State → State → Outcome
outcome_of r x next = cond (accepted r) (accepting next) (refusing x r)

unfoldable pub reported : List ℕ → State → List ℕ → List ℕ → Outcome
reported σ x d w = outcome_of (report_refusal σ x d w) x (after_report σ x (contents_of w))

-- the desk after a report
unfoldable pub desk_after : List ℕ → State → List ℕ → List ℕ → List ℕ
desk_after σ x d w = cond (accepted (report_refusal σ x d w)) (desk_with d (get_or w 0 0) w) d

-- its bytes, where they are b before
unfoldable pub desk_left : List ℕ → State → List ℕ → List ℕ → List ℕ
desk_left σ x b w = cond (accepted (report_refusal σ x (words_in b) w)) (bytes_of (desk_after σ x (words_in b) w)) b

unfoldable pub dropped : List ℕ → State → List ℕ → ℕ → Outcome
dropped σ x d n = outcome_of (drop_refusal σ x d n) x (after_drop x n)

unfoldable pub fetched_of : List ℕ → State → List ℕ → ℕ → Outcome
fetched_of σ x d n = outcome_of (fetched_refusal σ x d n) x (after_fetched x n)

unfoldable pub prepared_of : List ℕ → State → List ℕ → ℕ → Outcome
prepared_of σ x d n = outcome_of (prepared_refusal σ x d n) x (after_prepared x n)

-- ---- What decide hands back. Nothing is left free: of the placements of least moves the plan has the first of those with the most stays, and
-- there is one outcome.

-- the state as it was, and a decision
abbrev pub still : State → Decision → Decided
still x a = record { state = x; decision = a }

-- a plan stands in the next state
pub record WithPlan (σ : List ℕ) (x : State) (d : List ℕ) (r : Decided) : Type 0 where
  pub plan : Plan
  pub given : r ≡ still (planned x plan) Decision.Planned
  pub plans : Plans σ x.kept x.termination x.held d plan

-- the lowest subgroup without a valid placement is named
pub record Stuck (σ : List ℕ) (x : State) (r : Decided) : Type 0 where
  pub group : ℕ
  pub given : r ≡ still x (Decision.Wait (NoPlacement group))
  pub lowest : LowestUnplaced σ x.held group

-- what decide hands back: a refusal, the first quorum condition that fails, the lowest subgroup without a valid placement, or a
-- plan; state and answer in each case
pub record Decides (σ : List ℕ) (x : State) (d : List ℕ) (r : Decided) : Type 0 where
  pub refused : accepted (decide_refusal σ x d) ≡ false → r ≡ still x (Decision.Refused (decide_refusal σ x d))
  pub waits : accepted (decide_refusal σ x d) ≡ true → (reason : Reason) →
      quorum_of σ x.kept x.termination x.held d ≡ Short reason → r ≡ still x (Decision.Wait reason)
  pub answers : accepted (decide_refusal σ x d) ≡ true → quorum_of σ x.kept x.termination x.held d ≡ Met →
      WithPlan σ x d r ⊎ Stuck σ x r

-- ---- What decide with improving rounds hands back. It refuses and waits as decide does, and nothing is left free: one placement is reached, and
-- there is one outcome.

-- the state as it was, a decision, and no gap
abbrev pub still_within : State → Decision → DecidedWithin
still_within x a = record { state = x; decision = a; gap = 0 }

-- a plan that n rounds reach stands in the next state, and its gap beside it
pub record WithOffer (σ : List ℕ) (x : State) (d : List ℕ) (n : ℕ) (r : DecidedWithin) : Type 0 where
  pub plan : Plan
  pub gap : ℕ
  pub given : r ≡ record { state = planned x plan; decision = Decision.Planned; gap = gap }
  pub plans : PlansWithin σ x.kept x.termination x.held d n plan gap

-- the lowest subgroup without a valid placement is named
pub record StuckWithin (σ : List ℕ) (x : State) (r : DecidedWithin) : Type 0 where
  pub group : ℕ
  pub given : r ≡ still_within x (Decision.Wait (NoPlacement group))
  pub lowest : LowestUnplaced σ x.held group

-- what n rounds hand back: a refusal, the first quorum condition that fails, the lowest subgroup without a valid placement, or a plan
pub record DecidesWithin (σ : List ℕ) (x : State) (d : List ℕ) (n : ℕ) (r : DecidedWithin) : Type 0 where
  pub refused : accepted (decide_refusal σ x d) ≡ false → r ≡ still_within x (Decision.Refused (decide_refusal σ x d))
  pub waits : accepted (decide_refusal σ x d) ≡ true → (reason : Reason) →
      quorum_of σ x.kept x.termination x.held d ≡ Short reason → r ≡ still_within x (Decision.Wait reason)
  pub answers : accepted (decide_refusal σ x d) ≡ true → quorum_of σ x.kept x.termination x.held d ≡ Met →
      WithOffer σ x d n r ⊎ StuckWithin σ x r
