-- What the disks of a group have of the views of its restarts, if machines and leaders keep the rule. A plan is an attempt; its view is on
-- the disks of some machines, and it counts once all its members have it. A leader plans only when every machine that it holds has reported
-- without each view that does not count: it has never had that view, or has forgotten it since a member of it reported without it.
use Rattle.std.specs.Prelude.{ℕ, ◌<◌, Bool, true, false, cond, List, [], ◌∷◌, ◌++◌, ◌≡◌, eqb, length, take}
use Rattle.base_laws.specs.Definitions.{has}
use Rattle.settings_values.specs.Definitions.{shards}
use Rattle.base_ids.specs.declared.Position.{Position}
use Rattle.report_views.specs.declared.Layout.{Layout}
use Rattle.report_views.specs.Definitions.{mask_at}
use Rattle.history_laws.specs.Definitions.{History, Listed, view_at}
use Rattle.history_course_laws.specs.Course.{Serves, as_ordered}
use Rattle.history_course_laws.specs.Ever.{Restart}
use Rattle.history_course_laws.specs.Counting.{Copies, all_have}

-- a plan, and what the disks have of its view
pub record Attempt (S : ℕ) : Type 0 where
  -- the history of the views that counted when the plan was made, and the plan
  pub since : History
  pub plan : Restart S since
  -- the list of earlier views that stands on disk with the plan's view
  pub before : List Layout
  -- the machines that have the view, and those that have reported without it
  pub have : ℕ
  pub out : ℕ
  -- all its members have had it
  pub counts : Bool

-- the view of an attempt
abbrev pub plan_view : {S : ℕ} → Attempt S → Layout
plan_view a = a.plan.w

-- an attempt as it begins, and with other machines that have its view or reported without it, and once it counts
abbrev pub attempted : {S : ℕ} (G : History) → Restart S G → List Layout → Attempt S
attempted G r before = record { since = G; plan = r; before = before; have = 0; out = 0; counts = false }

abbrev pub seen_on : {S : ℕ} → Attempt S → ℕ → ℕ → Attempt S
seen_on a have out = record { since = a.since; plan = a.plan; before = a.before; have = have; out = out; counts = a.counts }

abbrev pub counting : {S : ℕ} → Attempt S → Attempt S
counting a = record { since = a.since; plan = a.plan; before = a.before; have = a.have; out = a.out; counts = true }

-- each of a list
pub data Each {A : Type 0} (P : A → Type 0) : List A → Type 0 where
  each_none : Each P []
  each_more : (x : A) (l : List A) → P x → Each P l → Each P (x ∷ l)

-- every machine that is held has reported without a view that does not count
pub record AllWithout {S : ℕ} (held : ℕ) (a : Attempt S) : Type 0 where
  pub asked : a.counts ≡ false → (n : ℕ) → n < 32 → has held n ≡ true → has a.out n ≡ true

-- what machines do with each view meanwhile
pub data Passing {S : ℕ} : List (Attempt S) → List (Attempt S) → Type 0 where
  pass_none : Passing [] []
  pass_more : (a : Attempt S) (have out : ℕ) (l u : List (Attempt S)) → Copies (plan_view a).members a.have a.out have out → Passing l u
      → Passing (a ∷ l) (seen_on a have out ∷ u)

-- K is the history in which the attempt's view counts: those that have it have logged it, with the logs that their orders say
pub record Counted {S : ℕ} (a : Attempt S) (K : History) : Type 0 where
  pub views : K.views ≡ a.since.views ++ plan_view a ∷ []
  pub remembered : (n i : ℕ) → i < length a.since.views → a.since.logged n i ≡ true → K.logged n i ≡ true
  pub logs : (n : ℕ) → n < 32 → has a.have n ≡ true → K.logged n (length a.since.views) ≡ true
  pub ordered : (s : ℕ) → s < shards a.plan.σ → (n : ℕ) → n < 32 → has (mask_at (plan_view a) s) n ≡ true →
      K.logged n (length a.since.views) ≡ true →
      (q : Position) → K.updated n s q ≡ as_ordered a.plan.v a.plan.t a.plan.held a.plan.d n s q

-- no attempt is under way
pub record Idle {S : ℕ} (l : List (Attempt S)) : Type 0 where
  pub latest : (a : Attempt S) (u : List (Attempt S)) → l ≡ a ∷ u → a.counts ≡ true

-- the lists of earlier views, with one more at place i
abbrev pub listing : (ℕ → List Layout) → ℕ → List Layout → ℕ → List Layout
listing lists i before k = cond (eqb k i) before (lists k)

-- the views that count, the list of earlier views that stands on disk with each of them, and the attempts so far, the latest first
pub data Disks (S : ℕ) (H : History) : History → (ℕ → List Layout) → List (Attempt S) → Type 0 where
  first : Disks S H H (λ i. take i H.views) []
  -- a leader plans: the list that goes with the plan's view is that of the kept view, and the kept view
  plans : (G : History) (lists : ℕ → List Layout) (l : List (Attempt S)) → Disks S H G lists l → (r : Restart S G) → Each (AllWithout r.held) l
      → (place : ℕ) → Listed r.σ G r.v place → Disks S H G lists (attempted G r (lists place ++ view_at G place ∷ []) ∷ l)
  -- machines get the view of an attempt, report without it, or forget it
  passes : (G : History) (lists : ℕ → List Layout) (l u : List (Attempt S)) → Disks S H G lists l → Passing l u → Disks S H G lists u
  -- all members of the latest attempt's view have it
  counted : (G K : History) (lists : ℕ → List Layout) (a : Attempt S) (l : List (Attempt S)) → Disks S H G lists (a ∷ l) → a.counts ≡ false
      → all_have (plan_view a).members a.have ≡ true → Counted a K → Disks S H K (listing lists (length G.views) a.before) (counting a ∷ l)
  -- the service runs
  served : (G K : History) (lists : ℕ → List Layout) (l : List (Attempt S)) → Disks S H G lists l → Idle l → Serves S G K
      → K.views ≡ G.views → Disks S H K lists l
