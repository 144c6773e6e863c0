-- A group that keeps the rule follows a course. The latest attempt alone can still come to count: the machines of two plans from one history are
-- both more than half of its last view's members, so one of them is in both and has reported without the older plan's view. So when all
-- members of a view have it, the history it was planView from is the present one. And a list on disk is the list of the views that counted
-- before, since a plan's kept view is the last of them.
use Rattle.std.specs.Prelude.{ℕ, suc, ◌+◌, ◌*◌, ◌^◌, ◌<◌, ◌≤◌, true, false, List, [], ◌∷◌, ◌≡◌, length, take}
use Rattle.std.proofs.Common.{⊎_elim, ap, ◌∙◌, subst, arith}
use Rattle.std.proofs.Math.Path.{subst⁻¹}
use Rattle.std.specs.Int.Bits.{bit_and}
use Rattle.base_laws.specs.Bools.{eq_or_ne}
use Rattle.base_laws.specs.Definitions.{has, count, without}
use Rattle.report_views.specs.declared.Layout.{Layout}
use Rattle.history_laws.specs.Definitions.{History, Listed, Supposed, view_at, number_at, members_at}
use Rattle.history_course_laws.specs.Course.{last_of, Orderly}
use Rattle.history_course_laws.specs.Lasting.{kept_last}
use Rattle.history_course_laws.specs.Ever.{Restart, Course, supposing}
use Rattle.history_course_laws.specs.Counting.{NoneBoth, OneLacks, all_have}
use Rattle.history_rule_laws.specs.Disks.{Attempt, plan_view, Each, each_more}

-- ---- a plan from an orderly history

module _ {S : ℕ} {G : History} (o : Orderly G) (r : Restart S G) where
  pub kept_place : (place : ℕ) → Listed r.σ G r.v place → suc place ≡ length G.views
  kept_place place at =
      kept_last r.σ r.v r.t r.held r.d r.few r.wide r.slots r.met G
      (record { rule = o.rule; true_reports = r.reports; place = place; listed = at })
      o.succeeded

  at_last : Supposed r.σ r.v r.held r.d G
  at_last = supposing o.rule r

  last_kept : suc at_last.place ≡ length G.views
  last_kept = kept_place at_last.place at_last.listed

  last-place : at_last.place ≡ last_of G
  last-place = omega (arith, last_kept)

  pub kept_members : r.v.members ≡ members_at G (last_of G)
  kept_members = at_last.listed.members ∙ ap (λ (i : ℕ). members_at G i) last-place

  -- more than half of the last view's members are held, and its members are nodes
  pub held_most : count (members_at G (last_of G)) < 2 * count (bit_and r.held (members_at G (last_of G)))
  held_most = subst (λ (m : ℕ). count m < 2 * count (bit_and r.held m)) kept_members r.met.most

  pub last_wide : members_at G (last_of G) < 2 ^ 32
  last_wide = subst (λ (m : ℕ). m < 2 ^ 32) kept_members r.wide

  -- the plan's number is above every view's
  pub number_above : (i : ℕ) → i < length G.views → number_at G i < r.w.number.0
  number_above i l =
      ⊎_elim
      (λ e. omega (arith, r.next.number, at_last.listed.number, ap (λ (k : ℕ). number_at G k) e))
      (λ e. omega (arith, r.next.number, at_last.listed.number, o.rule.rises i at_last.place (omega (arith, last_kept)) at_last.listed.listed))
      (eq_or_ne i at_last.place)

  -- it is the one after the last view's
  pub number_next : (0 < length G.views) × (r.w.number.0 ≡ number_at G (last_of G) + 1)
  number_next =
      (omega (arith, last_kept), omega (arith, r.next.number, at_last.listed.number, ap (λ (i : ℕ). number_at G i) last-place))

  pub of_held : (n : ℕ) → has r.held n ≡ true → has r.w.members n ≡ true
  of_held n h = subst⁻¹ (λ (m : ℕ). has m n ≡ true) r.next.members h

-- ---- what holds of the disks

-- a view that does not count was reported without by one of its members
pub record Closed {S : ℕ} (a : Attempt S) : Type 0 where
  pub lacks : a.counts ≡ false → OneLacks (plan_view a).members a.out

-- the machines of an attempt: none has the view and has reported without it, only members have it, and all have it if it counts
pub record Machines {S : ℕ} (a : Attempt S) : Type 0 where
  pub apart : NoneBoth a.have a.out
  pub own : (n : ℕ) → has a.have n ≡ true → has (plan_view a).members n ≡ true
  pub all : a.counts ≡ true → all_have (plan_view a).members a.have ≡ true

-- the history that an attempt was planView from is the beginning of the present one, the list on disk is its list, and the view stands after
-- it if it counts
pub record InHistory {S : ℕ} (G : History) (a : Attempt S) : Type 0 where
  pub orderly : Orderly a.since
  pub short : length a.since.views ≤ length G.views
  pub begins : a.since.views ≡ take (length a.since.views) G.views
  pub listed : a.before ≡ a.since.views
  pub stands : a.counts ≡ true → (length a.since.views < length G.views) × (view_at G (length a.since.views) ≡ plan_view a)

-- of two attempts from one history, the members of the later have reported without the view of the earlier
pub record ReportedWithout {S : ℕ} (a b : Attempt S) : Type 0 where
  pub earlier : length b.since.views ≤ length a.since.views
  pub without : length b.since.views ≡ length a.since.views → (n : ℕ) → n < 32 → has (plan_view a).members n ≡ true → has b.out n ≡ true

-- the members of the view that stands where an attempt's would have stood have reported without it
pub record Overtaken {S : ℕ} (G : History) (a : Attempt S) : Type 0 where
  pub without : a.counts ≡ false → length a.since.views < length G.views → (n : ℕ) → n < 32
      → has (members_at G (length a.since.views)) n ≡ true → has a.out n ≡ true

-- only the latest can still come to count, and it was planView from the present history
pub data OnlyLatest {S : ℕ} (G : History) : List (Attempt S) → Type 0 where
  latest_none : OnlyLatest G []
  latest_is : (a : Attempt S) (l : List (Attempt S)) → (a.counts ≡ false → a.since ≡ G) → Each Closed l → Each (ReportedWithout a) l
      → OnlyLatest G (a ∷ l)

pub record Ruled (S : ℕ) (H G : History) (lists : ℕ → List Layout) (l : List (Attempt S)) : Type 0 where
  pub course : Course S H G
  pub told : (i : ℕ) → i < length G.views → lists i ≡ take i G.views
  pub latest : OnlyLatest G l
  pub machines : Each Machines l
  pub placed : Each (InHistory G) l
  pub overtaken : Each (Overtaken G) l

-- ---- a view counts

pub each_head : {A : Type 0} {P : A → Type 0} {x : A} {l : List A} → Each P (x ∷ l) → P x
each_head (each_more _ _ p e) = p
