-- What machines have sent in of an open view, by what their disks have: G are the views that count, lists the lists of earlier views that
-- stand on disk with them, l the attempts.
use Rattle.std.specs.Prelude.{ℕ, ◌<◌, ◌≤◌, true, List, ◌∷◌, ◌≡◌, length, get_or}
use Rattle.base_laws.specs.Definitions.{has}
use Rattle.report_views.specs.declared.Layout.{Layout}
use Rattle.report_views.specs.Definitions.{no_view}
use Rattle.history_laws.specs.Definitions.{History, view_at, number_at}
use Rattle.history_rule_laws.specs.Disks.{Attempt, plan_view}

-- a view is told from others by its number and members
pub record OneView (v w : Layout) : Type 0 where
  pub number : v.number.0 ≡ w.number.0
  pub members : v.members ≡ w.members

-- one of a list
pub data ElementOf {A : Type 0} (x : A) : List A → Type 0 where
  among_first : (l : List A) → ElementOf x (x ∷ l)
  among_later : (y : A) (l : List A) → ElementOf x l → ElementOf x (y ∷ l)

-- somebody knows that v counts: it has v as sure, or a sure or an open view in whose list v stands
pub data Known {S : ℕ} (G : History) (lists : ℕ → List Layout) (l : List (Attempt S)) (v : Layout) : Type 0 where
  as_sure : (i : ℕ) → i < length G.views → OneView (view_at G i) v → Known G lists l v
  in-list : (i j : ℕ) → i < length G.views → j < length (lists i) → OneView (get_or (lists i) j no_view) v → Known G lists l v
  in-plan : (b : Attempt S) (j : ℕ) → ElementOf b l → j < length b.before → OneView (get_or b.before j no_view) v → Known G lists l v

-- a sure view of v's number or a greater one is another view, and v stands not in its list
pub record PassedBy (G : History) (lists : ℕ → List Layout) (v : Layout) : Type 0 where
  pub at : ℕ
  pub inside : at < length G.views
  pub later : v.number.0 ≤ number_at G at
  pub other : OneView (view_at G at) v → ⊥
  pub unlisted : (j : ℕ) → j < length (lists at) → OneView (get_or (lists at) j no_view) v → ⊥

-- the masks of the machines that sent something of the attempt's view, which one of them has
pub record Sent {S : ℕ} (G : History) (lists : ℕ → List Layout) (l : List (Attempt S)) (a : Attempt S) (known have lack passed : ℕ) : Type 0 where
  pub one : ℕ
  pub has_it : has a.have one ≡ true
  pub small : one < 32
  pub knows : (n : ℕ) → has known n ≡ true → Known G lists l (plan_view a)
  pub holds : (n : ℕ) → has have n ≡ true → has a.have n ≡ true
  pub lacks : (n : ℕ) → has lack n ≡ true → has a.out n ≡ true
  pub passes : (n : ℕ) → has passed n ≡ true → PassedBy G lists (plan_view a)
