-- What contracts cite, each definition after those that it builds on. Laws stand in the files beside this one.
use Rattle.std.specs.Prelude.{ℕ, suc, ◌*◌, ◌<◌, ◌≤◌, Bool, true, false, List, ◌≡◌, length, get_or}
use Rattle.std.specs.Int.Bits.{bit_and}
use Rattle.base_laws.specs.Definitions.{has, count}
use Rattle.base_ids.specs.declared.Position.{Position}
use Rattle.base_ids.specs.Definitions.{not_after}
use Rattle.settings_values.specs.Definitions.{shards}
use Rattle.message_format.specs.declared.Contents.{Contents}
use Rattle.message_format.specs.Definitions.{members_of}
use Rattle.report_views.specs.declared.Layout.{Layout}
use Rattle.report_views.specs.Definitions.{no_view, holds, report_of, mask_at, holds_at, target, holder}
use Rattle.report_views.specs.declared.Termination.{Termination}

-- ---- A history of the group: a list of views, which node has logged which of them, and which updates of each shard a node has
-- logged.

pub record History : Type 0 where
  pub views : List Layout
  -- a node has logged the view at a place of the list
  pub logged : ℕ → ℕ → Bool
  -- a node has logged an update of a shard
  pub updated : ℕ → ℕ → Position → Bool

-- the view at place i, or none
abbrev pub view_at : History → ℕ → Layout
view_at H i = get_or H.views i no_view

abbrev pub number_at : History → ℕ → ℕ
number_at H i = (view_at H i).number.0

abbrev pub members_at : History → ℕ → ℕ
members_at H i = (view_at H i).members

-- the rule of views: numbers rise, and more than half of each view's members are members of the next
pub record KeepsRule (H : History) : Type 0 where
  pub rises : (i j : ℕ) → i < j → j < length H.views → number_at H i < number_at H j
  pub overlaps : (i : ℕ) → suc i < length H.views →
      count (members_at H i) < 2 * count (bit_and (members_at H (suc i)) (members_at H i))

-- every member of the view at place i has logged it
pub record Full (H : History) (i : ℕ) : Type 0 where
  pub all : (n : ℕ) → n < 32 → has (members_at H i) n ≡ true → H.logged n i ≡ true

-- a report's view, masks included, is the view at place i
pub record ReportsViewAt (σ : List ℕ) (H : History) (c : Contents) (i : ℕ) : Type 0 where
  pub number : c.view.0 ≡ number_at H i
  pub members : c.members ≡ members_at H i
  pub masks : (s : ℕ) → s < shards σ → members_of c.body s ≡ mask_at (view_at H i) s

-- a report is true: its view is the latest in the list that its node has logged, and its runs hold exactly the updates
-- that the node has logged
pub record True (σ : List ℕ) (H : History) (c : Contents) : Type 0 where
  pub at : ℕ
  pub listed : at < length H.views
  pub logged : H.logged c.node.0 at ≡ true
  pub latest : (j : ℕ) → at < j → j < length H.views → H.logged c.node.0 j ≡ false
  pub same : ReportsViewAt σ H c at
  pub updates : (s : ℕ) → s < shards σ → (p : Position) → H.updated c.node.0 s p ≡ holds c.body c.len s p

-- the kept view, masks included, stands at place i of the list
pub record Listed (σ : List ℕ) (H : History) (v : Layout) (i : ℕ) : Type 0 where
  pub listed : i < length H.views
  pub number : v.number.0 ≡ number_at H i
  pub members : v.members ≡ members_at H i
  pub masks : (s : ℕ) → s < shards σ → mask_at v s ≡ mask_at (view_at H i) s

-- what demand 3's claims suppose of a history: it keeps the rule, every held report is true, and the kept view is listed
pub record Supposed (σ : List ℕ) (v : Layout) (held : ℕ) (d : List ℕ) (H : History) : Type 0 where
  pub rule : KeepsRule H
  pub true_reports : (n : ℕ) → n < 32 → has held n ≡ true → True σ H (report_of d n)
  pub place : ℕ
  pub listed : Listed σ H v place

-- ---- The two claims on histories. Sound slots and a met quorum are all that they need of the planner's state.

-- the claims, for every history
pub record Claims (σ : List ℕ) (v : Layout) (t : Termination) (held : ℕ) (d : List ℕ) : Type 0 where
  -- the kept view is no older than any view that, like each older one, was logged by all its members
  pub newest : (H : History) → Supposed σ v held d H → (j : ℕ) → j < length H.views → ((i : ℕ) → i ≤ j → Full H i) →
      number_at H j ≤ v.number.0
  -- with no termination kept: what all members of a shard in the kept view logged lies no further than the target and is in
  -- the holder's log
  pub within : (H : History) → Supposed σ v held d H → t.made ≡ false → (s : ℕ) → s < shards σ → (p : Position) →
      ((n : ℕ) → n < 32 → has (mask_at v s) n ≡ true → H.updated n s p ≡ true) →
      (not_after p (target v t held d s) ≡ true) × (holds_at d s p (holder v t held d s) ≡ true)
