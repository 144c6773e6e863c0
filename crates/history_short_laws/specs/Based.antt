-- Restarts from short reports. Of its logs a machine reports only the updates of the view that it reports, for the shards that it carries in
-- that view; what it has of earlier views, its base, it leaves out. Here: what such reports tell, what machines must do so that bases agree,
-- and what they do with a plan.
use Rattle.std.specs.Prelude.{ℕ, zero, suc, ◌*◌, ◌<◌, ◌≤◌, Bool, true, cond, not, ◌&&◌, ◌||◌, List, [], ◌∷◌, ◌++◌, ◌⊎◌, ◌≡◌, eqb, ltb, length}
use Rattle.std.specs.Int.Bits.{bit_and}
use Rattle.base_laws.specs.Definitions.{has, count}
use Rattle.settings_values.specs.Definitions.{shards}
use Rattle.base_ids.specs.declared.Position.{Position}
use Rattle.base_ids.specs.Definitions.{not_after}
use Rattle.report_views.specs.declared.Layout.{Layout}
use Rattle.report_views.specs.declared.Termination.{Termination}
use Rattle.report_views.specs.Definitions.{pos, start, is_start, mask_at, position_at, target, holder}
use Rattle.report_views.specs.Updates.{updates_at, last_after, up_to}
use Rattle.history_laws.specs.Definitions.{History, view_at, number_at}
use Rattle.history_course_laws.specs.Course.{Serves, CarriedOut, GivenUp, cut_for}
use Rattle.history_course_laws.specs.Ever as whole

-- the last place below k at which f holds, or 0
unfoldable pub last_place : (ℕ → Bool) → ℕ → ℕ
last_place f zero = 0
last_place f (suc k) = cond (f k) k (last_place f k)

-- the place of the latest view that node n has logged
abbrev pub latest_of : History → ℕ → ℕ
latest_of H n = last_place (H.logged n) (length H.views)

-- the number of that view
abbrev pub latest_number : History → ℕ → ℕ
latest_number H n = number_at H (latest_of H n)

-- node n carries shard s in that view
abbrev pub carries_latest : History → ℕ → ℕ → Bool
carries_latest H s n = H.logged n (latest_of H n) && has (mask_at (view_at H (latest_of H n)) s) n

-- the history as short reports tell it: a short report is one that is true of this history
abbrev pub short_of : History → History
short_of H =
    record {
      views = H.views;
      logged = H.logged;
      updated = λ n s p. carries_latest H s n && (eqb p.view.0 (latest_number H n) && H.updated n s p);
    }

-- bases agree: two nodes that carry a shard have the same updates of the views that are below the latest view of each
pub record Based (S : ℕ) (H : History) : Type 0 where
  pub same : (s : ℕ) → s < S → (n m : ℕ) → n < 32 → m < 32 → carries_latest H s n ≡ true → carries_latest H s m ≡ true → (p : Position) →
      1 ≤ p.k → p.view.0 < latest_number H n → p.view.0 < latest_number H m → H.updated n s p ≡ H.updated m s p

-- from H to G no node logs a view of H's list or forgets one, and one that logs no new view leaves its bases as they are: what it adds or
-- discards is of its latest view
pub record AddsOnly (S : ℕ) (H G : History) : Type 0 where
  pub logged : (n i : ℕ) → i < length H.views → G.logged n i ≡ H.logged n i
  pub older : (s : ℕ) → s < S → (n : ℕ) → n < 32 → carries_latest H s n ≡ true → latest_of G n ≡ latest_of H n → (p : Position) →
      1 ≤ p.k → p.view.0 < latest_number H n → G.updated n s p ≡ H.updated n s p

-- what node n's whole report has of shard s of the views below number u
abbrev pub base_of : List ℕ → ℕ → ℕ → ℕ → List Position
base_of d s u n = up_to (pos u 0) (updates_at d s n)

-- the last of it
abbrev pub base_end : List ℕ → ℕ → ℕ → ℕ → Position
base_end d s u n = last_after start (base_of d s u n)

-- the termination u is t as short reports of the view v tell it: a position of an earlier view is (0, 0)
pub record ShortTermination (S : ℕ) (v : Layout) (t u : Termination) : Type 0 where
  pub made : u.made ≡ t.made
  pub told : (s : ℕ) → s < S → position_at u s ≡ cond (ltb (position_at t s).view.0 v.number.0) start (position_at t s)

-- a plan from the short reports of the desk d over the history H
module _ (v : Layout) (t : Termination) (held : ℕ) (d : List ℕ) (H : History) where
  -- node n keeps the update q of shard s: it is not past the cut, where the cut (0, 0) is the end of n's base, which is empty if n does not
  -- carry the shard
  abbrev pub kept_by : ℕ → ℕ → Position → Bool
  kept_by n s q =
      H.updated n s q
      && cond (is_start (cut_for v t held d n s)) (carries_latest H s n && ltb q.view.0 (latest_number H n)) (not_after q (cut_for v t held d n s))

  -- the holder of shard s has the update q, and it is not past the target, where the target (0, 0) is the end of the holder's base
  abbrev pub wanted_of : ℕ → Position → Bool
  wanted_of s q =
      H.updated (holder v t held d s) s q
      && cond (is_start (target v t held d s)) (ltb q.view.0 v.number.0) (not_after q (target v t held d s))

  -- in G node n's log of shard s is what it keeps, followed by what the holder has after the last update that n keeps, up to the target
  pub record ByRecipe (G : History) (n s : ℕ) : Type 0 where
    pub last : Position
    pub kept : (last ≡ start) ⊎ (kept_by n s last ≡ true)
    pub end : (q : Position) → kept_by n s q ≡ true → not_after q last ≡ true
    pub joined : (q : Position) → 1 ≤ q.k → G.updated n s q ≡ (kept_by n s q || (not (not_after q last) && wanted_of s q))

-- a restart from short reports is carried out: as CarriedOut, with logs by the recipe
pub record ShortCarried (σ : List ℕ) (v : Layout) (t : Termination) (held : ℕ) (d : List ℕ) (w : Layout) (H G : History) : Type 0 where
  pub views : G.views ≡ H.views ++ w ∷ []
  pub adds : AddsOnly (shards σ) H G
  pub by : ℕ
  pub logs : (n : ℕ) → n < 32 → has by n ≡ true → G.logged n (length H.views) ≡ true
  pub most : count v.members < 2 * count (bit_and by v.members)
  pub ordered : (s : ℕ) → s < shards σ → (n : ℕ) → n < 32 → has (mask_at w s) n ≡ true → G.logged n (length H.views) ≡ true →
      ByRecipe v t held d H G n s

-- from one history to a later one by runs and by restarts from short reports. A restart that is given up leaves the history as it was.
pub data ShortCourse (S : ℕ) (H : History) : History → Type 0 where
  here : ShortCourse S H H
  running : (G K : History) → ShortCourse S H G → Serves S G K → K.views ≡ G.views → AddsOnly S G K → ShortCourse S H K
  carrying : (G K : History) → ShortCourse S H G → (r : whole.Restart S (short_of G)) →
      ShortCarried r.σ r.v r.t r.held r.d r.w G K → ShortCourse S H K

-- in a course with whole reports no run changes a view, and no run or restart the base of a node that logs no new view: its group can go over to
-- short reports
pub data BasesStay (S : ℕ) (H : History) : (G : History) → whole.Course S H G → Type 0 where
  at-first : BasesStay S H H whole.here
  ran : (G K : History) (c : whole.Course S H G) (x : Serves S G K) → BasesStay S H G c → K.views ≡ G.views → AddsOnly S G K
      → BasesStay S H K (whole.running G K c x)
  carried : (G K : History) (c : whole.Course S H G) (r : whole.Restart S G) (x : CarriedOut r.σ r.v r.t r.held r.d r.w G K)
      → BasesStay S H G c → AddsOnly S G K → BasesStay S H K (whole.carrying G K c r x)
  gave_up : (G K : History) (c : whole.Course S H G) (r : whole.Restart S G) (x : GivenUp r.σ r.v r.t r.held r.d r.w G K)
      → BasesStay S H G c → BasesStay S H K (whole.giving_up G K c r x)
