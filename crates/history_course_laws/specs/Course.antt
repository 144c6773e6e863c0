-- What the service does between two restarts and what it does with a plan, from the settings σ, the kept view v with its termination t,
-- the mask of held nodes and the desk d.
use Rattle.std.specs.Prelude.{ℕ, suc, ◌+◌, ◌-◌, ◌*◌, ◌<◌, Bool, true, ◌&&◌, ◌||◌, not, List, [], ◌∷◌, ◌++◌, ◌⊎◌, ◌≡◌, length}
use Rattle.std.specs.Int.Bits.{bit_and}
use Rattle.base_laws.specs.Definitions.{has, count}
use Rattle.settings_values.specs.Definitions.{shards}
use Rattle.base_ids.specs.declared.Position.{Position}
use Rattle.base_ids.specs.Definitions.{not_after}
use Rattle.report_views.specs.declared.Layout.{Layout}
use Rattle.report_views.specs.declared.Termination.{Termination}
use Rattle.report_views.specs.Definitions.{report_of, holds_at, mask_at, position_at, target, holder}
use Rattle.report_views.specs.Cuts.{cut}
use Rattle.history_laws.specs.Definitions.{History, KeepsRule, Full, view_at, members_at}

-- the place of the last view
abbrev pub last_of : History → ℕ
last_of H = length H.views - 1

-- more than half of the members of the view at place i have logged a later one
pub record Succeeded (H : History) (i : ℕ) : Type 0 where
  pub by : ℕ
  pub most : count (members_at H i) < 2 * count (bit_and by (members_at H i))
  pub later : (n : ℕ) → n < 32 → has by n ≡ true → (j : ℕ) × (i < j) × (j < length H.views) × (H.logged n j ≡ true)

-- a history that can be restarted: it keeps the rule of views, and no view but the last can be taken for the last
pub record Orderly (H : History) : Type 0 where
  pub rule : KeepsRule H
  pub succeeded : (i : ℕ) → suc i < length H.views → Succeeded H i

-- every member of shard s in the last view that has logged this view has logged the update p
pub record Settled (H : History) (s : ℕ) (p : Position) : Type 0 where
  pub all : (n : ℕ) → n < 32 → has (mask_at (view_at H (last_of H)) s) n ≡ true → H.logged n (last_of H) ≡ true → H.updated n s p ≡ true

-- the service runs, from a view that all its members have logged until all machines have stopped
pub record Serves (S : ℕ) (H G : History) : Type 0 where
  pub begun : Full H (last_of H)
  pub standing : Orderly G
  pub keeps : (s : ℕ) → s < S → (p : Position) → Settled H s p → Settled G s p

module _ (v : Layout) (t : Termination) (held : ℕ) (d : List ℕ) where
  -- the cut of node n for shard s
  abbrev pub cut_for : ℕ → ℕ → Position
  cut_for n s = cut (report_of d n) (report_of d (holder v t held d s)) s (target v t held d s)

  -- node n has the update q of shard s once it has done what its order says: what it keeps up to the cut, and what it fetches
  abbrev pub as_ordered : ℕ → ℕ → Position → Bool
  as_ordered n s q =
      not_after q (cut_for n s) && holds_at d s q n
      || (not (not_after q (cut_for n s)) && (not_after q (target v t held d s) && holds_at d s q (holder v t held d s)))

-- w is a plan's view: the next number, and only held nodes are placed
pub record PlannedView (σ : List ℕ) (v : Layout) (held : ℕ) (w : Layout) : Type 0 where
  pub number : w.number.0 ≡ v.number.0 + 1
  pub members : w.members ≡ held
  pub placed : (s : ℕ) → s < shards σ → (n : ℕ) → n < 32 → has (mask_at w s) n ≡ true → has held n ≡ true

-- a kept termination ends no shard before what is settled
pub record Covers (σ : List ℕ) (t : Termination) (H : History) : Type 0 where
  pub after : t.made ≡ true → (s : ℕ) → s < shards σ → (p : Position) → Settled H s p → not_after p (position_at t s) ≡ true

-- a restart is carried out: the plan's view w is logged by nodes that are more than half of the kept view's members, and by a node that w
-- places only once its logs are what its order says
pub record CarriedOut (σ : List ℕ) (v : Layout) (t : Termination) (held : ℕ) (d : List ℕ) (w : Layout) (H G : History) : Type 0 where
  pub views : G.views ≡ H.views ++ w ∷ []
  pub remembered : (n i : ℕ) → i < length H.views → H.logged n i ≡ true → G.logged n i ≡ true
  pub by : ℕ
  pub logs : (n : ℕ) → n < 32 → has by n ≡ true → G.logged n (length H.views) ≡ true
  pub most : count v.members < 2 * count (bit_and by v.members)
  pub ordered : (s : ℕ) → s < shards σ → (n : ℕ) → n < 32 → has (mask_at w s) n ≡ true → G.logged n (length H.views) ≡ true →
      (q : Position) → G.updated n s q ≡ as_ordered v t held d n s q

-- a restart is given up before anybody has logged its view: every log is what it was, or what the order says
pub record GivenUp (σ : List ℕ) (v : Layout) (t : Termination) (held : ℕ) (d : List ℕ) (w : Layout) (H G : History) : Type 0 where
  pub views : G.views ≡ H.views
  pub logged : (n i : ℕ) → G.logged n i ≡ H.logged n i
  pub updated : (s : ℕ) → s < shards σ → (n : ℕ) → n < 32 →
      ((q : Position) → G.updated n s q ≡ H.updated n s q)
      ⊎ ((has (mask_at w s) n ≡ true) × ((q : Position) → G.updated n s q ≡ as_ordered v t held d n s q))
