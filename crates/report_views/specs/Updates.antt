-- A log as the list of its updates, in their order; what two logs share from their beginning, and what of them a node keeps and
-- fetches.
use Rattle.std.specs.Prelude.{ℕ, zero, suc, Bool, cond, not, List, [], ◌∷◌, ◌++◌}
use Rattle.base_ids.specs.declared.Position.{Position}
use Rattle.base_ids.specs.Definitions.{not_after}
use Rattle.report_views.specs.Definitions.{pos, runs_of, report_of, same_position}

-- n updates of view v, after update k
unfoldable pub updates_after : ℕ → ℕ → ℕ → List Position
updates_after v k zero = []
updates_after v k (suc n) = pos v (suc k) ∷ updates_after v (suc k) n

-- the updates of a log that is given run by run: run (v, c) holds (v, 1) to (v, c)
unfoldable pub updates_in : List Position → List Position
updates_in [] = []
updates_in (r ∷ rs) = updates_after r.view.0 0 r.k ++ updates_in rs

-- the updates of a report's log of shard s
abbrev pub updates_of : List ℕ → ℕ → ℕ → List Position
updates_of b s len = updates_in (runs_of b s len)

-- the updates that node n has reported of shard s
abbrev pub updates_at : List ℕ → ℕ → ℕ → List Position
updates_at d s n = updates_of (report_of d n).body s (report_of d n).len

-- the longest stretch that two logs share from their beginning
unfoldable pub shared_stretch : List Position → List Position → List Position
shared_stretch [] qs = []
shared_stretch (p ∷ ps) [] = []
shared_stretch (p ∷ ps) (q ∷ qs) = cond (same_position p q) (p ∷ shared_stretch ps qs) []

-- the last of some updates, a where there are none
unfoldable pub last_after : Position → List Position → Position
last_after a [] = a
last_after a (p ∷ ps) = last_after p ps

-- those of a list that meet a test, in their order
unfoldable pub those_of : (Position → Bool) → List Position → List Position
those_of f [] = []
those_of f (p ∷ ps) = cond (f p) (p ∷ those_of f ps) (those_of f ps)

-- what of a log is not past p
abbrev pub up_to : Position → List Position → List Position
up_to p log = those_of (λ q. not_after q p) log

-- what of a log is past p
abbrev pub beyond : Position → List Position → List Position
beyond p log = those_of (λ q. not (not_after q p)) log

-- what a node with this log keeps: all up to the cut
abbrev pub kept_updates : Position → List Position → List Position
kept_updates c log = up_to c log

-- what it fetches: all that the holder has after the cut, up to the target
abbrev pub fetched_updates : Position → Position → List Position → List Position
fetched_updates c t holder = beyond c (up_to t holder)
