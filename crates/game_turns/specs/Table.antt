-- The table of decisions by mask: 0 for a plan, else the wait's number.
use Rattle.std.specs.Prelude.{ℕ, Bool, List, eqb, get_or}

-- with h held there is a plan
abbrev pub plan_at : List ℕ → ℕ → Bool
plan_at table h = eqb (get_or table h 0) 0
