-- The promises of the search.
use Rattle.std.specs.Prelude.{◌≡◌, Bool, true, false, List, ℕ, ◌≤◌, ◌<◌, length, replicate, Option, Some, None}
use Rattle.search_laws.specs.Case.{Case, Valid, WeighsWithin, LeastWeight, weight}
use Rattle.search_laws.specs.Tables.{owners_of}
use Rattle.search_laws.specs.Order.{First, HasNone, From, Begun}
use Rattle.search_total.specs.declared.Assignment.{Assignment}
use Rattle.search_total.specs.declared.Solution.{Solution}

-- owners of 32 nodes, 16 for a node that is placed nowhere
pub record Owners (o : List ℕ) : Type 0 where
  pub long : length o ≡ 32
  pub least : (n : ℕ) → n < 32 → owners_of o n ≤ 16

-- owners that take no pair from t on
pub record ReadyFrom (o : List ℕ) (t : ℕ) : Type 0 where
  pub owners : Owners o
  pub begun : Begun (owners_of o) t

-- from the owners o before pair t: the first placement p, or that there is none, with the owners as they were
pub record Sought (K : Case) (k : ℕ) (o : List ℕ) (t : ℕ) (p : List ℕ) (r : Bool) : Type 0 where
  pub yes : r ≡ true → First (From (WeighsWithin K k) (owners_of o) t) (owners_of p)
  pub no : r ≡ false → HasNone (From (WeighsWithin K k) (owners_of o) t)
  pub kept : r ≡ false → p ≡ o
  pub owners : Owners p

-- no owners
abbrev pub no_owners : List ℕ
no_owners = replicate 32 16

-- what a search gives as a solution
abbrev pub as_solution : Option Assignment → Solution
as_solution (Some p) = record { exists = true; weight = p.weight; owners = p.owners }
as_solution None = record { exists = false; weight = 0; owners = no_owners }

-- the first valid placement of a weight of at most k with its weight, or that there is none
pub record WithinAnswer (K : Case) (k : ℕ) (a : Solution) : Type 0 where
  pub found : a.exists ≡ true → First (WeighsWithin K k) (owners_of a.owners)
  pub exact : a.exists ≡ true → a.weight ≡ weight K (owners_of a.owners)
  pub none : a.exists ≡ false → HasNone (WeighsWithin K k)
  pub empty : a.exists ≡ false → (a.weight ≡ 0) × (a.owners ≡ no_owners)
  pub owners : Owners a.owners

-- the first of the valid placements of least weight with its weight, or that there is none
pub record LeastAnswer (K : Case) (a : Solution) : Type 0 where
  pub found : a.exists ≡ true → First (LeastWeight K) (owners_of a.owners)
  pub exact : a.exists ≡ true → a.weight ≡ weight K (owners_of a.owners)
  pub none : a.exists ≡ false → HasNone (Valid K)
  pub empty : a.exists ≡ false → (a.weight ≡ 0) × (a.owners ≡ no_owners)
  pub owners : Owners a.owners
