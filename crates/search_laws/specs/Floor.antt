-- A sheet of the case: by shard and failure set, 2 where no node of the set is allowed, 1 where each that is allowed moves. It tells
-- of every valid placement how many moves it has at least, and where there is none.
use Rattle.std.specs.Prelude.{Bool, List, [], get_or}
use Prim.Native.Nat.{ℕ, ◌-◌, ◌≤◌, ◌<◌, min}
use Rattle.std.proofs.Math.Dec.{ltb}
use Rattle.base_laws.specs.Definitions.{count_below, any_below}
use Rattle.base_sum_laws.specs.Definitions.{sum_below}
use Rattle.search_laws.specs.Case.{Case}

-- the entry of shard i and failure set f
abbrev pub entry_of : List (List ℕ) → ℕ → ℕ → ℕ
entry_of sheet i f = get_or (get_or sheet i []) f 0

-- where an entry is 2 no node of the set is allowed, and where it is 1 none of them is there for nothing
pub record SheetFor (K : Case) (sheet : List (List ℕ)) : Type 0 where
  pub shut : (i n : ℕ) → i < 16 → n < 32 → 2 ≤ entry_of sheet i (K.set_of n) → 255 ≤ K.cost i n
  pub moved : (i n : ℕ) → i < 16 → n < 32 → 1 ≤ entry_of sheet i (K.set_of n) → 1 ≤ K.cost i n

-- how many entries of shard i are below e
unfoldable pub entries_below : List (List ℕ) → ℕ → ℕ → ℕ
entries_below sheet i e = count_below 16 (λ f. ltb (entry_of sheet i f) e)

-- how many nodes move to shard i at least: its need less the lesser of the need and the sets of which a node stays
unfoldable pub lack_at : Case → List (List ℕ) → ℕ → ℕ
lack_at K sheet i = K.need i - min (K.need i) (entries_below sheet i 1)

-- how many nodes move at least
unfoldable pub floor_of : Case → List (List ℕ) → ℕ
floor_of K sheet = sum_below 16 (lack_at K sheet)

-- shard i needs nodes of more sets than have one for it
unfoldable pub short_at : Case → List (List ℕ) → ℕ → Bool
short_at K sheet i = ltb (entries_below sheet i 2) (K.need i)

-- some shard does
unfoldable pub too_few : Case → List (List ℕ) → Bool
too_few K sheet = any_below 16 (short_at K sheet)
