-- The two parts of row 17's pass at a record, with the shards carried given.
use Rattle.std.specs.Prelude.{Bool, not, ◌&&◌, ◌||◌, List, ℕ, ◌-◌, eqb, leb}
use Rattle.base_laws.specs.Definitions.{has}
use Rattle.message_format.specs.Definitions.{kind, record_shard, precedes}

-- record j is the first or follows the record before it
abbrev pub follows_at : List ℕ → ℕ → Bool
follows_at b j = eqb j 0 || precedes b (j - 1) j

-- record j is a holder or a cut for a shard that is not among those carried
abbrev pub stray_at : ℕ → List ℕ → ℕ → Bool
stray_at carried b j = leb 4 (kind b j) && not (has carried (record_shard b j))
