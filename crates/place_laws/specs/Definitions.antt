-- What contracts cite, each definition after those that it builds on. Laws stand in the files beside this one.
use Rattle.std.specs.Prelude.{List, ℕ, ◌-◌, min, get_or}
use Rattle.std.specs.Int.Bits.{bit_and}
use Rattle.settings_values.specs.Definitions.{need}
use Rattle.place_groups.specs.Definitions.{sets_in}

-- ---- A list of masks by shard.

-- a list of masks as a function
abbrev pub masks_of : List ℕ → ℕ → ℕ
masks_of masks s = get_or masks s 0

-- ---- The moves that no valid placement is without.

-- how many nodes move to shard s at least: its need less the lesser of the need and the sets of its held old members
unfoldable pub lacking : List ℕ → ℕ → (ℕ → ℕ) → ℕ → ℕ
lacking σ held old s = need σ s - min (need σ s) (sets_in σ (bit_and held (old s)))
