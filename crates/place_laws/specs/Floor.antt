-- What the placement sheet says of subgroup g, in document 01's own terms: it is a sheet of the subgroup's case, its zeros are the failure
-- sets of a shard's held old members, and no valid placement of g has fewer moves than the floor.
use Rattle.std.specs.Prelude.{◌≡◌, List, eqb, ltb}
use Rattle.std.proofs.Common.{◌∙◌, arith}
use Rattle.std.proofs.Math.Path.{ap}
use Rattle.std.proofs.Math.Bool.{cond}
use Prim.Native.Nat.{ℕ, ◌<◌}
use Rattle.std.specs.Int.Bits.{bit_and}
use Rattle.base_laws.specs.Below.{count_cong}
use Rattle.base_sum_laws.specs.Definitions.{sum_below}
use Rattle.settings_values.specs.Definitions.{shards, subgroup, Settings}
use Rattle.search_laws.specs.Floor.{entry_of, entries_below}
use Rattle.place_groups.specs.Definitions.{meets_set, sets_in}
use Rattle.place_groups.specs.Sheet.{sheet_of}
use Rattle.place_groups.proofs.Laws.{sheet_entry, entry_stays}
use Rattle.place_laws.specs.Definitions.{lacking}

-- the same over the shards of subgroup g
unfoldable pub group_floor : List ℕ → ℕ → (ℕ → ℕ) → ℕ → ℕ
group_floor σ held old g = sum_below (shards σ) (λ s. cond (eqb (subgroup σ s) g) (lacking σ held old s) 0)

-- the zeros of a shard's row
pub zeros_are : (σ : List ℕ) (held : ℕ) (old : ℕ → ℕ) → Settings σ → (s : ℕ) → s < shards σ → entries_below (sheet_of σ held old) s 1 ≡ sets_in σ (bit_and held (old s))
unfolding entries_below sets_in
zeros_are σ held old right s l =
    count_cong 16 (λ f. ltb (entry_of (sheet_of σ held old) s f) 1) (meets_set σ (bit_and held (old s)))
    (λ f k. ap (λ (e : ℕ). ltb e 1) (sheet_entry σ held old s f (omega (arith, right.sizes.shards_to)) k) ∙ entry_stays σ held old right s l f)
