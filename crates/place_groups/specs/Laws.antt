-- The sheet by masks of failure sets, and what its entries say.
use Rattle.std.specs.Prelude.{ℕ, ◌<◌, ◌≡◌, Bool, false, ◌&&◌, ltb, get_or}
use Rattle.std.proofs.Common.{ap₂, ◌∙◌, lt-ltb}
use Rattle.std.proofs.Math.Path.{ap}
use Rattle.std.proofs.Math.Bool.{cond}
use mathlib.Core.List.{List, []}
use Rattle.std.specs.Int.Bits.{bit_and}
use Rattle.base_laws.specs.Bools.{and_both}
use Rattle.base_laws.specs.Definitions.{has, tabulate}
use Rattle.base_laws.specs.Tables.{tabulate_cong, get_d_tabulate}
use Rattle.settings_values.specs.Definitions.{sets, shards}
use Rattle.place_groups.specs.Sets.{sets_of, has_sets_of}
use Rattle.place_groups.specs.Sheet.{sheet_at, sheet_of}

-- the entry from the sets of the shard's held old members and those of all held nodes
unfoldable pub entry_by : List ℕ → ℕ → ℕ → ℕ → ℕ → ℕ
entry_by σ stay any s f = cond (ltb s (shards σ) && ltb f (sets σ)) (cond (has stay f) 0 (cond (has any f) 1 2)) 2

module _ (σ : List ℕ) (stay any s f : ℕ) where
  pub entry_out : (ltb s (shards σ) && ltb f (sets σ)) ≡ false → entry_by σ stay any s f ≡ 2
  unfolding entry_by
  entry_out h = ap (λ (b : Bool). cond b (cond (has stay f) 0 (cond (has any f) 1 2)) 2) h

  pub entry_in : s < shards σ → f < sets σ → entry_by σ stay any s f ≡ cond (has stay f) 0 (cond (has any f) 1 2)
  unfolding entry_by
  entry_in l k = ap (λ (b : Bool). cond b (cond (has stay f) 0 (cond (has any f) 1 2)) 2) (and_both (lt-ltb s (shards σ) l) (lt-ltb f (sets σ) k))

pub row_is : (σ : List ℕ) (held : ℕ) (old : ℕ → ℕ) (stay any s : ℕ) → stay ≡ sets_of σ (bit_and held (old s)) → any ≡ sets_of σ held
    → tabulate 16 (entry_by σ stay any s) ≡ tabulate 16 (sheet_at σ held old s)
unfolding entry_by sheet_at
row_is σ held old stay any s a b =
    tabulate_cong 16 (entry_by σ stay any s) (sheet_at σ held old s)
    (λ f l. ap₂ (λ (x y : Bool). cond (ltb s (shards σ) && ltb f (sets σ)) (cond x 0 (cond y 1 2)) 2)
    (ap (λ (m : ℕ). has m f) a ∙ has_sets_of σ (bit_and held (old s)) f) (ap (λ (m : ℕ). has m f) b ∙ has_sets_of σ held f))

-- ---- reading the sheet

module _ (σ : List ℕ) (held : ℕ) (old : ℕ → ℕ) where
  pub sheet_row : (s : ℕ) → s < 16 → get_or (sheet_of σ held old) s [] ≡ tabulate 16 (sheet_at σ held old s)
  unfolding sheet_of
  sheet_row s l = get_d_tabulate 16 (λ i. tabulate 16 (sheet_at σ held old i)) s [] l
