-- The contents of our report, turned into a flat report and back, are the same.
use Rattle.std.specs.Prelude.{ℕ, ◌-◌, ◌≤◌, List}
use native.Mathlib.Omega.{arith}
use Rattle.std.proofs.Math.Logic.{⊎_elim}
use Rattle.base_laws.specs.Bools.{either}
use Rattle.settings_values.specs.Definitions.{shards}
use Rattle.message_format.specs.declared.Contents.{Contents}
use Rattle.message_format.specs.declared.Form.TheVariants.{Report}
use Rattle.message_format.specs.Passed.{ContentsPass}
use Rattle.message_flat.specs.Definitions.{has_places, places_in, runs_first, flat_length}
use Rattle.message_flat.specs.Records.{few, enough, place_below}

module _ (σ : List ℕ) (c : Contents) (one : 1 ≤ shards σ) (most : shards σ ≤ 16) (pass : ContentsPass Report σ c) where
  -- masks and positions are among the records
  pub first_le : runs_first σ c ≤ c.len
  unfolding places_in
  first_le =
      ⊎_elim (λ e. rw e (let l = place_below σ c pass e (shards σ - 1) (omega arith) in omega arith)) (λ e. rw e (omega (arith, enough σ c pass)))
      (either (has_places σ c))

  pub places_le : places_in σ c ≤ shards σ
  unfolding places_in
  places_le = ⊎_elim (λ e. rw e (omega arith)) (λ e. rw e (omega arith)) (either (has_places σ c))

  -- it fits, and with room to spare
  pub flat_fits : flat_length σ c ≤ 385
  flat_fits = omega (arith, few σ c pass, first_le, places_le)
