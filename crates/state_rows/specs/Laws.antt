-- What rows 3 and 4 answer, and that they are the rest of rows 1 to 4.
use Rattle.std.specs.Prelude.{ℕ, Bool, true, false, List, ◌≡◌}
use Rattle.settings_values.specs.Definitions.{Settings, settings_ok}
use Rattle.settings_values.specs.Laws.{settings_of}
use Rattle.base_ids.specs.Definitions.{refused, none, unless}
use Rattle.state_rows.specs.Rows.{sound_rows}

module _ (sound inPhase : Bool) where
  pub row_3 : sound ≡ false → refused 3 ≡ sound_rows sound inPhase
  unfolding unless
  row_3 x = rw x

  pub row_4 : sound ≡ true → inPhase ≡ false → refused 4 ≡ sound_rows sound inPhase
  unfolding unless
  row_4 x p = rw (x, p)

  pub no_row : sound ≡ true → inPhase ≡ true → none ≡ sound_rows sound inPhase
  unfolding unless
  no_row x p = rw (x, p)

  -- rows 1 and 2 do not refuse
  pub rows_passed : (lengths : Bool) (σ : List ℕ) → lengths ≡ true → Settings σ → sound_rows sound inPhase ≡ unless lengths 1 (unless (settings_ok σ) 2 (sound_rows sound inPhase))
  unfolding unless
  rows_passed lengths σ l right = rw (l, settings_of σ right)
