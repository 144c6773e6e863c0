-- What a sound kept view gives, part by part, and its bounds.
use Rattle.std.specs.Prelude.{ℕ, ◌^◌, ◌<◌, ◌≤◌, true, ◌&&◌, ◌||◌, List, ◌⊎◌, ◌≡◌, eqb}
use Rattle.std.proofs.Math.Logic.{⊎_elim}
use Rattle.std.proofs.Math.Nat.{lt_of_lt_of_le}
use Rattle.std.proofs.Common.{arith, pow_mono}
use borrow.Author.Tests.{eqb-true}
use Rattle.base_laws.specs.Bools.{and_left, and_right, or-holds}
use Rattle.base_laws.specs.Definitions.{within}
use Rattle.base_laws.specs.Masks.{within_lt}
use Rattle.settings_values.specs.Definitions.{nodes, Settings}
use Rattle.settings_values.specs.Laws.{range_high}
use Rattle.message_format.specs.declared.Form.TheVariants.{Report}
use Rattle.message_format.specs.Definitions.{view_ok, row10}
use Rattle.report_views.specs.declared.Layout.{Layout}
use Rattle.report_views.specs.declared.Termination.{Termination}
use Rattle.report_views.specs.Definitions.{mask_at, layout_blank, layout_tidy, view_sound, term_sound, nothing_kept, kept_sound}

pub record SoundKept (σ : List ℕ) (v : Layout) (t : Termination) (held : ℕ) : Type 0 where
  pub view_kept : (nothing_kept v t held ≡ true) ⊎ (view_sound σ v ≡ true)
  pub term-sound : term_sound σ v t ≡ true
  pub held_within : within (nodes σ) held ≡ true

module _ (σ : List ℕ) (v : Layout) (t : Termination) (held : ℕ) where
  pub kept_given : kept_sound σ v t held ≡ true → SoundKept σ v t held
  unfolding kept_sound
  kept_given h =
      let e = and_left ((nothing_kept v t held || view_sound σ v) && term_sound σ v t) (within (nodes σ) held) h in
      record {
        view_kept = or-holds (nothing_kept v t held) (view_sound σ v) (and_left (nothing_kept v t held || view_sound σ v) (term_sound σ v t) e);
        term-sound = and_right (nothing_kept v t held || view_sound σ v) (term_sound σ v t) e;
        held_within = and_right ((nothing_kept v t held || view_sound σ v) && term_sound σ v t) (within (nodes σ) held) h;
      }

  -- while no view is kept its number is 0, and so are its members
  pub nothing_number : nothing_kept v t held ≡ true → v.number.0 ≡ 0
  unfolding nothing_kept layout_blank
  nothing_number h = eqb-true v.number.0 0 (and_left _ _ (and_left _ _ (and_left _ _ (and_left _ _ h))))

  nothing_members : nothing_kept v t held ≡ true → v.members ≡ 0
  unfolding nothing_kept layout_blank
  nothing_members h =
      eqb-true v.members 0 (and_right (eqb v.number.0 0) (eqb v.members 0) (and_left _ _ (and_left _ _ (and_left _ _ h))))

  pub held_below : kept_sound σ v t held ≡ true → held < 2 ^ nodes σ
  held_below h = within_lt (nodes σ) held (kept_given h).held_within

  -- the next number fits a word
  pub number_to : kept_sound σ v t held ≡ true → v.number.0 ≤ 4294967294
  unfolding view_sound view_ok
  number_to h =
      ⊎_elim (λ e. omega (arith, nothing_number e))
      (λ e. range_high 1 4294967294 v.number.0 (and_left _ _ (and_left _ _ (and_left _ _ e))))
      (kept_given h).view_kept

  pub members-below : Settings σ → kept_sound σ v t held ≡ true → v.members < 2 ^ 32
  unfolding view_sound
  members-below right h =
      ⊎_elim (λ e. omega (arith, nothing_members e))
      (λ e.
      lt_of_lt_of_le
      (within_lt (nodes σ) v.members
      (and_right (view_ok Report v.number.0) (within (nodes σ) v.members) (and_left _ (row10 σ v.members (mask_at v)) (and_left _ (layout_tidy σ v) e))))
      (pow_mono right.sizes.nodes_to))
      (kept_given h).view_kept
