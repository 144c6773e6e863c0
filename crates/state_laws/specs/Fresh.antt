-- The fresh state is sound beside every desk, under any settings.
use Rattle.std.specs.Prelude.{ℕ, true, List, ◌≡◌, refl}
use Rattle.std.proofs.Common.{inl, pow_pos}
use Rattle.base_laws.specs.Bools.{clash}
use Rattle.base_laws.specs.Definitions.{all_below}
use Rattle.base_laws.specs.Masks.{has_zero, lt_within}
use Rattle.settings_values.specs.Definitions.{nodes}
use Rattle.report_views.specs.Definitions.{layout_blank, term_sound_at, term_sound, nothing_kept, marks_sound, plan_blank, plan_fits, no_view, no_termination}
use Rattle.report_rows.specs.Definitions.{no_latest}
use Rattle.report_rows.specs.Laws.{none_latest, latest-test}
use Rattle.state_planner.specs.Definitions.{sound, fresh}
use Rattle.state_laws.specs.Parts.{sound-test, kept_test, slots_of}

pub fresh_sound : (σ d : List ℕ) → sound σ fresh d ≡ true
unfolding fresh nothing_kept layout_blank term_sound term_sound_at all_below marks_sound plan_fits plan_blank
fresh_sound σ d =
    sound-test σ fresh d
    (record {
      kept-sound =
          kept_test σ no_view no_termination 0
          (record { view_kept = inl refl; term-sound = refl; held_within = lt_within (nodes σ) 0 (pow_pos (nodes σ)) });
      slots-ok = slots_of σ no_view no_termination 0 d (λ n l p. clash p (has_zero n));
      marks-sound = refl;
      latest-sound =
          latest-test σ 0 0 d no_latest
          (record { from_report = λ n l p. clash p (has_zero n); to_kept = λ n l p. clash p (has_zero n); none_past = λ n l p. none_latest n l });
      plan-fits = refl;
    })
