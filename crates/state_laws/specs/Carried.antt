-- A state saved by a release that remembered no views. Where a node is held it is unsound; with the views of the held nodes' reports it
-- is sound, if all else is.
use Rattle.std.specs.Prelude.{ℕ, ◌^◌, ◌<◌, ◌≤◌, Bool, List, ◌≡◌}
use Rattle.std.proofs.Common.{arith, ◌∙◌}
use Rattle.std.proofs.Math.Bool.{true, false, cond}
use Rattle.std.proofs.Math.Path.{ap}
use borrow.Author.Tests.{leb-true}
use Rattle.base_laws.specs.Bools.{no_true, and_left}
use Rattle.base_laws.specs.Definitions.{has, tabulate}
use Rattle.base_laws.specs.Masks.{has_past, within_lt}
use Rattle.base_laws.specs.Tables.{get_d_tabulate}
use Rattle.settings_values.specs.Definitions.{nodes}
use Rattle.base_ids.specs.declared.View.{View}
use Rattle.message_format.specs.declared.Form.TheVariants.{Report}
use Rattle.message_format.specs.Definitions.{view_ok, row7, contents_of}
use Rattle.message_format.specs.Passed.{message_given}
use Rattle.report_views.specs.Definitions.{slot, report_of, slots_ok, kept_sound, marks_sound, plan_fits}
use Rattle.report_views.specs.Shorthands.{view_of}
use Rattle.report_views.specs.Meets.{slot_given}
use Rattle.report_rows.specs.declared.latest.Latest.{Latest}
use Rattle.report_rows.specs.Definitions.{latest_at}
use Rattle.report_rows.specs.Laws.{latest_given, latest-test}
use Rattle.state_planner.specs.declared.State.{State}
use Rattle.state_planner.specs.Definitions.{sound, keeping}
use Rattle.state_laws.specs.Parts.{sound_given, sound-test, kept_given}

-- the views of the held nodes' reports, and none of other nodes
abbrev pub reported_views : ℕ → List ℕ → Latest
reported_views held d = record { views = tabulate 32 (λ n. record { 0 = cond (has held n) (view_of d n) 0 }) }

-- the state with these as what is remembered
unfoldable pub carried_over : State → List ℕ → State
carried_over x d = keeping x x.kept x.termination x.held (reported_views x.held d)

-- all that soundness asks but of what is remembered
pub record SoundElse (σ : List ℕ) (x : State) (d : List ℕ) : Type 0 where
  pub kept-sound : kept_sound σ x.kept x.termination x.held ≡ true
  pub slots-ok : slots_ok σ x.kept x.termination x.held d ≡ true
  pub marks-sound : marks_sound x.phase x.held x.fetched x.prepared ≡ true
  pub plan-fits : plan_fits x.phase σ x.kept x.termination x.held d x.plan ≡ true

module _ (σ : List ℕ) (x : State) (d : List ℕ) where
  pub carried_sound : SoundElse σ x d → sound σ (carried_over x d) d ≡ true
  unfolding carried_over keeping
  carried_sound s =
      sound-test σ (carried_over x d) d
      (record {
        kept-sound = s.kept-sound;
        slots-ok = s.slots-ok;
        marks-sound = s.marks-sound;
        latest-sound =
            latest-test σ x.kept.number.0 x.held d (reported_views x.held d)
            (record {
              from_report = λ n l h. omega (arith, entry n l true h);
              to_kept = λ n l h. omega (arith, entry n l true h, (slot_given σ x.kept x.termination x.held d s.slots-ok n l h).no_later);
              none_past = λ n l p. entry n l false (has_past x.held (nodes σ) n below p);
            });
        plan-fits = s.plan-fits;
      })
    where
      entry : (n : ℕ) → n < 32 → (b : Bool) → has x.held n ≡ b → latest_at (reported_views x.held d) n ≡ cond b (view_of d n) 0
      entry n l b h =
          ap (λ (v : View). v.0) (get_d_tabulate 32 (λ i. record { 0 = cond (has x.held i) (view_of d i) 0 }) n (record { 0 = 0 }) l) ∙ rw h

      below : x.held < 2 ^ nodes σ
      below = within_lt (nodes σ) x.held (kept_given σ x.kept x.termination x.held s.kept-sound).held_within

  -- a report's view is at least 1, so nothing is too little
  pub forgets_unsound : (n : ℕ) → n < 32 → has x.held n ≡ true → latest_at x.latest n ≡ 0 → sound σ x d ≡ false
  unfolding report_of contents_of row7 view_ok
  forgets_unsound n l h z =
      no_true (sound σ x d) (λ s.
      let p = sound_given σ x d s in
      let k = slot_given σ x.kept x.termination x.held d p.slots-ok n l h in
      let r = latest_given σ x.kept.number.0 x.held d x.latest p.latest-sound in
      let one : 1 ≤ view_of d n =
      leb-true 1 (view_of d n) (and_left _ _ (and_left _ _ (and_left _ _ (message_given Report σ (slot d n) k.valid).head_passes.view_passes))) in
      omega (arith, r.from_report n l h))
