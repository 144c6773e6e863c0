-- An accepted drop leads to a sound state: with fewer held nodes what was sound while gathering is sound, and gathering anew has
-- no marks and no plan.
use Rattle.std.specs.Prelude.{ℕ, ◌^◌, true, not, ◌&&◌, List, ◌≡◌}
use Rattle.std.proofs.Common.{arith, inl, inr, ⊎_elim}
use Rattle.std.proofs.Math.Path.{refl}
use Rattle.std.proofs.Math.Dec.{eqb}
use borrow.Author.Tests.{eqb-true, eq-eqb}
use Rattle.base_laws.specs.Bools.{and_both, and_left, and_right, clash}
use Rattle.base_laws.specs.Definitions.{subset, without}
use Rattle.base_laws.specs.Masks.{subset_has, subset_le, has_zero}
use Rattle.base_laws.proofs.Masks.{minus_subset, within_subset}
use Rattle.settings_values.specs.Definitions.{nodes}
use Rattle.report_views.specs.declared.Layout.{Layout}
use Rattle.report_views.specs.declared.Termination.{Termination}
use Rattle.report_views.specs.declared.Phase.{Phase}
use Rattle.report_views.specs.declared.Phase.TheVariants.{Gathering, Ordered, Preparing, Committed}
use Rattle.report_views.specs.Meets.{slot_given}
use Rattle.report_views.specs.Definitions.{layout_blank, nothing_kept, kept_sound, slots_ok}
use Rattle.report_rows.specs.declared.latest.Latest.{Latest}
use Rattle.report_rows.specs.Definitions.{latest_sound}
use Rattle.report_rows.specs.Laws.{latest_given, latest-test}
use Rattle.state_planner.specs.declared.State.{State}
use Rattle.state_planner.specs.Definitions.{sound, holding, restarted, dropped_in}
use Rattle.state_laws.specs.Parts.{SoundState, sound-test, kept_given, kept_test, slots_of, marks_still, plan_still}
use Rattle.state_laws.specs.Fitting.{slot_reported, reported_slot}
use Rattle.state_laws.specs.Noting.{RecallsReports}

-- ---- fewer held nodes

module _ (σ : List ℕ) (v : Layout) (t : Termination) (held fewer : ℕ) (s : subset fewer held ≡ true) where
  nothing_fewer : nothing_kept v t held ≡ true → nothing_kept v t fewer ≡ true
  unfolding nothing_kept
  nothing_fewer h =
      let e = and_left (layout_blank v && eqb held 0) (not t.made) h in
      let z = eqb-true held 0 (and_right (layout_blank v) (eqb held 0) e) in
      and_both (and_both (and_left (layout_blank v) (eqb held 0) e) (eq-eqb fewer 0 (omega (arith, subset_le fewer held s))))
      (and_right (layout_blank v && eqb held 0) (not t.made) h)

  pub kept_fewer : kept_sound σ v t held ≡ true → kept_sound σ v t fewer ≡ true
  kept_fewer h =
      let k = kept_given σ v t held h in
      kept_test σ v t fewer
      (record {
        view_kept = ⊎_elim (λ e. inl (nothing_fewer e)) (λ e. inr e) k.view_kept;
        term-sound = k.term-sound;
        held_within = within_subset (nodes σ) fewer held s k.held_within;
      })

  pub slots_fewer : (d : List ℕ) → slots_ok σ v t held d ≡ true → slots_ok σ v t fewer d ≡ true
  slots_fewer d h =
      slots_of σ v t fewer d (λ n l p.
      reported_slot σ v t d n (slot_reported σ v t d n (slot_given σ v t held d h n l (subset_has fewer held s n p))))

-- what is remembered of fewer held nodes
pub latest_fewer : (σ : List ℕ) (number held fewer : ℕ) (d : List ℕ) (m : Latest) → subset fewer held ≡ true → latest_sound σ number held d m ≡ true
    → latest_sound σ number fewer d m ≡ true
latest_fewer σ number held fewer d m s h =
    let r = latest_given σ number held d m h in
    latest-test σ number fewer d m
    (record {
      from_report = λ n l p. r.from_report n l (subset_has fewer held s n p);
      to_kept = λ n l p. r.to_kept n l (subset_has fewer held s n p);
      none_past = r.none_past;
    })

module _ (σ : List ℕ) (x : State) (d : List ℕ) (n : ℕ) (before : SoundState σ x d) where
  -- while gathering, the node is no longer held
  pub fewer_sound : x.phase ≡ Gathering → sound σ (holding x (without x.held n)) d ≡ true
  unfolding holding
  fewer_sound g =
      let fewer = without x.held n in
      let s = minus_subset x.held (2 ^ n) in
      sound-test σ (holding x fewer) d
      (record {
        kept-sound = kept_fewer σ x.kept x.termination x.held fewer s before.kept-sound;
        slots-ok = slots_fewer σ x.kept x.termination x.held fewer s d before.slots-ok;
        marks-sound = marks_still x.phase x.held fewer x.fetched x.prepared g before.marks-sound;
        latest-sound = latest_fewer σ x.kept.number.0 x.held fewer d x.latest s before.latest-sound;
        plan-fits = plan_still x.phase σ x.kept x.kept x.termination x.termination x.held fewer d d x.plan g before.plan-fits;
      })

-- nothing that is remembered goes
pub drop_latest : (p : Phase) (x : State) (n : ℕ) → (dropped_in p x n).latest ≡ x.latest
unfolding dropped_in holding restarted
drop_latest Gathering x n = refl
drop_latest Ordered x n = refl
drop_latest Preparing x n = refl
drop_latest Committed x n = refl

-- what is remembered of the nodes that are still held is what was
pub drop_exact : (p : Phase) (x : State) (d : List ℕ) (n : ℕ) → RecallsReports x.held d x.latest
    → RecallsReports (dropped_in p x n).held d (dropped_in p x n).latest
unfolding dropped_in holding restarted
drop_exact Gathering x d n r m l h = r m l (subset_has (without x.held n) x.held (minus_subset x.held (2 ^ n)) m h)
drop_exact Ordered x d n r m l h = clash h (has_zero m)
drop_exact Preparing x d n r m l h = clash h (has_zero m)
drop_exact Committed x d n r m l h = r m l h
