-- While gathering, soundness is asked of each held node by itself: a state is sound with some of its held nodes alone, and sound where it is so
-- with some alone and with the others alone, if both are there.
use Rattle.std.specs.Prelude.{ℕ, ◌-◌, ◌^◌, ◌<◌, false, ◌&&◌, ◌||◌, List, ◌⊎◌, ◌≡◌}
use Rattle.std.proofs.Math.Bool.{true, not}
use Rattle.std.proofs.Math.Logic.{inl, inr, ⊎_elim}
use Rattle.std.proofs.Math.Path.{ap}
use Rattle.std.proofs.Common.{◌∙◌, arith, pow_pos}
use Rattle.std.proofs.Math.Dec.{eqb}
use borrow.Author.Tests.{eqb-true, eq-eqb}
use Rattle.base_laws.specs.Bools.{either, clash, and_both, and_left, and_right, or-holds, not_of_false, of_not_true}
use Rattle.base_laws.specs.Below.{all_at}
use Rattle.base_laws.specs.Definitions.{has, within, subset, minus}
use Rattle.base_laws.specs.Masks.{has_minus, has_zero, has_full, subset_has, subset_of, subset_le, within_has, lt_within, width}
use Rattle.base_laws.proofs.Masks.{within_subset}
use Rattle.settings_values.specs.Definitions.{nodes}
use Rattle.report_views.specs.declared.Phase.TheVariants.{Gathering}
use Rattle.report_views.specs.Definitions.{slot_ok, slots_ok, layout_blank, nothing_kept}
use Rattle.report_rows.specs.Laws.{latest_given, latest-test}
use Rattle.plan_masks.specs.Counting.{slots_fewer}
use Rattle.state_planner.specs.declared.State.{State}
use Rattle.state_planner.specs.Definitions.{sound, holding}
use Rattle.state_laws.specs.Parts.{sound_given, sound-test, kept_given, kept_test, slots_of, marks_still, plan_still}

module _ (σ : List ℕ) (x : State) (d : List ℕ) (gathering : x.phase ≡ Gathering) where
  slot_at : (held : ℕ) → slots_ok σ x.kept x.termination held d ≡ true → (k : ℕ) → k < 32 → has held k ≡ true → slot_ok σ x.kept x.termination d k ≡ true
  unfolding slots_ok
  slot_at held h k l p =
      ⊎_elim (λ e. clash p (of_not_true (has held k) e)) (λ e. e)
      (or-holds (not (has held k)) (slot_ok σ x.kept x.termination d k) (all_at 32 (λ m. not (has held m) || slot_ok σ x.kept x.termination d m) h k l))

  -- with fewer held nodes
  pub sound_fewer : (fewer : ℕ) → subset fewer x.held ≡ true → sound σ x d ≡ true → sound σ (holding x fewer) d ≡ true
  unfolding holding nothing_kept
  sound_fewer fewer s h =
      let w = sound_given σ x d h in
      let k = kept_given σ x.kept x.termination x.held w.kept-sound in
      let r = latest_given σ x.kept.number.0 x.held d x.latest w.latest-sound in
      sound-test σ (holding x fewer) d
      (record {
        kept-sound =
            kept_test σ x.kept x.termination fewer
            (record { view_kept = ⊎_elim (λ e. inl (none e)) (λ e. inr e) k.view_kept; term-sound = k.term-sound; held_within = within_subset (nodes σ) fewer x.held s k.held_within });
        slots-ok = slots_fewer σ x.kept x.termination x.held fewer d s w.slots-ok;
        marks-sound = marks_still x.phase x.held fewer x.fetched x.prepared gathering w.marks-sound;
        latest-sound =
            latest-test σ x.kept.number.0 fewer d x.latest
            (record {
              from_report = λ n l p. r.from_report n l (subset_has fewer x.held s n p);
              to_kept = λ n l p. r.to_kept n l (subset_has fewer x.held s n p);
              none_past = r.none_past;
            });
        plan-fits =
            plan_still x.phase σ x.kept x.kept x.termination x.termination x.held fewer d d x.plan gathering w.plan-fits;
      })
    where
      none : nothing_kept x.kept x.termination x.held ≡ true → nothing_kept x.kept x.termination fewer ≡ true
      none h =
          let e = and_left (layout_blank x.kept && eqb x.held 0) (not x.termination.made) h in
          let z = eqb-true x.held 0 (and_right (layout_blank x.kept) (eqb x.held 0) e) in
          and_both (and_both (and_left (layout_blank x.kept) (eqb x.held 0) e) (eq-eqb fewer 0 (omega (arith, subset_le fewer x.held s))))
          (and_right (layout_blank x.kept && eqb x.held 0) (not x.termination.made) h)

  -- with some held nodes, node n not among them, and with the others
  module _ (fewer n : ℕ) (mine : has x.held n ≡ true) (gone : has fewer n ≡ false) where
    abbrev remaining : ℕ
    remaining = minus x.held fewer

    either_has : (k : ℕ) → has x.held k ≡ true → (has fewer k ≡ true) ⊎ (has remaining k ≡ true)
    either_has k h = ⊎_elim (λ e. inl e) (λ e. inr (has_minus x.held fewer k ∙ and_both h (not_of_false e))) (either (has fewer k))

    pub sound_both : sound σ (holding x fewer) d ≡ true → sound σ (holding x remaining) d ≡ true → sound σ x d ≡ true
    unfolding holding nothing_kept
    sound_both f o =
        let a = sound_given σ (holding x fewer) d f in
        let b = sound_given σ (holding x remaining) d o in
        let ka = kept_given σ x.kept x.termination fewer a.kept-sound in
        let kb = kept_given σ x.kept x.termination remaining b.kept-sound in
        let ra = latest_given σ x.kept.number.0 fewer d x.latest a.latest-sound in
        let rb = latest_given σ x.kept.number.0 remaining d x.latest b.latest-sound in
        sound-test σ x d
        (record {
          kept-sound =
              kept_test σ x.kept x.termination x.held
              (record {
                view_kept = ⊎_elim (λ e. absurd (some e)) (λ e. inr e) kb.view_kept;
                term-sound = ka.term-sound;
                held_within = inside ka.held_within kb.held_within;
              });
          slots-ok =
              slots_of σ x.kept x.termination x.held d
              (λ k l h. ⊎_elim (λ e. slot_at fewer a.slots-ok k l e) (λ e. slot_at remaining b.slots-ok k l e) (either_has k h));
          marks-sound = marks_still x.phase fewer x.held x.fetched x.prepared gathering a.marks-sound;
          latest-sound =
              latest-test σ x.kept.number.0 x.held d x.latest
              (record {
                from_report = λ k l h. ⊎_elim (λ e. ra.from_report k l e) (λ e. rb.from_report k l e) (either_has k h);
                to_kept = λ k l h. ⊎_elim (λ e. ra.to_kept k l e) (λ e. rb.to_kept k l e) (either_has k h);
                none_past = ra.none_past;
              });
          plan-fits =
              plan_still x.phase σ x.kept x.kept x.termination x.termination fewer x.held d d x.plan gathering a.plan-fits;
        })
      where
        -- a node is held
        some : nothing_kept x.kept x.termination remaining ≡ true → ⊥
        some h =
            let e = and_right (layout_blank x.kept) (eqb remaining 0) (and_left (layout_blank x.kept && eqb remaining 0) (not x.termination.made) h) in
            let z : has remaining n ≡ has 0 n = ap (λ (m : ℕ). has m n) (eqb-true remaining 0 e) in
            clash (has_minus x.held fewer n ∙ and_both mine (not_of_false gone)) (z ∙ has_zero n)

        inside : within (nodes σ) fewer ≡ true → within (nodes σ) remaining ≡ true → within (nodes σ) x.held ≡ true
        inside p q =
            lt_within (nodes σ) x.held
            (omega (
              arith,
              pow_pos (nodes σ),
              subset_le x.held (2 ^ nodes σ - 1)
                  (subset_of x.held x.held (2 ^ nodes σ - 1) (width x.held)
                  (λ k l h. has_full (nodes σ) k (⊎_elim (λ e. within_has (nodes σ) fewer p k e) (λ e. within_has (nodes σ) remaining q k e) (either_has k h)))),
            ))
