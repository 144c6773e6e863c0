-- A plan leads to a sound state, if it is one that the held reports allow: a met quorum holds some node, so that while ordered
-- some held node is not fetched.
use Rattle.std.specs.Prelude.{ℕ, true, ◌&&◌, List, ◌≡◌, refl, eqb}
use Rattle.std.proofs.Common.{arith, sym, ap, ◌∙◌}
use Rattle.std.specs.Int.Bits.{bit_and}
use Rattle.std.proofs.lemmas.Nat.{and_le_l}
use borrow.Author.Tests.{eqb-true, ne_eqb}
use Rattle.base_laws.specs.Bools.{clash, and_both, and_left, and_right, not_of_false}
use Rattle.base_laws.specs.Definitions.{count}
use Rattle.base_laws.specs.Masks.{count_empty}
use Rattle.base_laws.proofs.Masks.{subset_zero}
use Rattle.base_ids.specs.Definitions.{none}
use Rattle.report_views.specs.declared.Layout.{Layout}
use Rattle.report_views.specs.declared.Termination.{Termination}
use Rattle.report_views.specs.declared.Plan.{Plan}
use Rattle.report_views.specs.declared.Quorum.{Quorum}
use Rattle.report_views.specs.declared.Quorum.TheVariants.{Met, Short}
use Rattle.report_views.specs.Definitions.{quorum_of, marks_sound, is_met, plan_sound, plan_fits, is_gathering}
use Rattle.report_views.specs.Meets.{quorum_given}
use Rattle.state_planner.specs.declared.State.{State}
use Rattle.state_planner.specs.Definitions.{sound, planned, desk_ok, decide_refusal}
use Rattle.state_laws.specs.Parts.{SoundState, sound_given, sound-test, gathering_is, Entered, entry_given}

met_of : (q : Quorum) → is_met q ≡ true → q ≡ Met
unfolding is_met
met_of Met h = refl
met_of (Short r) h = clash h refl

-- a plan is made only where some node is held
some_held : (σ : List ℕ) (v : Layout) (t : Termination) (held : ℕ) (d : List ℕ) (p : Plan) → plan_sound σ v t held d p ≡ true → held ≡ 0 → ⊥
unfolding plan_sound
some_held σ v t held d p h e =
    let m = met_of (quorum_of σ v t held d) (and_left _ _ (and_left _ _ (and_left _ _ (and_left _ _ (and_left _ _ (and_left _ _ h)))))) in
    let z : bit_and held v.members ≡ 0 = omega (arith, and_le_l held v.members) in
    omega (arith, (quorum_given σ v t held d m).most, ap count z ∙ count_empty)

module _ (σ : List ℕ) (x : State) (d : List ℕ) (p : Plan) (h : decide_refusal σ x d ≡ none)
    (s : plan_sound σ x.kept x.termination x.held d p ≡ true) where
  entered : Entered (desk_ok d) σ x d (is_gathering x.phase)
  unfolding decide_refusal
  entered = entry_given (desk_ok d) σ x d (is_gathering x.phase) h

  before : SoundState σ x d
  before = sound_given σ x d entered.state_sound

  marks : (eqb x.fetched 0 && eqb x.prepared 0) ≡ true
  unfolding marks_sound
  marks = rw (gathering_is x.phase entered.in-phase) at before.marks-sound

  pub plan-sound : sound σ (planned x p) d ≡ true
  unfolding planned marks_sound plan_fits
  plan-sound =
      let unfetched : x.fetched ≡ 0 = eqb-true x.fetched 0 (and_left (eqb x.fetched 0) (eqb x.prepared 0) marks) in
      sound-test σ (planned x p) d
      (record {
        kept-sound = before.kept-sound;
        slots-ok = before.slots-ok;
        marks-sound =
            rw unfetched
            (and_both
            (and_both (subset_zero x.held) (not_of_false (ne_eqb 0 x.held (λ e. some_held σ x.kept x.termination x.held d p s (sym e)))))
            (and_right (eqb x.fetched 0) (eqb x.prepared 0) marks));
        latest-sound = before.latest-sound;
        plan-fits = s;
      })
