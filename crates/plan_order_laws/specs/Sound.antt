-- What a sound kept view and a sound plan give, as records.
use Rattle.std.specs.Prelude.{ℕ, ◌+◌, ◌<◌, ◌≤◌, Bool, true, ◌&&◌, ◌||◌, List, ◌≡◌, refl, eqb, leb}
use Rattle.std.proofs.Common.{arith, ap₂}
use Rattle.std.proofs.Math.Logic.{⊎_elim}
use borrow.Author.Tests.{eqb-true, leb-true, lt-ltb}
use Rattle.base_laws.specs.Bools.{clash, and_left, and_right, or-holds}
use Rattle.base_laws.specs.Definitions.{all_below, within}
use Rattle.base_laws.specs.Below.{all_at}
use Rattle.settings_values.specs.Definitions.{nodes, shards, Settings}
use Rattle.message_format.specs.Definitions.{view_ok, is_position}
use Rattle.place_groups.specs.Definitions.{group_valid}
use Rattle.report_views.specs.declared.Layout.{Layout}
use Rattle.report_views.specs.declared.Termination.{Termination}
use Rattle.report_views.specs.declared.Plan.{Plan}
use Rattle.report_views.specs.declared.Quorum.{Quorum}
use Rattle.report_views.specs.declared.Quorum.TheVariants.{Met, Short}
use Rattle.report_views.specs.Definitions.{pos, mask_at, position_at, holder_at, target_at, target, holder, quorum_of, same_position, layout_blank, nothing_kept, position_sound, layout_tidy, view_sound, term_sound_at, term_sound, kept_sound, is_met, shard_planned, all_moves, plan_sound}
use Rattle.report_views.specs.Meets.{QuorumMet, quorum_given}

-- what a view that is kept soundly gives
pub record KeptView (σ : List ℕ) (v : Layout) (t : Termination) (held : ℕ) : Type 0 where
  pub number_from : 1 ≤ v.number.0
  pub number_to : v.number.0 ≤ 4294967294
  pub held_within : within (nodes σ) held ≡ true
  pub term_legal : t.made ≡ true → (s : ℕ) → s < shards σ → is_position (position_at t s).view.0 (position_at t s).k ≡ true
  pub term_reaches : t.made ≡ true → (s : ℕ) → s < shards σ → (position_at t s).view.0 ≤ v.number.0

-- what a sound plan gives
pub record SoundPlan (σ : List ℕ) (v : Layout) (t : Termination) (held : ℕ) (d : List ℕ) (p : Plan) : Type 0 where
  pub met : QuorumMet σ v t held d
  pub number_next : p.layout.number.0 ≡ v.number.0 + 1
  pub members_held : p.layout.members ≡ held
  pub holder_is : (s : ℕ) → s < shards σ → holder_at p s ≡ holder v t held d s
  pub target_is : (s : ℕ) → s < shards σ → target_at p s ≡ target v t held d s
  pub groups-valid : (g : ℕ) → g < 4 → group_valid σ held (mask_at p.layout) g ≡ true

met_of : (q : Quorum) → is_met q ≡ true → q ≡ Met
unfolding is_met
met_of Met h = refl
met_of (Short r) h = clash h refl

-- what tests give that all hold
two : (a b : Bool) → (a && b) ≡ true → (a ≡ true) × (b ≡ true)
two a b h = (and_left a b h, and_right a b h)

three : (a b c : Bool) → (a && b && c) ≡ true → (a ≡ true) × (b ≡ true) × (c ≡ true)
three a b c h = let e = two (a && b) c h in (and_left a b e.0, and_right a b e.0, e.1)

seven : (a b c d e f g : Bool) → (a && b && c && d && e && f && g) ≡ true
    → (a ≡ true) × (b ≡ true) × (c ≡ true) × (e ≡ true) × (f ≡ true)
seven a b c d e f g h =
    let k = three (a && b && c && d) e f (and_left (a && b && c && d && e && f) g h) in
    let l = three a b c (and_left (a && b && c) d k.0) in
    (l.0, l.1, l.2, k.1, k.2)

module _ (σ : List ℕ) (v : Layout) (t : Termination) (held : ℕ) (w : Settings σ) (h : kept_sound σ v t held ≡ true) where
  kept_parts : ((nothing_kept v t held || view_sound σ v) ≡ true) × (term_sound σ v t ≡ true) × (within (nodes σ) held ≡ true)
  unfolding kept_sound
  kept_parts = three (nothing_kept v t held || view_sound σ v) (term_sound σ v t) (within (nodes σ) held) h

  -- a view is kept where its number is not 0
  kept_view : (v.number.0 ≡ 0 → ⊥) → view_sound σ v ≡ true
  unfolding nothing_kept layout_blank
  kept_view other =
      ⊎_elim (λ e. absurd (other (eqb-true v.number.0 0 (and_left _ _ (and_left _ _ (and_left _ _ (and_left _ _ e))))))) (λ e. e)
      (or-holds (nothing_kept v t held) (view_sound σ v) kept_parts.0)

  range : (v.number.0 ≡ 0 → ⊥) → (leb 1 v.number.0 ≡ true) × (leb v.number.0 4294967294 ≡ true)
  unfolding view_sound view_ok
  range other =
      two (leb 1 v.number.0) (leb v.number.0 4294967294) (and_left _ _ (and_left _ _ (and_left _ _ (kept_view other))))

  term_at : t.made ≡ true → (s : ℕ) → s < shards σ
      → (is_position (position_at t s).view.0 (position_at t s).k ≡ true) × (leb (position_at t s).view.0 v.number.0 ≡ true)
  unfolding term_sound term_sound_at position_sound
  term_at m s l =
      two (is_position (position_at t s).view.0 (position_at t s).k) (leb (position_at t s).view.0 v.number.0)
      (rw (m, lt-ltb s (shards σ) l) at (all_at 16 (term_sound_at σ v t) kept_parts.1 s (omega (arith, w.sizes.shards_to))))

  pub kept_given : (v.number.0 ≡ 0 → ⊥) → KeptView σ v t held
  kept_given other =
      record {
        number_from = leb-true 1 v.number.0 (range other).0;
        number_to = leb-true v.number.0 4294967294 (range other).1;
        held_within = kept_parts.2;
        term_legal = λ m s l. (term_at m s l).0;
        term_reaches = λ m s l. leb-true (position_at t s).view.0 v.number.0 (term_at m s l).1;
      }

module _ (σ : List ℕ) (v : Layout) (t : Termination) (held : ℕ) (d : List ℕ) (p : Plan) (w : Settings σ) (h : plan_sound σ v t held d p ≡ true) where
  plan_tests : (is_met (quorum_of σ v t held d) ≡ true) × (eqb p.layout.number.0 (v.number.0 + 1) ≡ true) × (eqb p.layout.members held ≡ true)
      × (all_below 16 (shard_planned σ v t held d p) ≡ true) × (all_below 4 (group_valid σ held (mask_at p.layout)) ≡ true)
  unfolding plan_sound
  plan_tests =
      seven (is_met (quorum_of σ v t held d)) (eqb p.layout.number.0 (v.number.0 + 1)) (eqb p.layout.members held)
      (layout_tidy σ p.layout)
      (all_below 16 (shard_planned σ v t held d p))
      (all_below 4 (group_valid σ held (mask_at p.layout)))
      (eqb p.total (all_moves σ v p.layout))
      h

  shard_tests : (s : ℕ) → s < shards σ →
      (eqb (holder_at p s) (holder v t held d s) ≡ true) × (same_position (target_at p s) (target v t held d s) ≡ true)
  unfolding shard_planned
  shard_tests s l =
      two (eqb (holder_at p s) (holder v t held d s)) (same_position (target_at p s) (target v t held d s))
      (rw (lt-ltb s (shards σ) l) at (all_at 16 (shard_planned σ v t held d p) plan_tests.3 s (omega (arith, w.sizes.shards_to))))

  pub plan_given : SoundPlan σ v t held d p
  plan_given =
      record {
        met = quorum_given σ v t held d (met_of (quorum_of σ v t held d) plan_tests.0);
        number_next = eqb-true p.layout.number.0 (v.number.0 + 1) plan_tests.1;
        members_held = eqb-true p.layout.members held plan_tests.2;
        holder_is = λ s l. eqb-true (holder_at p s) (holder v t held d s) (shard_tests s l).0;
        target_is = λ s l.
            let e = two (eqb (target_at p s).view.0 (target v t held d s).view.0) (eqb (target_at p s).k (target v t held d s).k) (shard_tests s l).1 in
            ap₂ pos (eqb-true (target_at p s).view.0 (target v t held d s).view.0 e.0)
            (eqb-true (target_at p s).k (target v t held d s).k e.1);
        groups-valid = λ g l. all_at 4 (group_valid σ held (mask_at p.layout)) plan_tests.4 g l;
      }
