-- The soundness of what is kept by two parts: whether the kept view and its termination pass rows 7, 10 and 11 (`ready_of`), and what
-- those rows leave open. A view that passes them is kept, and has no entry from S up; else nothing is kept.
use Rattle.std.specs.Prelude.{ℕ, ◌<◌, Bool, not, ◌&&◌, ◌||◌, List, ◌≡◌}
use Rattle.std.proofs.Common.{arith, sym}
use Rattle.std.proofs.Math.Bool.{true, false, cond}
use Rattle.std.proofs.Math.Path.{refl}
use Rattle.std.proofs.Math.Dec.{eqb, ltb}
use borrow.Author.Tests.{eqb-true, le-leb, lt-ltb, ltb-true}
use Rattle.base_laws.specs.Definitions.{all_below, within}
use Rattle.base_laws.specs.Below.{all_at, all_of, all_cong}
use Rattle.base_laws.specs.Bools.{clash, no_true, and_left, and_right, and_both, and_fails_left, of_not_true}
use Rattle.settings_values.specs.Definitions.{nodes, shards, Settings}
use Rattle.message_format.specs.declared.Form.TheVariants.{Report}
use Rattle.message_format.specs.Definitions.{view_ok, row10}
use Rattle.report_views.specs.declared.Layout.{Layout}
use Rattle.report_views.specs.declared.Termination.{Termination}
use Rattle.report_views.specs.Definitions.{is_start, mask_at, position_at, layout_blank, layout_tidy, view_sound, position_sound, term_sound_at, term_sound, nothing_kept, kept_sound}
use Rattle.report_walk.specs.Kept.{ready_of, ready_means}

-- where a termination is not made, and from S up, a position is (0, 0)
unfoldable pub position_tidy : List ℕ → Termination → ℕ → Bool
position_tidy σ t s = (t.made && ltb s (shards σ)) || is_start (position_at t s)

-- a view that passes its rows has no entry from S up; else nothing is kept
unfoldable pub tidy_or_none : List ℕ → Layout → Termination → ℕ → Bool → Bool
tidy_or_none σ v t held ready = cond ready (layout_tidy σ v) (nothing_kept v t held)

module _ (σ : List ℕ) (v : Layout) (t : Termination) (held : ℕ) (w : Settings σ) where
  -- where a termination's positions pass row 11, what is left is that there are no others
  term_tidy : (t.made ≡ true → (s : ℕ) → s < shards σ → position_sound v.number.0 (position_at t s) ≡ true)
      → term_sound σ v t ≡ all_below 16 (position_tidy σ t)
  unfolding term_sound term_sound_at position_tidy
  term_tidy legal =
      all_cong 16 (term_sound_at σ v t) (position_tidy σ t) (λ s l.
      pick (t.made && ltb s (shards σ)) (position_sound v.number.0 (position_at t s)) (is_start (position_at t s))
      (λ h. legal (and_left t.made (ltb s (shards σ)) h) s (ltb-true s (shards σ) (and_right t.made (ltb s (shards σ)) h))))
    where
      pick : (a b c : Bool) → (a ≡ true → b ≡ true) → cond a b c ≡ (a || c)
      pick true b c h = h refl
      pick false b c h = refl

  -- a sound view and termination pass rows 7, 10 and 11
  sound_ready : view_sound σ v ≡ true → term_sound σ v t ≡ true → ready_of σ v t ≡ true
  unfolding view_sound term_sound term_sound_at ready_of
  sound_ready g h =
      let rows = and_left (view_ok Report v.number.0 && within (nodes σ) v.members && row10 σ v.members (mask_at v)) (layout_tidy σ v) g in
      and_both rows (go t.made refl)
    where
      go : (m : Bool) → t.made ≡ m → (not m || all_below (shards σ) (λ s. position_sound v.number.0 (position_at t s))) ≡ true
      go false e = refl
      go true e =
          all_of (shards σ) (λ s. position_sound v.number.0 (position_at t s)) (λ s l.
          rw (e, lt-ltb s (shards σ) l) at (all_at 16 (term_sound_at σ v t) h s (omega (arith, w.sizes.shards_to))))

  -- where a view passes row 7 one is kept
  numbered : view_ok Report v.number.0 ≡ true → nothing_kept v t held ≡ false
  unfolding nothing_kept layout_blank view_ok
  numbered h =
      no_true _ (λ e.
      let zero : v.number.0 ≡ 0 = eqb-true v.number.0 0 (and_left _ _ (and_left _ _ (and_left _ _ (and_left _ _ e)))) in
      clash h (rw zero))

  unmade : nothing_kept v t held ≡ true → t.made ≡ false
  unfolding nothing_kept
  unmade e = of_not_true t.made (and_right (layout_blank v && eqb held 0) (not t.made) e)

  rows_tidy : view_ok Report v.number.0 ≡ true → within (nodes σ) v.members ≡ true → row10 σ v.members (mask_at v) ≡ true
      → view_sound σ v ≡ layout_tidy σ v
  unfolding view_sound
  rows_tidy a b c = rw (a, b, c)

  -- the parts together are the soundness of what is kept
  pub kept_ready : (ready : Bool) → ready ≡ ready_of σ v t
      → kept_sound σ v t held ≡ (tidy_or_none σ v t held ready && all_below 16 (position_tidy σ t) && within (nodes σ) held)
  unfolding kept_sound tidy_or_none position_sound
  kept_ready true e =
      let r = ready_means σ v t (sym e) in
      let legal = term_tidy (λ m s l.
      let p = r.positions m s l in
      and_both p.placed (le-leb (position_at t s).view.0 v.number.0 p.view_to)) in
      rw (numbered r.view, rows_tidy r.view r.inside r.masks, legal)
  kept_ready false e = none (nothing_kept v t held) refl
    where
      none : (b : Bool) → nothing_kept v t held ≡ b
          → ((nothing_kept v t held || view_sound σ v) && term_sound σ v t && within (nodes σ) held)
          ≡ (nothing_kept v t held && all_below 16 (position_tidy σ t) && within (nodes σ) held)
      none true k = rw (k, term_tidy (λ m s l. clash m (unmade k)))
      none false k =
          rw k (and_fails_left (within (nodes σ) held) (no_true (view_sound σ v && term_sound σ v t) (λ g.
          clash (sound_ready (and_left (view_sound σ v) (term_sound σ v t) g) (and_right (view_sound σ v) (term_sound σ v t) g)) (sym e))))
