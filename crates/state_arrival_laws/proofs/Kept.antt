-- Where the kept view and its termination come from: they are the old ones, or those of a message, and no clause speaks of the order.
use Rattle.std.specs.Prelude.{ℕ, ◌<◌, ◌≤◌, true, false, ◌&&◌, List, ◌∷◌, ◌⊎◌, ◌≡◌, refl, eqb, ltb}
use native.Mathlib.Omega.{arith}
use Rattle.std.proofs.Math.Bool.{not}
use Rattle.std.proofs.Math.Logic.{inl, inr}
use Rattle.std.proofs.Common.{⊎_elim, ◌∙◌, subst, eqb-true, eq-eqb, ltb-true}
use Rattle.std.proofs.Math.Path.{sym, ap}
use Rattle.base_laws.specs.Bools.{either, clash, and_both, and_left, and_right, not_of_false, of_not_true, cond_of}
use Rattle.message_format.specs.Definitions.{contents_of}
use Rattle.report_views.specs.declared.Layout.{Layout}
use Rattle.report_views.specs.declared.Termination.{Termination}
use Rattle.report_kept.specs.declared.Kept.{Kept}
use Rattle.report_kept.specs.Definitions.{layout_of, termination_of, renewed}
use Rattle.state_planner.specs.declared.State.{State}
use Rattle.state_planner.specs.Definitions.{keeping, after_report}
use Rattle.state_arrival_laws.specs.Arrivals as arrivals
use Rattle.state_arrival_laws.specs.Arrivals.{AllTaken, OneOf, SameMessages}
use Rattle.state_arrival_laws.specs.Messages.{not_none, head_or}
use Rattle.state_arrival_laws.specs.Steps.{state_next}
use Rattle.state_arrival_laws.specs.Kept.{view_in, NewView, OldTermination, NewTermination, KeptThrough}

module _ (σ : List ℕ) where
  -- ---- views never fall

  view_least : (v : Layout) (ws : List (List ℕ)) (u : Layout) → (u ≡ v) ⊎ NewView σ v ws u → v.number.0 ≤ u.number.0
  unfolding layout_of
  view_least v ws u (inl e) = let q : u.number.0 ≡ v.number.0 = ap (λ (k : Layout). k.number.0) e in omega arith
  view_least v ws u (inr k) =
      let q : u.number.0 ≡ view_in k.message = ap (λ (l : Layout). l.number.0) k.given in omega (arith, k.greater)

  -- ---- before and after one message more

  module _ (w : List ℕ) (ws : List (List ℕ)) (v : Layout) (t : Termination) (u : Layout) (r : Termination) where
    -- the view stays
    view_more : (u ≡ v) ⊎ NewView σ v ws u → (u ≡ v) ⊎ NewView σ v (w ∷ ws) u
    view_more (inl e) = inl e
    view_more (inr k) = inr (record { message = k.message; among = arrivals.later w ws k.among; greater = k.greater; given = k.given })

    -- a greater view
    module _ (l : v.number.0 < view_in w) where
      greater_view : (u ≡ layout_of σ (contents_of w)) ⊎ NewView σ (layout_of σ (contents_of w)) ws u → (u ≡ v) ⊎ NewView σ v (w ∷ ws) u
      unfolding layout_of
      greater_view (inl e) = inr (record { message = w; among = arrivals.first ws; greater = l; given = e })
      greater_view (inr k) =
          inr (record { message = k.message; among = arrivals.later w ws k.among; greater = omega (arith, k.greater); given = k.given })

      passed : (u ≡ layout_of σ (contents_of w)) ⊎ NewView σ (layout_of σ (contents_of w)) ws u → v.number.0 < u.number.0
      unfolding layout_of
      passed k = omega (arith, view_least (layout_of σ (contents_of w)) ws u k)

      greater_termination : v.number.0 < u.number.0
          → OldTermination (layout_of σ (contents_of w)) (termination_of σ (contents_of w)) ws u r ⊎ NewTermination σ (layout_of σ (contents_of w)) (termination_of σ (contents_of w)) ws u r
          → OldTermination v t (w ∷ ws) u r ⊎ NewTermination σ v t (w ∷ ws) u r
      unfolding layout_of
      greater_termination up (inl o) =
          inr (record { message = w; among = arrivals.first ws; at_kept = sym (ap (λ (k : Layout). k.number.0) o.view); given = o.given; free = inl up })
      greater_termination up (inr k) =
          inr (record { message = k.message; among = arrivals.later w ws k.among; at_kept = k.at_kept; given = k.given; free = inl up })

      pub kept_greater : KeptThrough σ (layout_of σ (contents_of w)) (termination_of σ (contents_of w)) ws u r → KeptThrough σ v t (w ∷ ws) u r
      kept_greater k = record { view = greater_view k.view; termination = greater_termination (passed k.view) k.termination }

    -- the kept view, without a termination so far
    module _ (e : v.number.0 ≡ view_in w) (unmade : t.made ≡ false) where
      equal_termination : OldTermination v (termination_of σ (contents_of w)) ws u r ⊎ NewTermination σ v (termination_of σ (contents_of w)) ws u r
          → OldTermination v t (w ∷ ws) u r ⊎ NewTermination σ v t (w ∷ ws) u r
      equal_termination (inl o) =
          inr (record {
            message = w;
            among = arrivals.first ws;
            at_kept = sym (ap (λ (k : Layout). k.number.0) o.view ∙ e);
            given = o.given;
            free = inr unmade;
          })
      equal_termination (inr k) =
          inr (record { message = k.message; among = arrivals.later w ws k.among; at_kept = k.at_kept; given = k.given; free = inr unmade })

      pub kept_equal : KeptThrough σ v (termination_of σ (contents_of w)) ws u r → KeptThrough σ v t (w ∷ ws) u r
      kept_equal k = record { view = view_more k.view; termination = equal_termination k.termination }

    -- nothing changes
    module _ (e : (eqb v.number.0 (view_in w) && not t.made) ≡ false) where
      still_settled : (t.made ≡ true) ⊎ ((b : List ℕ) → OneOf b ws → view_in b ≡ v.number.0 → ⊥)
          → (t.made ≡ true) ⊎ (t.made ≡ false) → (t.made ≡ true) ⊎ ((b : List ℕ) → OneOf b (w ∷ ws) → view_in b ≡ v.number.0 → ⊥)
      still_settled (inl m) c = inl m
      still_settled (inr none) (inl m) = inl m
      still_settled (inr none) (inr m) =
          inr (λ b a q.
          ⊎_elim (λ p. clash (and_both (eq-eqb v.number.0 (view_in w) (sym q ∙ ap view_in p)) (not_of_false m)) e) (λ l. none b l q) (head_or b w ws a))

      still_termination : OldTermination v t ws u r ⊎ NewTermination σ v t ws u r → OldTermination v t (w ∷ ws) u r ⊎ NewTermination σ v t (w ∷ ws) u r
      still_termination (inl o) = inl (record { view = o.view; given = o.given; settled = still_settled o.settled (either t.made) })
      still_termination (inr k) =
          inr (record { message = k.message; among = arrivals.later w ws k.among; at_kept = k.at_kept; given = k.given; free = k.free })

      pub kept_still : KeptThrough σ v t ws u r → KeptThrough σ v t (w ∷ ws) u r
      kept_still k = record { view = view_more k.view; termination = still_termination k.termination }

    pub kept_more : KeptThrough σ (renewed σ v t (contents_of w)).view (renewed σ v t (contents_of w)).termination ws u r → KeptThrough σ v t (w ∷ ws) u r
    unfolding renewed
    kept_more =
        cond_of leads (ltb v.number.0 (view_in w)) (λ e. kept_greater (ltb-true v.number.0 (view_in w) e))
        (λ e.
        cond_of leads (eqb v.number.0 (view_in w) && not t.made)
        (λ f.
        kept_equal (eqb-true _ _ (and_left (eqb v.number.0 (view_in w)) (not t.made) f))
        (of_not_true t.made (and_right (eqb v.number.0 (view_in w)) (not t.made) f)))
        (λ f. kept_still f))
      where
        leads : Kept → Type 0
        leads k = KeptThrough σ k.view k.termination ws u r → KeptThrough σ v t (w ∷ ws) u r

  -- ---- all of them

  pub kept-by : {x : State} {d : List ℕ} {ws : List (List ℕ)} {y : State} {e : List ℕ} → AllTaken σ x d ws y e
      → KeptThrough σ x.kept x.termination ws y.kept y.termination
  unfolding after_report keeping
  kept-by (arrivals.none_left x d) =
      record { view = inl refl; termination = inl (record { view = refl; given = refl; settled = inr (λ w a. absurd (not_none w a)) }) }
  kept-by (arrivals.taking x d w ws y e h r) =
      kept_more w ws x.kept x.termination y.kept y.termination
      (subst (λ (z : State). KeptThrough σ z.kept z.termination ws y.kept y.termination) (state_next σ x d w h) (kept-by r))

  -- the same messages in another order
  module _ {ws us : List (List ℕ)} (same : SameMessages ws us) (v : Layout) (t : Termination) (u : Layout) (r : Termination) where
    view_over : (u ≡ v) ⊎ NewView σ v ws u → (u ≡ v) ⊎ NewView σ v us u
    view_over (inl e) = inl e
    view_over (inr k) = inr (record { message = k.message; among = same.forth k.message k.among; greater = k.greater; given = k.given })

    settled_over : (t.made ≡ true) ⊎ ((w : List ℕ) → OneOf w ws → view_in w ≡ v.number.0 → ⊥)
        → (t.made ≡ true) ⊎ ((w : List ℕ) → OneOf w us → view_in w ≡ v.number.0 → ⊥)
    settled_over (inl m) = inl m
    settled_over (inr none) = inr (λ w a. none w (same.back w a))

    termination_over : OldTermination v t ws u r ⊎ NewTermination σ v t ws u r → OldTermination v t us u r ⊎ NewTermination σ v t us u r
    termination_over (inl o) = inl (record { view = o.view; given = o.given; settled = settled_over o.settled })
    termination_over (inr k) =
        inr (record { message = k.message; among = same.forth k.message k.among; at_kept = k.at_kept; given = k.given; free = k.free })

    pub kept_over : KeptThrough σ v t ws u r → KeptThrough σ v t us u r
    kept_over k = record { view = view_over k.view; termination = termination_over k.termination }
