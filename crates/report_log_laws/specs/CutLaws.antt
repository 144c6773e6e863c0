-- Laws of the cut, for any two logs and any target. The cut is the end of the longest stretch of updates that the node's log and the
-- holder's log up to the target share from their beginning; what the node keeps, followed by what it fetches, is the holder's log up
-- to the target. It is a legal position that both logs have, no further than the target, and the holder's own cut is the target.
use Rattle.std.specs.Prelude.{ℕ, ◌≤◌, min, true, ◌&&◌, ◌≡◌, refl, eqb, ltb, leb}
use mathlib.Core.List.{List, [], ◌∷◌, ◌++◌}
use Rattle.std.proofs.Common.{inl, inr, ◌∙◌, arith, eqb-true, ltb-true}
use Rattle.base_laws.specs.Bools.{and_left, cond_of}
use Rattle.base_ids.specs.declared.Position.{Position}
use Rattle.base_ids.specs.Definitions.{not_after}
use Rattle.base_ids.specs.Order.{order_views, order_of}
use Rattle.report_views.specs.Definitions.{pos, start, runs_of, runs_to, shared_after, cut_from}
use Rattle.report_views.specs.RunLaws.{Runs, start_first}
use Rattle.report_views.specs.Updates.{updates_of, beyond, kept_updates}
use Rattle.report_log_laws.specs.Stretches.{rises_after, parted}
use Rattle.report_log_laws.specs.UpdateLaws.{runs_rises, log_rises}

-- ---- not past the target, whatever the bodies

shared_ended : (a : Position) (rs : List Position) → shared_after a rs [] ≡ a
unfolding shared_after
shared_ended a [] = refl
shared_ended a (r ∷ rs) = refl

shared_within : (t a : Position) (rs qs : List Position) → not_after a t ≡ true → not_after (shared_after a rs (runs_to t qs)) t ≡ true
unfolding shared_after runs_to
shared_within t a [] qs l = l
shared_within t a (r ∷ rs) [] l = l
shared_within t a (r ∷ rs) (q ∷ qs) l =
    cond_of (λ (ps : List Position). not_after (shared_after a (r ∷ rs) ps) t ≡ true) (ltb q.view.0 t.view.0)
    (λ e.
    let before-t = ltb-true q.view.0 t.view.0 e in
    cond_of (λ (p : Position). not_after p t ≡ true) (eqb r.view.0 q.view.0)
    (λ d.
    let view = eqb-true r.view.0 q.view.0 d in
    cond_of (λ (p : Position). not_after p t ≡ true) (eqb r.k q.k)
    (λ c. shared_within t r rs qs (order_of r t (inl (omega arith))))
    (λ c. order_of (pos r.view.0 (min r.k q.k)) t (inl (omega arith))))
    (λ d. l))
    (λ e.
    cond_of (λ (ps : List Position). not_after (shared_after a (r ∷ rs) ps) t ≡ true) (eqb q.view.0 t.view.0 && leb 1 t.k)
    (λ d.
    let in-view = eqb-true q.view.0 t.view.0 (and_left (eqb q.view.0 t.view.0) (leb 1 t.k) d) in
    cond_of (λ (p : Position). not_after p t ≡ true) (eqb r.view.0 q.view.0)
    (λ c.
    let view = eqb-true r.view.0 q.view.0 c in
    cond_of (λ (p : Position). not_after p t ≡ true) (eqb r.k (min q.k t.k))
    (λ k. rw (shared_ended r rs) (order_of r t (inr (view ∙ in-view, omega (arith, eqb-true r.k (min q.k t.k) k)))))
    (λ k. order_of (pos r.view.0 (min r.k (min q.k t.k))) t (inr (view ∙ in-view, omega arith))))
    (λ c. l))
    (λ d. l))

-- ---- the cut

module _ (b : List ℕ) (len : ℕ) (hb : List ℕ) (hlen s : ℕ) (t : Position) where
  -- the node's log, the holder's, and the cut
  abbrev pub node_log : List Position
  node_log = updates_of b s len

  abbrev pub this_cut : Position
  this_cut = cut_from b len hb hlen s t

  pub cut_target : not_after this_cut t ≡ true
  unfolding cut_from
  cut_target = shared_within t start (runs_of b s len) (runs_of hb s hlen) (start_first t)

  pub cut_view : this_cut.view.0 ≤ t.view.0
  cut_view = order_views this_cut t cut_target

  module _ (own : Runs b len s) (holder : Runs hb hlen s) where
    -- the node's log rises, and so does the holder's up to the target
    pub log_rising : rises_after start node_log ≡ true
    log_rising = log_rises 0 0 (runs_of b s len) (runs_rises b len s own)

    -- what it keeps stands at the beginning of its own log
    pub kept_first : kept_updates this_cut node_log ++ beyond this_cut node_log ≡ node_log
    kept_first = parted start this_cut node_log log_rising
