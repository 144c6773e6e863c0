-- Laws of the cut, for any two logs and any target. The cut is the end of the longest stretch of updates that the node's log and the
-- holder's log up to the target share from their beginning; what the node keeps, followed by what it fetches, is the holder's log up
-- to the target. It is a legal position that both logs have, no further than the target, and the holder's own cut is the target.
use Rattle.std.specs.Prelude.{ℕ, true, ◌⊎◌, ◌≡◌, refl}
use mathlib.Core.List.{List, ◌++◌}
use Rattle.std.proofs.Common.{inl, inr, ⊎_elim, sym, ap₂, ◌∙◌, subst}
use Rattle.std.proofs.Math.Path.{ap}
use Rattle.base_laws.specs.Bools.{and_right}
use Rattle.base_ids.specs.declared.Position.{Position}
use Rattle.base_ids.specs.Definitions.{not_after}
use Rattle.message_format.specs.Definitions.{is_position}
use Rattle.report_views.specs.Definitions.{start, end_of, runs_of, holds, runs_to, cut_from}
use Rattle.report_views.specs.LogLaws.{held_end}
use Rattle.report_views.specs.RunLaws.{Runs, position_start, start_first, held_position}
use Rattle.report_views.specs.Updates.{updates_in, updates_of, shared_stretch, last_after, up_to, kept_updates, fetched_updates}
use Rattle.report_log_laws.specs.Stretches.{rises_after, parted, shared_up, shared_both, among, among_those, last_among}
use Rattle.report_log_laws.specs.UpdateLaws.{log_above, runs_rises, log_rises, log_to, updates_to, shared_updates, holds_runs}
use Rattle.report_log_laws.specs.CutLaws.{node_log, this_cut, log_rising}

-- ---- the cut

module _ (b : List ℕ) (len : ℕ) (hb : List ℕ) (hlen s : ℕ) (t : Position) where
  abbrev pub holder_log : List Position
  holder_log = updates_of hb s hlen

  module _ (own : Runs b len s) (holder : Runs hb hlen s) where
    to_wanted : updates_in (runs_to t (runs_of hb s hlen)) ≡ up_to t holder_log
    to_wanted = updates_to t 0 (runs_of hb s hlen) (runs_rises hb hlen s holder)

    to_log : log_above 0 (runs_to t (runs_of hb s hlen)) ≡ true
    to_log = log_to t 0 (runs_of hb s hlen) (runs_rises hb hlen s holder)

    wanted_rising : rises_after start (up_to t holder_log) ≡ true
    wanted_rising = subst (λ (ps : List Position). rises_after start ps ≡ true) to_wanted (log_rises 0 0 (runs_to t (runs_of hb s hlen)) to_log)

    -- it is the end of what they share from their beginning
    pub cut_shared : (this_cut b len hb hlen s t) ≡ last_after start (shared_stretch (node_log b len hb hlen s t) (up_to t holder_log))
    unfolding cut_from
    cut_shared =
        shared_updates start (runs_of b s len) (runs_to t (runs_of hb s hlen)) (runs_rises b len s own) to_log
        ∙ ap (λ (ps : List Position). last_after start (shared_stretch (node_log b len hb hlen s t) ps)) to_wanted

    -- which is what the node keeps, and what the holder has up to the cut
    pub kept_shared : kept_updates (this_cut b len hb hlen s t) (node_log b len hb hlen s t) ≡ shared_stretch (node_log b len hb hlen s t) (up_to t holder_log)
    kept_shared = rw cut_shared (shared_up start (node_log b len hb hlen s t) (up_to t holder_log) (log_rising b len hb hlen s t own holder) wanted_rising).0

    wanted_shared : up_to (this_cut b len hb hlen s t) (up_to t holder_log) ≡ shared_stretch (node_log b len hb hlen s t) (up_to t holder_log)
    wanted_shared = rw cut_shared (shared_up start (node_log b len hb hlen s t) (up_to t holder_log) (log_rising b len hb hlen s t own holder) wanted_rising).1

    -- what the node keeps, followed by what it fetches, is the holder's log up to the target
    pub kept_fetched : kept_updates (this_cut b len hb hlen s t) (node_log b len hb hlen s t) ++ fetched_updates (this_cut b len hb hlen s t) t holder_log ≡ up_to t holder_log
    kept_fetched =
        ap (λ (ps : List Position). ps ++ fetched_updates (this_cut b len hb hlen s t) t holder_log) (kept_shared ∙ sym wanted_shared)
        ∙ parted start (this_cut b len hb hlen s t) (up_to t holder_log) wanted_rising

    -- and no longer stretch is shared: any from the beginning of both stands at the beginning of what is kept
    pub kept_longest : (us ps qs : List Position) → (node_log b len hb hlen s t) ≡ us ++ ps → up_to t holder_log ≡ us ++ qs
        → (zs : List Position) × (kept_updates (this_cut b len hb hlen s t) (node_log b len hb hlen s t) ≡ us ++ zs)
    kept_longest us ps qs e d = (shared_stretch ps qs, kept_shared ∙ ap₂ (λ (x y : List Position). shared_stretch x y) e d ∙ shared_both us ps qs)

    -- it is (0, 0), or both logs hold it
    cut_among : ((this_cut b len hb hlen s t) ≡ start) ⊎ (among (this_cut b len hb hlen s t) (shared_stretch (node_log b len hb hlen s t) (up_to t holder_log)) ≡ true)
    cut_among =
        ⊎_elim (λ e. inl (cut_shared ∙ e)) (λ h. inr (subst (λ (p : Position). among p (shared_stretch (node_log b len hb hlen s t) (up_to t holder_log)) ≡ true) (sym cut_shared) h))
        (last_among start (shared_stretch (node_log b len hb hlen s t) (up_to t holder_log)))

    pub cut_kept : ((this_cut b len hb hlen s t) ≡ start) ⊎ (holds b len s (this_cut b len hb hlen s t) ≡ true)
    cut_kept =
        let c = (this_cut b len hb hlen s t) in
        ⊎_elim (λ e. inl e)
        (λ h.
        inr (holds_runs b len s c
        ∙ and_right (not_after c c) (among c (node_log b len hb hlen s t)) (sym (among_those (λ q. not_after q c) c (node_log b len hb hlen s t)) ∙ ap (among c) kept_shared ∙ h)))
        cut_among

    pub cut_held : ((this_cut b len hb hlen s t) ≡ start) ⊎ (holds hb hlen s (this_cut b len hb hlen s t) ≡ true)
    cut_held =
        let c = (this_cut b len hb hlen s t) in
        ⊎_elim (λ e. inl e)
        (λ h.
        let shown = and_right (not_after c c) (among c (up_to t holder_log)) (sym (among_those (λ q. not_after q c) c (up_to t holder_log)) ∙ ap (among c) wanted_shared ∙ h) in
        inr (holds_runs hb hlen s c
        ∙ and_right (not_after c t) (among c holder_log) (sym (among_those (λ q. not_after q t) c holder_log) ∙ shown)))
        cut_among

    -- it is a legal position
    pub cut_position : is_position (this_cut b len hb hlen s t).view.0 (this_cut b len hb hlen s t).k ≡ true
    cut_position = ⊎_elim (λ e. rw e (position_start 0 0 refl refl)) (λ e. held_position hb hlen s (this_cut b len hb hlen s t) holder e) cut_held

    -- no further than the node's end
    pub cut_end : not_after (this_cut b len hb hlen s t) (end_of b s len) ≡ true
    cut_end = ⊎_elim (λ e. rw e (start_first (end_of b s len))) (λ e. held_end b len s own.rise (this_cut b len hb hlen s t) e) cut_kept
