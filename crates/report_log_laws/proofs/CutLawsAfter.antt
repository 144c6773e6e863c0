-- Laws of the cut, for any two logs and any target. The cut is the end of the longest stretch of updates that the node's log and the
-- holder's log up to the target share from their beginning; what the node keeps, followed by what it fetches, is the holder's log up
-- to the target. It is a legal position that both logs have, no further than the target, and the holder's own cut is the target.
use Rattle.std.specs.Prelude.{ℕ, Bool, true, not, ◌&&◌, ◌||◌, ◌≡◌}
use mathlib.Core.List.{List, [], append-nil}
use Rattle.std.proofs.Common.{⊎_elim, sym, ap₂, ◌∙◌, subst}
use Rattle.std.proofs.Math.Path.{ap}
use Rattle.base_laws.specs.Bools.{and_both, and_left, or_left}
use Rattle.base_laws.specs.Positions.{not_after_refl}
use Rattle.base_ids.specs.declared.Position.{Position}
use Rattle.base_ids.specs.Definitions.{not_after}
use Rattle.base_ids.specs.Order.{same-position}
use Rattle.report_views.specs.Definitions.{start, runs_of, holds, has_update, cut_from}
use Rattle.report_views.specs.RunLaws.{Runs, start_first, has_cases}
use Rattle.report_views.specs.Updates.{updates_of, up_to, beyond, kept_updates, fetched_updates}
use Rattle.report_log_laws.specs.Stretches.{parted, among, among_append, among_those}
use Rattle.report_log_laws.specs.UpdateLaws.{runs_rises, log_rises, holds_runs}
use Rattle.report_log_laws.specs.CutLaws.{node_log, this_cut, cut_target}
use Rattle.report_log_laws.proofs.CutLaws.{holder_log, kept_fetched, kept_longest}

-- ---- the cut

module _ (b : List ℕ) (len : ℕ) (hb : List ℕ) (hlen s : ℕ) (t : Position) where
  module _ (own : Runs b len s) (holder : Runs hb hlen s) where
    -- update by update: a node has an update after the fetch just where the holder has it, up to the target
    pub kept_or_fetched : (p : Position)
        → (not_after p (this_cut b len hb hlen s t) && holds b len s p
        || (not (not_after p (this_cut b len hb hlen s t)) && (not_after p t && holds hb hlen s p)))
        ≡ (not_after p t && holds hb hlen s p)
    kept_or_fetched p =
        let c = (this_cut b len hb hlen s t) in
        let in-log = holds_runs b len s p in
        let in-holder = holds_runs hb hlen s p in
        let to-t = among_those (λ q. not_after q t) p (holder_log b len hb hlen s t) in
        rw (in-log, in-holder)
        (ap₂ ◌||◌ (sym (among_those (λ q. not_after q c) p (node_log b len hb hlen s t)))
        (ap (λ (x : Bool). not (not_after p c) && x) (sym to-t) ∙ sym (among_those (λ q. not (not_after q c)) p (up_to t (holder_log b len hb hlen s t))))
        ∙ sym (among_append p (kept_updates c (node_log b len hb hlen s t)) (fetched_updates c t (holder_log b len hb hlen s t)))
        ∙ ap (among p) (kept_fetched b len hb hlen s t own holder)
        ∙ to-t)

-- of a log that has the target: the cut is the target
module _ (b : List ℕ) (len s : ℕ) (t : Position) (own : Runs b len s) where
  reaches_target : holds b len s t ≡ true → not_after t (cut_from b len b len s t) ≡ true
  reaches_target h =
      let c = cut_from b len b len s t in
      let all = updates_of b s len in
      let whole = kept_longest b len b len s t own own (up_to t all) (beyond t all) []
      (sym (parted start t all (log_rises 0 0 (runs_of b s len) (runs_rises b len s own)))) (sym (append-nil (up_to t all))) in
      let last : among t (up_to t all) ≡ true = among_those (λ q. not_after q t) t all ∙ and_both (not_after_refl t.view.0 t.k) (sym (holds_runs b len s t) ∙ h) in
      and_left (not_after t c) (among t all)
      (sym (among_those (λ q. not_after q c) t all) ∙ ap (among t) whole.1 ∙ among_append t (up_to t all) whole.0 ∙ or_left (among t whole.0) last)

  pub cut_own : has_update b len s t ≡ true → cut_from b len b len s t ≡ t
  cut_own h =
      same-position (cut_from b len b len s t) t (cut_target b len b len s t)
      (⊎_elim (λ e. subst (λ (p : Position). not_after p (cut_from b len b len s t) ≡ true) (sym e) (start_first (cut_from b len b len s t)))
      reaches_target (has_cases b len s t h))
