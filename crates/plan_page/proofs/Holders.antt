-- Holder and target of shard s depend on the kept view's number, the mask and the termination's position of s, the held mask, the views that
-- held nodes reported and their runs of s, and on nothing else.
use Rattle.std.specs.Prelude.{ℕ, ◌<◌, Bool, true, ◌&&◌, List, ◌≡◌, length}
use Rattle.std.proofs.Math.Logic.{⊎_elim}
use Rattle.std.proofs.Math.Path.{sym, ap, ap₂}
use Rattle.std.proofs.Common.{◌∙◌, subst, arith}
use Rattle.base_laws.specs.Bools.{either, lt_or_le, and_left, and_fails_left}
use Rattle.base_laws.specs.Definitions.{has}
use Rattle.base_ids.specs.declared.Position.{Position}
use Rattle.report_views.specs.declared.Layout.{Layout}
use Rattle.report_views.specs.declared.Termination.{Termination}
use Rattle.report_views.specs.Definitions.{start, end_of, runs_of, holds, has_update, end_at, candidate, best, target, able, holder}
use Rattle.report_views.specs.Shorthands.{has_at}
use Rattle.report_views.specs.Updates.{updates_in, last_after}
use Rattle.report_log_laws.specs.Stretches.{among}
use Rattle.report_log_laws.specs.UpdateLaws.{holds_runs, end_runs}
use Rattle.report_views.specs.Best.{best_cong, best_given, best_le}
use Rattle.report_views.specs.Meets.{candidate_given}
use Rattle.report_desk.specs.Ends.{desk_past}
use Rattle.plan_page.specs.Holders.{AlikeShard}

-- logs with the same runs end alike and have the same updates
ends_alike : (b c : List ℕ) (s k l : ℕ) → runs_of b s k ≡ runs_of c s l → end_of b s k ≡ end_of c s l
ends_alike b c s k l e = end_runs b s k ∙ ap (last_after start) e ∙ sym (end_runs c s l)

has_alike : (b c : List ℕ) (s k l : ℕ) (p : Position) → runs_of b s k ≡ runs_of c s l → has_update b k s p ≡ has_update c l s p
unfolding has_update
has_alike b c s k l p e =
    let held : holds b k s p ≡ holds c l s p =
    holds_runs b k s p ∙ ap (λ (rs : List Position). among p (updates_in rs)) e ∙ sym (holds_runs c l s p) in
    rw held

module _ {v w : Layout} {t u : Termination} {held : ℕ} {d e : List ℕ} {s : ℕ} (k : AlikeShard v w t u held d e s) where
  candidate_alike : (n : ℕ) → n < 32 → candidate v held d s n ≡ candidate w held e s n
  unfolding candidate
  candidate_alike n l =
      ⊎_elim (λ h. rw (k.views n l h, k.mask, k.number)) (λ h. rw h) (either (has held n))

  end_alike : (n : ℕ) → n < 32 → candidate v held d s n ≡ true → end_at d s n ≡ end_at e s n
  end_alike n l h = ends_alike _ _ s _ _ (k.runs n l (candidate_given v held d s n h).is_held)

  best_alike : best (candidate v held d s) (end_at d s) 32 ≡ best (candidate w held e s) (end_at e s) 32
  best_alike = best_cong (candidate v held d s) (candidate w held e s) (end_at d s) (end_at e s) 32 candidate_alike end_alike

  module _ (long : length d ≡ 16384) (wide : length e ≡ 16384) where
    -- the end of the best candidate's log, or of none
    last_alike : end_at d s (best (candidate v held d s) (end_at d s) 32) ≡ end_at e s (best (candidate w held e s) (end_at e s) 32)
    last_alike =
        ⊎_elim (λ l. end_alike b l (best_given (candidate v held d s) (end_at d s) 32 l).picked)
        (λ l.
        let z : 32 ≡ b = omega (arith, best_le (candidate v held d s) (end_at d s) 32) in
        subst (λ (n : ℕ). end_at d s n ≡ end_at e s n) z (desk_past d long s ∙ sym (desk_past e wide s)))
        (lt_or_le b 32)
        ∙ ap (end_at e s) best_alike
      where
        b : ℕ
        b = best (candidate v held d s) (end_at d s) 32

    pub target_alike : target v t held d s ≡ target w u held e s
    unfolding target
    target_alike = rw (k.made, k.position, last_alike)

    able_alike : (n : ℕ) → n < 32 → able v t held d s n ≡ able w u held e s n
    unfolding able
    able_alike n l =
        ⊎_elim
        (λ h.
        ap₂ (λ (b c : Bool). b && c) (candidate_alike n l)
        (has_alike _ _ s _ _ (target v t held d s) (k.runs n l (candidate_given v held d s n h).is_held)
        ∙ ap (λ (p : Position). has_at e s p n) target_alike))
        (λ h.
        and_fails_left (has_at d s (target v t held d s) n) h
        ∙ sym (and_fails_left (has_at e s (target w u held e s) n) (sym (candidate_alike n l) ∙ h)))
        (either (candidate v held d s n))

    pub holder_alike : holder v t held d s ≡ holder w u held e s
    unfolding holder able
    holder_alike =
        best_cong (able v t held d s) (able w u held e s) (end_at d s) (end_at e s) 32 able_alike
        (λ n l h. end_alike n l (and_left (candidate v held d s n) (has_at d s (target v t held d s) n) h))
