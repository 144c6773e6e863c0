-- Proof of the two claims on histories. newest: the step from the kept view to its successor u in the list suffices. More than half of the
-- kept view's members are in u and more than half are held, so some held node is in u; it logged u, so its true report is of u or later,
-- against the soundness of its slot. kept: the holder is a member of the shard and reported truly, so it has the update, which lies no
-- further than its log's end, and that no further than the target.
use Rattle.std.specs.Prelude.{ℕ, suc, ◌*◌, ◌^◌, ◌<◌, ◌≤◌, true, false, List, ◌≡◌, length}
use Rattle.std.proofs.Common.{⊎_elim, sym, ap, ◌∙◌, subst, arith}
use Rattle.std.specs.Int.Bits.{bit_and}
use Rattle.base_laws.specs.Bools.{clash, lt_or_le, eq_or_ne}
use Rattle.base_laws.specs.Definitions.{has, count}
use Rattle.base_laws.specs.Masks.{quorums_meet}
use Rattle.base_laws.specs.Positions.{not_after_trans}
use Rattle.base_ids.specs.declared.Position.{Position}
use Rattle.base_ids.specs.Definitions.{not_after}
use Rattle.settings_values.specs.Definitions.{shards}
use Rattle.report_views.specs.declared.Layout.{Layout}
use Rattle.report_views.specs.declared.Termination.{Termination}
use Rattle.report_views.specs.Definitions.{report_of, end_at, holds_at, mask_at, slots_ok, target, holder}
use Rattle.report_views.specs.Meets.{QuorumMet, slot_given, candidate_given, holder_given, able_candidate, target_greatest, log_end}
use Rattle.history_laws.specs.Definitions.{History, Full, Supposed, number_at, members_at, Claims}

module _ (σ : List ℕ) (v : Layout) (t : Termination) (held : ℕ) (d : List ℕ) (wide : v.members < 2 ^ 32)
    (slots : slots_ok σ v t held d ≡ true) (met : QuorumMet σ v t held d) where
  claim_newest : (H : History) → Supposed σ v held d H → (j : ℕ) → j < length H.views → ((i : ℕ) → i ≤ j → Full H i) →
      number_at H j ≤ v.number.0
  claim_newest H sup j inside full = ⊎_elim (λ later. absurd (missed later)) (λ ok. ok) (lt_or_le v.number.0 (number_at H j))
    where
      i : ℕ
      i = sup.place

      -- a later view at j lies after the kept one in the list
      after : v.number.0 < number_at H j → i < j
      after later =
          ⊎_elim (λ l. l)
          (λ ge.
          ⊎_elim (λ e. absurd (omega (arith, sup.listed.number, ap (number_at H) e)))
          (λ ne. absurd (omega (arith, sup.listed.number, sup.rule.rises j i (omega arith) sup.listed.listed)))
          (eq_or_ne j i))
          (lt_or_le i j)

      missed : v.number.0 < number_at H j → ⊥
      missed later =
          let l = after later in
          let listed : suc i < length H.views = omega arith in
          let same : members_at H i ≡ v.members = sym sup.listed.members in
          let most : count v.members < 2 * count (bit_and (members_at H (suc i)) v.members) =
          subst (λ (m : ℕ). count m < 2 * count (bit_and (members_at H (suc i)) m)) same (sup.rule.overlaps i listed) in
          let w = quorums_meet 32 (members_at H (suc i)) held v.members wide most met.most in
          let n : ℕ = w.0 in
          let slot = slot_given σ v t held d slots n w.1 w.3 in
          let report = sup.true_reports n w.1 w.3 in
          let logged : H.logged (report_of d n).node.0 (suc i) ≡ true =
          subst (λ (m : ℕ). H.logged m (suc i) ≡ true) (sym slot.own) ((full (suc i) l).all n w.1 w.2) in
          let seen : suc i ≤ report.at = ⊎_elim (λ k. clash logged (report.latest (suc i) k listed)) (λ k. k) (lt_or_le report.at (suc i)) in
          omega (arith, slot.no_later, report.same.number, sup.listed.number, sup.rule.rises i report.at seen report.listed)

  claim_within : (H : History) → Supposed σ v held d H → t.made ≡ false → (s : ℕ) → s < shards σ → (p : Position) →
      ((n : ℕ) → n < 32 → has (mask_at v s) n ≡ true → H.updated n s p ≡ true) →
      (not_after p (target v t held d s) ≡ true) × (holds_at d s p (holder v t held d s) ≡ true)
  claim_within H sup none s below p all =
      let h : ℕ = holder v t held d s in
      let top = holder_given v t held d s (met.holders s below) in
      let cand = able_candidate v t held d s h top.picked in
      let c = candidate_given v held d s h cand in
      let slot = slot_given σ v t held d slots h top.below c.is_held in
      let report = sup.true_reports h top.below c.is_held in
      let logged : H.updated (report_of d h).node.0 s p ≡ true =
      subst (λ (m : ℕ). H.updated m s p ≡ true) (sym slot.own) (all h top.below c.member) in
      let holds : holds_at d s p h ≡ true = sym (report.updates s below p) ∙ logged in
      let end : not_after p (end_at d s h) ≡ true = log_end σ v t d h slot s p holds in (
        not_after_trans p.view.0 p.k (end_at d s h).view.0 (end_at d s h).k (target v t held d s).view.0 (target v t held d s).k end
            (target_greatest v t held d s none h top.below cand),
        holds,
      )

  pub claims : Claims σ v t held d
  claims = record { newest = claim_newest; within = claim_within }
