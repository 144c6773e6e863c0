-- A restart that is carried out, or given up, leaves a history from which the next one loses nothing. The kept view is the last of the
-- list: a held majority of an earlier one meets those of its members that have logged a later view, and one of them would have reported it. So
-- the holder of a shard has logged the last view and has what is settled; what it has up to the target every placed node has afterwards.
use Rattle.std.specs.Prelude.{ℕ, suc, ◌*◌, ◌^◌, ◌<◌, ◌≤◌, true, List, ◌≡◌, length}
use Rattle.std.proofs.Common.{⊎_elim, sym, subst, arith}
use Rattle.std.specs.Int.Bits.{bit_and}
use Rattle.base_laws.specs.Bools.{clash, lt_or_le, eq_or_ne}
use Rattle.base_laws.specs.Definitions.{count}
use Rattle.base_laws.specs.Masks.{quorums_meet}
use Rattle.settings_values.specs.Definitions.{shards}
use Rattle.report_views.specs.declared.Layout.{Layout}
use Rattle.report_views.specs.declared.Termination.{Termination}
use Rattle.report_views.specs.Definitions.{report_of, slots_ok}
use Rattle.report_views.specs.Meets.{QuorumMet, slot_given}
use Rattle.history_laws.specs.Definitions.{History, KeepsRule, Full, Supposed, number_at, members_at}
use Rattle.history_course_laws.specs.Course.{Succeeded}

-- what follows a view that all its members logged
pub full_succeeds : {H : History} {i : ℕ} → KeepsRule H → suc i < length H.views → Full H (suc i) → Succeeded H i
full_succeeds {H} {i} rule l full =
    record { by = members_at H (suc i); most = rule.overlaps i l; later = λ n k h. (suc i, omega arith, l, full.all n k h) }

-- a later number stands later
pub number_place : {H : History} → KeepsRule H → (i j : ℕ) → i < length H.views → j < length H.views → number_at H i ≡ number_at H j → i ≡ j
number_place {H} rule i j k l e =
    ⊎_elim (λ h. absurd (omega (arith, rule.rises i j h l)))
    (λ h. ⊎_elim (λ q. q) (λ q. absurd (omega (arith, rule.rises j i (omega arith) k))) (eq_or_ne i j))
    (lt_or_le i j)

module _ (σ : List ℕ) (v : Layout) (t : Termination) (held : ℕ) (d : List ℕ) (few : shards σ ≤ 16) (wide : v.members < 2 ^ 32)
    (slots : slots_ok σ v t held d ≡ true) (met : QuorumMet σ v t held d) (H : History) (sup : Supposed σ v held d H)
    (stands : (i : ℕ) → suc i < length H.views → Succeeded H i) where
  -- the kept view is the last
  pub kept_last : suc sup.place ≡ length H.views
  kept_last = ⊎_elim (λ l. absurd (missed l)) (λ l. omega (arith, sup.listed.listed)) (lt_or_le (suc sup.place) (length H.views))
    where
      missed : suc sup.place < length H.views → ⊥
      missed l =
          let s = stands sup.place l in
          let same : members_at H sup.place ≡ v.members = sym sup.listed.members in
          let most : count v.members < 2 * count (bit_and s.by v.members) = subst (λ (m : ℕ). count m < 2 * count (bit_and s.by m)) same s.most in
          let w = quorums_meet 32 s.by held v.members wide most met.most in
          let n : ℕ = w.0 in
          let (j, after, inside, logged) = s.later n w.1 w.2 in
          let slot = slot_given σ v t held d slots n w.1 w.3 in
          let report = sup.true_reports n w.1 w.3 in
          let mine : H.logged (report_of d n).node.0 j ≡ true = subst (λ (m : ℕ). H.logged m j ≡ true) (sym slot.own) logged in
          let seen : j ≤ report.at = ⊎_elim (λ k. clash mine (report.latest j k inside)) (λ k. k) (lt_or_le report.at j) in
          omega (arith, slot.no_later, report.same.number, sup.listed.number, sup.rule.rises sup.place report.at (omega arith) report.listed)
