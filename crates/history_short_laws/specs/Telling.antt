-- What the reports of held nodes tell of a history, where their logs are `told`: those of the history, or the short ones. And of the holders,
-- which carry their shards in the last view.
use Rattle.std.specs.Prelude.{ℕ, suc, ◌^◌, ◌<◌, ◌≤◌, Bool, true, false, ◌&&◌, List, ◌≡◌, length}
use Rattle.std.proofs.Common.{⊎_elim, sym, ap, ◌∙◌, subst, arith}
use Rattle.base_laws.specs.Bools.{same, and_both, and_left, and_right, eq_or_ne}
use Rattle.base_laws.specs.Definitions.{has}
use Rattle.settings_values.specs.Definitions.{shards}
use Rattle.base_ids.specs.declared.Position.{Position}
use Rattle.base_ids.specs.Definitions.{not_after}
use Rattle.report_views.specs.declared.Layout.{Layout}
use Rattle.report_views.specs.declared.Termination.{Termination}
use Rattle.report_views.specs.Definitions.{report_of, holds_at, mask_at, slots_ok, target, holder}
use Rattle.report_views.specs.Shorthands.{view_of}
use Rattle.report_views.specs.Meets.{QuorumMet, SlotSound, slot_given, report_records, candidate_given, holder_given, able_candidate}
use Rattle.report_views.specs.RunLaws as runs
use Rattle.report_log_laws.proofs.CutLawsAfter.{kept_or_fetched}
use Rattle.history_laws.specs.Definitions.{History, True, Supposed, view_at, number_at}
use Rattle.history_course_laws.specs.Course.{last_of, Orderly, as_ordered}
use Rattle.history_course_laws.specs.Lasting.{kept_last}
use Rattle.history_short_laws.specs.Based.{latest_of, latest_number, carries_latest}
use Rattle.history_short_laws.specs.Bases.{place_is, last_carries}

-- the history H with other logs
abbrev pub with_logs : History → (ℕ → ℕ → Position → Bool) → History
with_logs H told = record { views = H.views; logged = H.logged; updated = told }

-- the same views, logged by the same nodes
pub told_orderly : {H : History} (told : ℕ → ℕ → Position → Bool) → Orderly H → Orderly (with_logs H told)
told_orderly told o =
    record {
      rule = record { rises = o.rule.rises; overlaps = o.rule.overlaps };
      succeeded = λ i l. let c = o.succeeded i l in record { by = c.by; most = c.most; later = c.later };
    }

module _ (σ : List ℕ) (v : Layout) (t : Termination) (held : ℕ) (d : List ℕ) (few : shards σ ≤ 16) (slots : slots_ok σ v t held d ≡ true) (H : History)
    (told : ℕ → ℕ → Position → Bool) (reports : (n : ℕ) → n < 32 → has held n ≡ true → True σ (with_logs H told) (report_of d n))
    (n : ℕ) (small : n < 32) (is_held : has held n ≡ true) where
  pub its_slot : SlotSound σ v t d n
  its_slot = slot_given σ v t held d slots n small is_held

  pub its_runs : (s : ℕ) → s < shards σ → runs.Runs (report_of d n).body (report_of d n).len s
  its_runs s l =
      runs.passed_runs σ (report_of d n).node.0 (view_of d n) (report_of d n).members (report_of d n).body (report_of d n).len
      (report_records σ v t d n its_slot) s (omega arith)

  -- it reports the latest view that it has logged
  pub its_latest : latest_of H n ≡ (reports n small is_held).at
  its_latest =
      let r = reports n small is_held in
      place_is (H.logged n) (length H.views) r.at r.listed (subst (λ (m : ℕ). H.logged m r.at ≡ true) its_slot.own r.logged)
      (λ j a b. subst (λ (m : ℕ). H.logged m j ≡ false) its_slot.own (r.latest j a b))

  pub its_number : view_of d n ≡ latest_number H n
  its_number = (reports n small is_held).same.number ∙ sym (ap (λ (i : ℕ). number_at H i) its_latest)

  pub its_logged : H.logged n (latest_of H n) ≡ true
  its_logged =
      let r = reports n small is_held in
      subst (λ (m : ℕ). H.logged m (latest_of H n) ≡ true) its_slot.own
      (subst (λ (i : ℕ). H.logged (report_of d n).node.0 i ≡ true) (sym its_latest) r.logged)

  -- and its logs
  pub its_updates : (s : ℕ) → s < shards σ → (p : Position) → holds_at d s p n ≡ told n s p
  its_updates s l p = sym (subst (λ (m : ℕ). told m s p ≡ holds_at d s p n) its_slot.own ((reports n small is_held).updates s l p))

module _ (σ : List ℕ) (v : Layout) (t : Termination) (held : ℕ) (d : List ℕ) (few : shards σ ≤ 16) (wide : v.members < 2 ^ 32)
    (slots : slots_ok σ v t held d ≡ true) (met : QuorumMet σ v t held d) (H : History) (told : ℕ → ℕ → Position → Bool)
    (sup : Supposed σ v held d (with_logs H told)) (orderly : Orderly H) where
  -- the kept view is the last
  kept_place : suc sup.place ≡ length H.views
  kept_place = kept_last σ v t held d few wide slots met (with_logs H told) sup (told_orderly told orderly).succeeded

  pub kept_some : 0 < length H.views
  kept_some = omega (arith, kept_place)

  kept_spot : sup.place ≡ last_of H
  kept_spot = omega (arith, kept_place)

  pub kept_number : v.number.0 ≡ number_at H (last_of H)
  kept_number = sup.listed.number ∙ ap (λ (i : ℕ). number_at H i) kept_spot

  -- the holder of a shard carries it in the last view
  pub record HolderLast (s : ℕ) : Type 0 where
    pub small : holder v t held d s < 32
    pub is_held : has held (holder v t held d s) ≡ true
    pub latest : latest_of H (holder v t held d s) ≡ last_of H
    pub number : latest_number H (holder v t held d s) ≡ v.number.0
    pub member : has (mask_at (view_at H (last_of H)) s) (holder v t held d s) ≡ true
    pub logged : H.logged (holder v t held d s) (last_of H) ≡ true
    pub carries : carries_latest H s (holder v t held d s) ≡ true

  pub holder_last : (s : ℕ) → s < shards σ → HolderLast s
  holder_last s l =
      let h : ℕ = holder v t held d s in
      let top = holder_given v t held d s (met.holders s l) in
      let c = candidate_given v held d s h (able_candidate v t held d s h top.picked) in
      let r = sup.true_reports h top.below c.is_held in
      let at : latest_of H h ≡ r.at = its_latest σ v t held d few slots H told sup.true_reports h top.below c.is_held in
      let number : latest_number H h ≡ v.number.0 =
      sym (its_number σ v t held d few slots H told sup.true_reports h top.below c.is_held) ∙ c.of-kept in
      let latest : latest_of H h ≡ last_of H =
      ⊎_elim (λ e. e)
      (λ e. absurd (omega (
        arith,
        kept_number,
        number,
        orderly.rule.rises (latest_of H h) (last_of H) (omega (arith, e, at, r.listed))
            (omega (arith, kept_some)),
      )))
      (eq_or_ne (latest_of H h) (last_of H)) in
      let logged : H.logged h (last_of H) ≡ true =
      subst (λ (i : ℕ). H.logged h i ≡ true) latest (its_logged σ v t held d few slots H told sup.true_reports h top.below c.is_held) in
      let member : has (mask_at (view_at H (last_of H)) s) h ≡ true =
      subst (λ (i : ℕ). has (mask_at (view_at H i) s) h ≡ true) kept_spot (subst (λ (m : ℕ). has m h ≡ true) (sup.listed.masks s l) c.member) in
      record {
        small = top.below;
        is_held = c.is_held;
        latest = latest;
        number = number;
        member = member;
        logged = logged;
        carries = last_carries H s h kept_some member logged;
      }

module _ (σ : List ℕ) (v : Layout) (t : Termination) (held : ℕ) (d : List ℕ) (few : shards σ ≤ 16) (wide : v.members < 2 ^ 32)
    (slots : slots_ok σ v t held d ≡ true) (met : QuorumMet σ v t held d) (H : History) (sup : Supposed σ v held d H) (orderly : Orderly H) where
  -- what its order says gives a held node the holder's log up to the target
  pub as_handed : (s : ℕ) → s < shards σ → (n : ℕ) → n < 32 → has held n ≡ true → (q : Position)
      → as_ordered v t held d n s q ≡ (H.updated (holder v t held d s) s q && not_after q (target v t held d s))
  as_handed s l n k m q =
      let h : ℕ = holder v t held d s in
      let o = holder_last σ v t held d few wide slots met H H.updated sup orderly s l in
      kept_or_fetched (report_of d n).body (report_of d n).len (report_of d h).body (report_of d h).len s (target v t held d s)
      (its_runs σ v t held d few slots H H.updated sup.true_reports n k m s l)
      (its_runs σ v t held d few slots H H.updated sup.true_reports h o.small o.is_held s l)
      q
      ∙ turned (not_after q (target v t held d s)) (holds_at d s q h)
      ∙ ap (λ (b : Bool). b && not_after q (target v t held d s))
      (its_updates σ v t held d few slots H H.updated sup.true_reports h o.small o.is_held s l q)
    where
      turned : (a b : Bool) → (a && b) ≡ (b && a)
      turned a b = same (a && b) (b && a) (λ h. and_both (and_right a b h) (and_left a b h)) (λ h. and_both (and_right b a h) (and_left b a h))
