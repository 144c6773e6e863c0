-- A restart that is carried out, or given up, leaves a history from which the next one loses nothing. The kept view is the last of the
-- list: a held majority of an earlier one meets those of its members that have logged a later view, and one of them would have reported it. So
-- the holder of a shard has logged the last view and has what is settled; what it has up to the target every placed node has afterwards.
use Rattle.std.specs.Prelude.{ℕ, suc, ◌+◌, ◌-◌, ◌*◌, ◌^◌, ◌<◌, ◌≤◌, Bool, true, false, cond, List, [], ◌∷◌, ◌++◌, ◌≡◌, refl, length, get_or}
use Rattle.std.proofs.Common.{⊎_elim, sym, ap, ◌∙◌, subst, arith, length-append, get_or-append-add}
use Rattle.std.proofs.Math.Path.{subst⁻¹}
use Rattle.std.specs.Int.Bits.{bit_and}
use Rattle.std.proofs.Math.ListN.{get_or-append}
use Rattle.base_laws.specs.Bools.{and_both, lt_or_le, eq_or_ne}
use Rattle.base_laws.specs.Definitions.{has, count}
use Rattle.base_laws.specs.Positions.{not_after_trans}
use Rattle.settings_values.specs.Definitions.{shards}
use Rattle.base_ids.specs.declared.Position.{Position}
use Rattle.base_ids.specs.Definitions.{not_after}
use Rattle.report_views.specs.declared.Layout.{Layout}
use Rattle.report_views.specs.declared.Termination.{Termination}
use Rattle.report_views.specs.Definitions.{no_view, report_of, end_at, holds_at, mask_at, position_at, slots_ok, target, holder, best, candidate}
use Rattle.report_views.specs.Shorthands.{view_of}
use Rattle.report_views.specs.Meets.{QuorumMet, SlotSound, slot_given, report_records, candidate_given, holder_given, able_candidate, target_greatest, log_end}
use Rattle.report_views.specs.RunLaws as runs
use Rattle.report_log_laws.proofs.CutLawsAfter.{kept_or_fetched}
use Rattle.history_laws.specs.Definitions.{History, KeepsRule, Supposed, view_at, number_at, members_at}
use Rattle.history_course_laws.specs.Course.{last_of, Succeeded, Settled, PlannedView, Covers, CarriedOut, GivenUp, as_ordered}
use Rattle.history_course_laws.specs.Lasting.{number_place, kept_last}

-- with a termination kept the target is its position
target_ended : (v : Layout) (t : Termination) (held : ℕ) (d : List ℕ) (s : ℕ) → t.made ≡ true → target v t held d s ≡ position_at t s
unfolding target
target_ended v t held d s e = ap (λ (b : Bool). cond b (position_at t s) (end_at d s (best (candidate v held d s) (end_at d s) 32))) e

module _ (σ : List ℕ) (v : Layout) (t : Termination) (held : ℕ) (d : List ℕ) (few : shards σ ≤ 16) (wide : v.members < 2 ^ 32)
    (slots : slots_ok σ v t held d ≡ true) (met : QuorumMet σ v t held d) (H : History) (sup : Supposed σ v held d H)
    (stands : (i : ℕ) → suc i < length H.views → Succeeded H i) where
  last_is : last_of H ≡ sup.place
  last_is = omega (arith, (kept_last σ v t held d few wide slots met H sup stands))

  -- what is settled is in the holder's log, and not past the target
  module _ (ended : Covers σ t H) (s : ℕ) (below : s < shards σ) (p : Position) (settled : Settled H s p) where
    pub settled_held : (not_after p (target v t held d s) ≡ true) × (holds_at d s p (holder v t held d s) ≡ true)
    settled_held = (reached, holds)
      where
        h : ℕ
        h = holder v t held d s

        cand : candidate v held d s h ≡ true
        cand = able_candidate v t held d s h (holder_given v t held d s (met.holders s below)).picked

        small : h < 32
        small = (holder_given v t held d s (met.holders s below)).below

        slot : SlotSound σ v t d h
        slot = slot_given σ v t held d slots h small (candidate_given v held d s h cand).is_held

        holds : holds_at d s p h ≡ true
        holds =
            let c = candidate_given v held d s h cand in
            let report = sup.true_reports h small c.is_held in
            let number : number_at H report.at ≡ number_at H sup.place = sym report.same.number ∙ (c.of-kept ∙ sup.listed.number) in
            let here : report.at ≡ sup.place = number_place sup.rule report.at sup.place report.listed sup.listed.listed number in
            let spot : report.at ≡ last_of H = here ∙ sym last_is in
            let logged : H.logged h (last_of H) ≡ true =
            subst (λ (m : ℕ). H.logged m (last_of H) ≡ true) slot.own (subst (λ (i : ℕ). H.logged (report_of d h).node.0 i ≡ true) spot report.logged) in
            let member : has (mask_at (view_at H (last_of H)) s) h ≡ true =
            subst (λ (i : ℕ). has (mask_at (view_at H i) s) h ≡ true) (sym last_is) (subst (λ (m : ℕ). has m h ≡ true) (sup.listed.masks s below) c.member) in
            let had : H.updated (report_of d h).node.0 s p ≡ true =
            subst (λ (m : ℕ). H.updated m s p ≡ true) (sym slot.own) (settled.all h small member logged) in
            sym (report.updates s below p) ∙ had

        reached : not_after p (target v t held d s) ≡ true
        reached = by t.made refl
          where
            by : (b : Bool) → t.made ≡ b → not_after p (target v t held d s) ≡ true
            by true e = subst⁻¹ (λ (q : Position). not_after p q ≡ true) (target_ended v t held d s e) (ended.after e s below p settled)
            by false e =
                not_after_trans p.view.0 p.k (end_at d s h).view.0 (end_at d s h).k (target v t held d s).view.0 (target v t held d s).k
                (log_end σ v t d h slot s p holds)
                (target_greatest v t held d s e h small cand)

    -- so a held node that has done what its order says has it
    pub ordered_has : (n : ℕ) → n < 32 → has held n ≡ true → as_ordered v t held d n s p ≡ true
    ordered_has n l k =
        let h : ℕ = holder v t held d s in
        let cand = able_candidate v t held d s h (holder_given v t held d s (met.holders s below)).picked in
        let small = (holder_given v t held d s (met.holders s below)).below in
        kept_or_fetched (report_of d n).body (report_of d n).len (report_of d h).body (report_of d h).len s (target v t held d s)
        (runs-of n l k) (runs-of h small (candidate_given v held d s h cand).is_held) p
        ∙ and_both settled_held.0 settled_held.1
      where
        runs-of : (n : ℕ) → n < 32 → has held n ≡ true → runs.Runs (report_of d n).body (report_of d n).len s
        runs-of n l k =
            runs.passed_runs σ (report_of d n).node.0 (view_of d n) (report_of d n).members (report_of d n).body (report_of d n).len
            (report_records σ v t d n (slot_given σ v t held d slots n l k)) s (omega arith)

  -- ---- the history after a restart that was carried out
  module _ (w : Layout) (next : PlannedView σ v held w) (G : History) (c : CarriedOut σ v t held d w H G) where
    longer : length G.views ≡ length H.views + 1
    longer = ap (λ (l : List Layout). length l) c.views ∙ length-append H.views (w ∷ [])

    earlier : (i : ℕ) → i < length H.views → view_at G i ≡ view_at H i
    earlier i l = ap (λ (k : List Layout). get_or k i no_view) c.views ∙ get_or-append H.views (w ∷ []) no_view i l

    newest : view_at G (length H.views) ≡ w
    newest = ap (λ (k : List Layout). get_or k (length H.views) no_view) c.views ∙ seam
      where
        seam : get_or (H.views ++ w ∷ []) (length H.views) no_view ≡ w
        seam = let e : length H.views ≡ length H.views + 0 = omega arith in
            ap (λ (k : ℕ). get_or (H.views ++ w ∷ []) k no_view) e ∙ get_or-append-add H.views (w ∷ []) 0 no_view

    number_before : (i : ℕ) → i < length H.views → number_at G i ≡ number_at H i
    number_before i l = ap (λ (x : Layout). x.number.0) (earlier i l)

    pub new_rule : KeepsRule G
    new_rule = record { rises = rises; overlaps = overlaps }
      where
        rises : (i j : ℕ) → i < j → j < length G.views → number_at G i < number_at G j
        rises i j l k =
            ⊎_elim (λ q. omega (arith, number_before i (omega arith), number_before j q, sup.rule.rises i j l q))
            (λ q.
            let e : j ≡ length H.views = omega (arith, longer) in
            let n : number_at G j ≡ v.number.0 + 1 = ap (λ (x : ℕ). number_at G x) e ∙ (ap (λ (x : Layout). x.number.0) newest ∙ next.number) in
            ⊎_elim
            (λ f. omega (arith, number_before i (omega arith), (kept_last σ v t held d few wide slots met H sup stands), sup.listed.number, ap (λ (x : ℕ). number_at H x) f))
            (λ f. omega (arith, number_before i (omega arith), (kept_last σ v t held d few wide slots met H sup stands), sup.listed.number, sup.rule.rises i sup.place (omega (arith, (kept_last σ v t held d few wide slots met H sup stands))) sup.listed.listed))
            (eq_or_ne i sup.place))
            (lt_or_le j (length H.views))

        overlaps : (i : ℕ) → suc i < length G.views → count (members_at G i) < 2 * count (bit_and (members_at G (suc i)) (members_at G i))
        overlaps i l =
            let a : members_at G i ≡ members_at H i = ap (λ (x : Layout). x.members) (earlier i (omega (arith, longer))) in
            ⊎_elim
            (λ q.
            let b : members_at G (suc i) ≡ members_at H (suc i) = ap (λ (x : Layout). x.members) (earlier (suc i) q) in
            subst⁻¹ (λ (m : ℕ). count m < 2 * count (bit_and (members_at G (suc i)) m)) a
            (subst⁻¹ (λ (m : ℕ). count (members_at H i) < 2 * count (bit_and m (members_at H i))) b (sup.rule.overlaps i q)))
            (λ q.
            let e : suc i ≡ length H.views = omega (arith, longer) in
            let f : i ≡ sup.place = omega (arith, (kept_last σ v t held d few wide slots met H sup stands)) in
            let b : members_at G (suc i) ≡ held = ap (λ (x : ℕ). members_at G x) e ∙ (ap (λ (x : Layout). x.members) newest ∙ next.members) in
            let g : members_at G i ≡ v.members = a ∙ (ap (λ (x : ℕ). members_at H x) f ∙ sym sup.listed.members) in
            subst⁻¹ (λ (m : ℕ). count m < 2 * count (bit_and (members_at G (suc i)) m)) g
            (subst⁻¹ (λ (m : ℕ). count v.members < 2 * count (bit_and m v.members)) b met.most))
            (lt_or_le (suc i) (length H.views))

    pub new_succeeded : (i : ℕ) → suc i < length G.views → Succeeded G i
    new_succeeded i l =
        let a : members_at G i ≡ members_at H i = ap (λ (x : Layout). x.members) (earlier i (omega (arith, longer))) in
        ⊎_elim
        (λ q.
        let s = stands i q in
        record {
          by = s.by;
          most = subst⁻¹ (λ (m : ℕ). count m < 2 * count (bit_and s.by m)) a s.most;
          later = λ n k h. let (j, u, x, y) = s.later n k h in (j, u, omega (arith, longer), c.remembered n j x y);
        })
        (λ q.
        let f : i ≡ sup.place = omega (arith, (kept_last σ v t held d few wide slots met H sup stands), longer) in
        let g : members_at G i ≡ v.members = a ∙ (ap (λ (x : ℕ). members_at H x) f ∙ sym sup.listed.members) in
        record {
          by = c.by;
          most = subst⁻¹ (λ (m : ℕ). count m < 2 * count (bit_and c.by m)) g c.most;
          later = λ n k h. (length H.views, omega (arith, (kept_last σ v t held d few wide slots met H sup stands)), omega (arith, longer), c.logs n k h);
        })
        (lt_or_le (suc i) (length H.views))

    -- nothing that was settled is lost
    pub new_settled : Covers σ t H → (s : ℕ) → s < shards σ → (p : Position) → Settled H s p → Settled G s p
    new_settled ended s below p settled = record { all = λ n l m k. has_it n l m k }
      where
        last_new : last_of G ≡ length H.views
        last_new = omega (arith, longer)

        has_it : (n : ℕ) → n < 32 → has (mask_at (view_at G (last_of G)) s) n ≡ true → G.logged n (last_of G) ≡ true → G.updated n s p ≡ true
        has_it n l m k =
            let member : has (mask_at w s) n ≡ true =
            subst (λ (x : Layout). has (mask_at x s) n ≡ true) newest (subst (λ (i : ℕ). has (mask_at (view_at G i) s) n ≡ true) last_new m) in
            let logged : G.logged n (length H.views) ≡ true = subst (λ (i : ℕ). G.logged n i ≡ true) last_new k in
            c.ordered s below n l member logged p ∙ ordered_has ended s below p settled n l (next.placed s below n l member)

  -- ---- the history after a restart that was given up
  module _ (w : Layout) (next : PlannedView σ v held w) (G : History) (c : GivenUp σ v t held d w H G) where
    pub still_settled : Covers σ t H → (s : ℕ) → s < shards σ → (p : Position) → Settled H s p → Settled G s p
    still_settled ended s below p settled = record { all = λ n l m k. has_it n l m k }
      where
        same_last : last_of G ≡ last_of H
        same_last = ap (λ (x : List Layout). length x - 1) c.views

        has_it : (n : ℕ) → n < 32 → has (mask_at (view_at G (last_of G)) s) n ≡ true → G.logged n (last_of G) ≡ true → G.updated n s p ≡ true
        has_it n l m k =
            let view : view_at G (last_of G) ≡ view_at H (last_of H) =
            ap (λ (x : List Layout). get_or x (length x - 1) no_view) c.views in
            let member : has (mask_at (view_at H (last_of H)) s) n ≡ true = subst (λ (x : Layout). has (mask_at x s) n ≡ true) view m in
            let logged : H.logged n (last_of H) ≡ true = sym (c.logged n (last_of H)) ∙ subst (λ (i : ℕ). G.logged n i ≡ true) same_last k in
            ⊎_elim (λ e. e p ∙ settled.all n l member logged)
            (λ e. e.1 p ∙ ordered_has ended s below p settled n l (next.placed s below n l e.0))
            (c.updated s below n l)
