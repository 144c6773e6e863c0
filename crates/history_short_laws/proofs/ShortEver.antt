-- Over any number of restarts from short reports and runs between them: what was settled once is in the holder's log of every later plan and
-- not past its target. And bases agree after restarts from whole reports too, so that a group can go over to short ones.
use Rattle.std.specs.Prelude.{ℕ, ◌+◌, ◌-◌, ◌^◌, ◌<◌, ◌≤◌, true, ◌&&◌, List, [], ◌∷◌, ◌≡◌, length, get_or}
use Rattle.std.proofs.Common.{⊎_elim, sym, ap, ◌∙◌, subst, arith, length-append}
use Rattle.std.proofs.Math.Path.{subst⁻¹}
use Rattle.std.proofs.Math.Seq.{get_or-append_seam}
use Rattle.base_laws.specs.Bools.{same, and_both, and_left, and_right}
use Rattle.base_laws.specs.Definitions.{has}
use Rattle.settings_values.specs.Definitions.{shards}
use Rattle.base_ids.specs.declared.Position.{Position}
use Rattle.base_ids.specs.Definitions.{not_after}
use Rattle.report_views.specs.declared.Layout.{Layout}
use Rattle.report_views.specs.declared.Termination.{Termination}
use Rattle.report_views.specs.Definitions.{no_view, mask_at, slots_ok, target, holder}
use Rattle.report_views.specs.Meets.{QuorumMet}
use Rattle.history_laws.specs.Definitions.{History, Supposed, view_at, number_at}
use Rattle.history_course_laws.specs.Course.{last_of, Orderly, Settled, PlannedView, Covers, CarriedOut, GivenUp}
use Rattle.history_course_laws.specs.Listing.{listed_held}
use Rattle.history_course_laws.proofs.Lasting.{settled_held}
use Rattle.history_course_laws.specs.Ever.{Restart}
use Rattle.history_short_laws.specs.Based.{latest_number, carries_latest, short_of, Based, AddsOnly, wanted_of, ShortCarried, ShortCourse, here, running, carrying}
use Rattle.history_short_laws.specs.Bases.{HandsOn, latest_up_to, base_settled}
use Rattle.history_short_laws.proofs.Bases.{run_based, handed_based}
use Rattle.history_short_laws.specs.Telling.{told_orderly, holder_last, kept_some, kept_number, as_handed}
use Rattle.history_short_laws.specs.Recipe.{upto_target}
use Rattle.history_short_laws.proofs.Recipe.{settled_wanted}
use Rattle.history_short_laws.proofs.RecipeAfter.{recipe_wanted}
use Rattle.history_short_laws.specs.ShortEver.{short_stands}

-- ---- the history after a restart from short reports

module _ (σ : List ℕ) (v : Layout) (t : Termination) (held : ℕ) (d : List ℕ) (few : shards σ ≤ 16) (wide : v.members < 2 ^ 32)
    (slots : slots_ok σ v t held d ≡ true) (met : QuorumMet σ v t held d) (H : History) (sup : Supposed σ v held d (short_of H)) (orderly : Orderly H)
    (ended : Covers σ t (short_of H)) (based : Based (shards σ) H) (w : Layout) (next : PlannedView σ v held w) (G : History)
    (c : ShortCarried σ v t held d w H G) where
  -- it has the new view last
  new_last : last_of G ≡ length H.views
  new_last =
      let e : length G.views ≡ length H.views + 1 = ap (λ (l : List Layout). length l) c.views ∙ length-append H.views (w ∷ []) in
      omega (arith, e)

  new_view : view_at G (last_of G) ≡ w
  new_view =
      ap (λ (i : ℕ). view_at G i) new_last ∙ ap (λ (k : List Layout). get_or k (length H.views) no_view) c.views
      ∙ get_or-append_seam H.views w [] no_view

  pub short_number : number_at H (last_of H) ≤ number_at G (last_of G)
  short_number =
      omega (
        arith,
        ap (λ (x : Layout). x.number.0) new_view,
        next.number,
        kept_number σ v t held d few wide slots met H
            (short_of H).updated sup orderly,
      )

  -- every placed node has the holder's log up to the target
  hands_short : (s : ℕ) → s < shards σ → HandsOn H G w s
  hands_short s l =
      let h = holder_last σ v t held d few wide slots met H (short_of H).updated sup orderly s l in
      record {
        from = holder v t held d s;
        upto = upto_target σ v t held d few wide slots met H sup orderly s;
        small = h.small;
        carries = h.carries;
        latest = h.latest;
        covers = λ p from o u. and_right (H.updated (holder v t held d s) s p) (upto_target σ v t held d few wide slots met H sup orderly s p)
            (settled_wanted σ v t held d few wide slots met H sup orderly ended s l p from (omega arith) u);
        logs = λ n k m g q from. recipe_wanted σ v t held d few wide slots met H sup orderly s l n k (next.placed s l n k m) based
            (c.ordered s l n k m g) q from;
      }

  pub short_based : Based (shards σ) G
  short_based =
      handed_based orderly.rule (kept_some σ v t held d few wide slots met H (short_of H).updated sup orderly) c.views
      c.adds hands_short based

  pub short_settled : (s : ℕ) → s < shards σ → (p : Position) → 1 ≤ p.k → p.view.0 ≤ number_at H (last_of H) → Settled H s p → Settled G s p
  short_settled s l p from no_later u =
      record {
        all = λ n k m g.
            let member : has (mask_at w s) n ≡ true = subst (λ (x : Layout). has (mask_at x s) n ≡ true) new_view m in
            let logged : G.logged n (length H.views) ≡ true = subst (λ (i : ℕ). G.logged n i ≡ true) new_last g in
            recipe_wanted σ v t held d few wide slots met H sup orderly s l n k (next.placed s l n k member) based
            (c.ordered s l n k member logged) p from
            ∙ settled_wanted σ v t held d few wide slots met H sup orderly ended s l p from no_later u;
      }

-- ---- over a course

supposing_short : {S : ℕ} {G : History} → Orderly G → (r : Restart S (short_of G)) → Supposed r.σ r.v r.held r.d (short_of G)
supposing_short {G = G} o r =
    let at = listed_held r.σ r.v r.t r.held r.d (short_of G) r.some r.slots r.met r.reports in
    record { rule = (told_orderly (short_of G).updated o).rule; true_reports = r.reports; place = at.0; listed = at.1 }

module _ {S : ℕ} {H : History} where
  -- the rule of views holds on, no view but the last can be taken for the last, and bases agree
  pub short_stands_on : {G : History} → Orderly H → Based S H → ShortCourse S H G → Orderly G × Based S G
  short_stands_on o b here = (o, b)
  short_stands_on o b (running G K c r views adds) = (r.standing, run_based views adds (short_stands_on o b c).1)
  short_stands_on o b (carrying G K c r x) =
      let g = short_stands_on o b c in
      let sup = supposing_short g.0 r in
      let base = subst⁻¹ (λ (k : ℕ). Based k G) r.same g.1 in (
        short_stands r.σ r.v r.t r.held r.d r.few r.wide r.slots r.met G sup g.0 r.ended base r.w r.next K x,
        subst (λ (k : ℕ). Based k K) r.same
            (short_based r.σ r.v r.t r.held r.d r.few r.wide r.slots r.met G sup g.0 r.ended base r.w
            r.next K x),
      )

  -- what was settled is settled, and its view is no later than the last
  pub short_settles_on : {G : History} → Orderly H → Based S H → (s : ℕ) → s < S → (p : Position) → 1 ≤ p.k → p.view.0 ≤ number_at H (last_of H)
      → Settled H s p
      → ShortCourse S H G → (p.view.0 ≤ number_at G (last_of G)) × Settled G s p
  short_settles_on o b s l p from no_later u here = (no_later, u)
  short_settles_on o b s l p from no_later u (running G K c r views adds) =
      let g = short_settles_on o b s l p from no_later u c in
      let last : number_at K (last_of K) ≡ number_at G (last_of G) = ap (λ (x : List Layout). (get_or x (length x - 1) no_view).number.0) views in
      (omega (arith, g.0), r.keeps s l p g.1)
  short_settles_on o b s l p from no_later u (carrying G K c r x) =
      let g = short_stands_on o b c in
      let e = short_settles_on o b s l p from no_later u c in
      let sup = supposing_short g.0 r in
      let base = subst⁻¹ (λ (k : ℕ). Based k G) r.same g.1 in (
        omega (
          arith,
          e.0,
          short_number r.σ r.v r.t r.held r.d r.few r.wide r.slots r.met G sup g.0 r.ended base r.w r.next K x,
        ),
        short_settled r.σ r.v r.t r.held r.d r.few r.wide r.slots r.met G sup g.0 r.ended base r.w r.next K x
            s (omega (arith, r.same)) p from e.0 e.1,
      )

  -- and every later plan from short reports has it
  pub short_never_lost : {G : History} → Orderly H → Based S H → (s : ℕ) → s < S → (p : Position) → 1 ≤ p.k → p.view.0 ≤ number_at H (last_of H)
      → Settled H s p
      → ShortCourse S H G → (r : Restart S (short_of G)) → wanted_of r.v r.t r.held r.d G s p ≡ true
  short_never_lost {G} o b s l p from no_later u c r =
      let g = short_stands_on o b c in
      let e = short_settles_on o b s l p from no_later u c in
      settled_wanted r.σ r.v r.t r.held r.d r.few r.wide r.slots r.met G (supposing_short g.0 r) g.0 r.ended s
      (omega (arith, r.same)) p from e.0 e.1

  -- what all members of a shard in the last view have logged is never lost
  pub short_logged_lasts : {G : History} → Orderly H → Based S H → (s : ℕ) → s < S → (p : Position) → 1 ≤ p.k → p.view.0 ≤ number_at H (last_of H)
      → ((n : ℕ) → n < 32 → has (mask_at (view_at H (last_of H)) s) n ≡ true → H.updated n s p ≡ true) → ShortCourse S H G → (r : Restart S (short_of G))
      → wanted_of r.v r.t r.held r.d G s p ≡ true
  short_logged_lasts o b s l p from no_later all c r = short_never_lost o b s l p from no_later (record { all = λ n k m q. all n k m }) c r

-- ---- restarts from whole reports

module _ (σ : List ℕ) (v : Layout) (t : Termination) (held : ℕ) (d : List ℕ) (few : shards σ ≤ 16) (wide : v.members < 2 ^ 32)
    (slots : slots_ok σ v t held d ≡ true) (met : QuorumMet σ v t held d) (H : History) (sup : Supposed σ v held d H) (orderly : Orderly H)
    (ended : Covers σ t H) (based : Based (shards σ) H) (w : Layout) (next : PlannedView σ v held w) where
  settled_reached : (s : ℕ) → s < shards σ → (p : Position) → Settled H s p → not_after p (target v t held d s) ≡ true
  settled_reached s l p u = (settled_held σ v t held d few wide slots met H sup orderly.succeeded ended s l p u).0

  -- bases agree after one that was carried out
  pub carried_based : (G : History) → CarriedOut σ v t held d w H G → AddsOnly (shards σ) H G → Based (shards σ) G
  carried_based G c adds =
      handed_based orderly.rule (kept_some σ v t held d few wide slots met H H.updated sup orderly) c.views adds
      (λ s l.
      let h = holder_last σ v t held d few wide slots met H H.updated sup orderly s l in
      record {
        from = holder v t held d s;
        upto = λ q. not_after q (target v t held d s);
        small = h.small;
        carries = h.carries;
        latest = h.latest;
        covers = λ p from o u. settled_reached s l p u;
        logs = λ n k m g q from. c.ordered s l n k m g q ∙ as_handed σ v t held d few wide slots met H sup orderly s l n k
            (next.placed s l n k m) q;
      })
      based

  -- and after one that was given up
  pub given_up_based : (G : History) → GivenUp σ v t held d w H G → Based (shards σ) G
  given_up_based G c = run_based c.views adds based
    where
      adds : AddsOnly (shards σ) H G
      adds =
          record {
            logged = λ n i l. c.logged n i;
            older = λ s l n k x e p from o. ⊎_elim (λ f. f p) (λ f. f.1 p
                ∙ as_handed σ v t held d few wide slots met H sup orderly s l n k (next.placed s l n k f.0) p ∙ back s l n k x p from o)
                (c.updated s l n k);
          }
        where
          back : (s : ℕ) → s < shards σ → (n : ℕ) → n < 32 → carries_latest H s n ≡ true → (p : Position) → 1 ≤ p.k → p.view.0 < latest_number H n
              → (H.updated (holder v t held d s) s p && not_after p (target v t held d s)) ≡ H.updated n s p
          back s l n k x p from o =
              let h = holder_last σ v t held d few wide slots met H H.updated sup orderly s l in
              let some = kept_some σ v t held d few wide slots met H H.updated sup orderly in
              let last : latest_number H (holder v t held d s) ≡ number_at H (last_of H) = ap (λ (i : ℕ). number_at H i) h.latest in
              let within : p.view.0 < latest_number H (holder v t held d s) = omega (arith, latest_up_to H orderly.rule n some) in
              let one = based.same s l (holder v t held d s) n h.small k h.carries x p from within o in
              same (H.updated (holder v t held d s) s p && not_after p (target v t held d s)) (H.updated n s p)
              (λ e. sym one ∙ and_left (H.updated (holder v t held d s) s p) (not_after p (target v t held d s)) e)
              (λ e. and_both (one ∙ e) (settled_reached s l p (base_settled H based orderly.rule some s l n k x p from o e)))
