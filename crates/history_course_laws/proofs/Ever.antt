-- Over any number of restarts, runs between them and restarts that were given up: what was settled once is in the holder's log of every
-- later plan and not past its target.
use Rattle.std.specs.Prelude.{ℕ, suc, ◌<◌, true, List, ◌≡◌, length}
use Rattle.std.proofs.Common.{◌∙◌, arith}
use Rattle.std.proofs.Math.Path.{subst⁻¹}
use Rattle.base_laws.specs.Definitions.{has}
use Rattle.base_ids.specs.declared.Position.{Position}
use Rattle.base_ids.specs.Definitions.{not_after}
use Rattle.report_views.specs.declared.Layout.{Layout}
use Rattle.report_views.specs.Definitions.{holds_at, mask_at, target, holder}
use Rattle.history_laws.specs.Definitions.{History, KeepsRule, view_at}
use Rattle.history_course_laws.specs.Course.{last_of, Succeeded, Orderly, Settled}
use Rattle.history_course_laws.proofs.Lasting.{settled_held, new_rule, new_succeeded, new_settled, still_settled}
use Rattle.history_course_laws.specs.Ever.{Restart, Course, carrying, giving_up, here, running, supposing}

-- the same views and the same logs of views stand as they stood
same_standing : {G K : History} → K.views ≡ G.views → ((n i : ℕ) → K.logged n i ≡ G.logged n i) → Orderly G → Orderly K
same_standing {G} {K} e f s =
    record {
      rule = record {
        rises = (subst⁻¹ (λ (l : List Layout). KeepsRule (told l)) e s.rule).rises;
        overlaps = (subst⁻¹ (λ (l : List Layout). KeepsRule (told l)) e s.rule).overlaps;
      };
      succeeded = λ i l. subst⁻¹ (λ (q : List Layout). (suc i < length q) → Succeeded (record { views = q; logged = K.logged; updated = K.updated }) i) e
          (λ k. let c = s.succeeded i k in record { by = c.by; most = c.most; later = λ n a b. let (j, x, y, z) = c.later n a b in (j, x, y, f n j ∙ z) }) l;
    }
  where
    told : List Layout → History
    told l = record { views = l; logged = G.logged; updated = G.updated }

module _ {S : ℕ} {H : History} where
  -- the rule of views holds on, and no view but the last can be taken for the last
  pub stands_on : {G : History} → Orderly H → Course S H G → Orderly G
  stands_on s here = s
  stands_on s (running G K c r) = r.standing
  stands_on s (carrying G K c r o) =
      let g = stands_on s c in
      record {
        rule = new_rule r.σ r.v r.t r.held r.d r.few r.wide r.slots r.met G (supposing g.rule r) g.succeeded r.w r.next K o;
        succeeded = new_succeeded r.σ r.v r.t r.held r.d r.few r.wide r.slots r.met G (supposing g.rule r) g.succeeded r.w r.next K o;
      }
  stands_on s (giving_up G K c r o) = same_standing o.views o.logged (stands_on s c)

  -- what was settled is settled
  pub settles_on : {G : History} → Orderly H → (s : ℕ) → s < S → (p : Position) → Settled H s p → Course S H G → Settled G s p
  settles_on st s l p u here = u
  settles_on st s l p u (running G K c r) = r.keeps s l p (settles_on st s l p u c)
  settles_on st s l p u (carrying G K c r o) =
      let g = stands_on st c in
      new_settled r.σ r.v r.t r.held r.d r.few r.wide r.slots r.met G (supposing g.rule r) g.succeeded r.w r.next K o
      r.ended s (omega (arith, r.same)) p (settles_on st s l p u c)
  settles_on st s l p u (giving_up G K c r o) =
      let g = stands_on st c in
      still_settled r.σ r.v r.t r.held r.d r.few r.wide r.slots r.met G (supposing g.rule r) g.succeeded r.w r.next K o
      r.ended s (omega (arith, r.same)) p (settles_on st s l p u c)

  -- and every later plan has it
  pub never_lost : {G : History} → Orderly H → (s : ℕ) → s < S → (p : Position) → Settled H s p → Course S H G → (r : Restart S G)
      → (not_after p (target r.v r.t r.held r.d s) ≡ true) × (holds_at r.d s p (holder r.v r.t r.held r.d s) ≡ true)
  never_lost {G} st s l p u c r =
      let g = stands_on st c in
      settled_held r.σ r.v r.t r.held r.d r.few r.wide r.slots r.met G (supposing g.rule r) g.succeeded r.ended s (omega (arith, r.same)) p
      (settles_on st s l p u c)

  -- what all members of a shard in the last view have logged is never lost
  pub logged_lasts : {G : History} → Orderly H → (s : ℕ) → s < S → (p : Position)
      → ((n : ℕ) → n < 32 → has (mask_at (view_at H (last_of H)) s) n ≡ true → H.updated n s p ≡ true) → Course S H G → (r : Restart S G)
      → (not_after p (target r.v r.t r.held r.d s) ≡ true) × (holds_at r.d s p (holder r.v r.t r.held r.d s) ≡ true)
  logged_lasts st s l p all c r = never_lost st s l p (record { all = λ n k m q. all n k m }) c r
