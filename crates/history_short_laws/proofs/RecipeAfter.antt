-- Restarts from short reports lose nothing. A short report is true of the history `short_of H`, so what is proved of a restart from whole
-- reports holds there: the kept view is the last, and what is settled of it is in the holder's log and not past the target. What is settled
-- of earlier views is in the holder's base. A machine that keeps its base, or its log up to the cut, agrees so far with the holder, since bases
-- agree; so with what it fetches it has the holder's log up to the target.
use Rattle.std.specs.Prelude.{ℕ, ◌^◌, ◌<◌, ◌≤◌, Bool, true, false, cond, not, ◌&&◌, ◌||◌, List, ◌⊎◌, ◌≡◌, refl, ltb}
use Rattle.std.proofs.Common.{⊎_elim, sym, ◌∙◌, subst, arith, ltb-true, lt-ltb}
use Rattle.base_laws.specs.Bools.{either, clash, no_true, and_both, and_left, and_right, lt_or_le}
use Rattle.base_laws.specs.Definitions.{has}
use Rattle.settings_values.specs.Definitions.{shards}
use Rattle.base_ids.specs.declared.Position.{Position}
use Rattle.base_ids.specs.Definitions.{not_after}
use Rattle.base_ids.specs.Order.{order_views, order_trans}
use Rattle.report_views.specs.declared.Layout.{Layout}
use Rattle.report_views.specs.declared.Termination.{Termination}
use Rattle.report_views.specs.Definitions.{start, is_start, report_of, holds_at, slots_ok, target, holder}
use Rattle.report_views.specs.Meets.{QuorumMet}
use Rattle.report_log_laws.specs.CutLaws.{cut_target}
use Rattle.report_log_laws.proofs.CutLawsAfter.{kept_or_fetched}
use Rattle.history_laws.specs.Definitions.{History, Supposed}
use Rattle.history_course_laws.specs.Course.{Orderly}
use Rattle.history_short_laws.specs.Based.{latest_number, carries_latest, short_of, Based, kept_by, wanted_of, ByRecipe}
use Rattle.history_short_laws.specs.Telling.{HolderLast}
use Rattle.history_short_laws.proofs.Recipe.{start_is, past_start, and_yes, or_no, and_first, and_second, last_holder, short_runs, short_told, latest_no_later, its_cut, CutKept, cut_of_kept, agrees_base}

-- ---- one restart

module _ (σ : List ℕ) (v : Layout) (t : Termination) (held : ℕ) (d : List ℕ) (few : shards σ ≤ 16) (wide : v.members < 2 ^ 32)
    (slots : slots_ok σ v t held d ≡ true) (met : QuorumMet σ v t held d) (H : History) (sup : Supposed σ v held d (short_of H))
    (orderly : Orderly H) where
  -- a held node
  module _ (s : ℕ) (below : s < shards σ) (n : ℕ) (small : n < 32) (is_held : has held n ≡ true) where
    -- if it does as the recipe says, it has the holder's log up to the target
    module _ (based : Based (shards σ) H) where
      -- up to such a cut the node and the holder have the same
      agrees_cut : (q : Position) → 1 ≤ q.k → is_start (its_cut σ v t held d few wide slots met H sup orderly s below n small is_held) ≡ false → not_after q (its_cut σ v t held d few wide slots met H sup orderly s below n small is_held) ≡ true → H.updated n s q ≡ wanted_of v t held d H s q
      agrees_cut q from z l = ⊎_elim (λ e. (agrees_base σ v t held d few wide slots met H sup orderly s below n small is_held based) q from k.carries (omega (arith, k.number)) e) (λ e. in_kept e)
          (lt_or_le q.view.0 v.number.0)
        where
          k : (CutKept σ v t held d few wide slots met H sup orderly s below n small is_held)
          k = (cut_of_kept σ v t held d few wide slots met H sup orderly s below n small is_held) z

          h : HolderLast σ v t held d few wide slots met H (short_of H).updated sup orderly s
          h = (last_holder σ v t held d few wide slots met H sup orderly) s below

          reached : not_after (its_cut σ v t held d few wide slots met H sup orderly s below n small is_held) (target v t held d s) ≡ true
          reached =
              cut_target (report_of d n).body (report_of d n).len (report_of d (holder v t held d s)).body
              (report_of d (holder v t held d s)).len s (target v t held d s)

          further : is_start (target v t held d s) ≡ false
          further = no_true (is_start (target v t held d s))
              (λ e. past_start (its_cut σ v t held d few wide slots met H sup orderly s below n small is_held) k.update (subst (λ (p : Position). not_after (its_cut σ v t held d few wide slots met H sup orderly s below n small is_held) p ≡ true) (start_is (target v t held d s) e) reached))

          to_target : not_after q (target v t held d s) ≡ true
          to_target = order_trans q (its_cut σ v t held d few wide slots met H sup orderly s below n small is_held) (target v t held d s) l reached

          in_kept : v.number.0 ≤ q.view.0 → H.updated n s q ≡ wanted_of v t held d H s q
          in_kept e =
              let view : q.view.0 ≡ v.number.0 = omega (arith, order_views q (its_cut σ v t held d few wide slots met H sup orderly s below n small is_held) l, k.view) in
              let mine : holds_at d s q n ≡ H.updated n s q = (short_told σ v t held d few wide slots met H sup orderly) n small is_held s below q k.carries (view ∙ sym k.number) in
              let its : holds_at d s q (holder v t held d s) ≡ H.updated (holder v t held d s) s q =
              (short_told σ v t held d few wide slots met H sup orderly) (holder v t held d s) h.small h.is_held s below q h.carries (view ∙ sym h.number) in
              let both =
              kept_or_fetched (report_of d n).body (report_of d n).len (report_of d (holder v t held d s)).body
              (report_of d (holder v t held d s)).len s (target v t held d s)
              ((short_runs σ v t held d few wide slots met H sup orderly) n small is_held s below) ((short_runs σ v t held d few wide slots met H sup orderly) (holder v t held d s) h.small h.is_held s below) q in
              sym mine ∙ (sym (or_no (holds_at d s q n)) ∙ (rw (l, to_target) at both)) ∙ its
              ∙ sym (rw (further, to_target) (and_yes (H.updated (holder v t held d s) s q)))

      -- so what it keeps, up to the last update `last`, is the holder's log as far as it goes, and with what it fetches all of it
      module _ (last : Position) (kept : (last ≡ start) ⊎ (kept_by v t held d H n s last ≡ true))
          (end : (q : Position) → kept_by v t held d H n s q ≡ true → not_after q last ≡ true) (q : Position) (from : 1 ≤ q.k) where
        kept_agrees : not_after q last ≡ true → kept_by v t held d H n s q ≡ wanted_of v t held d H s q
        kept_agrees l = ⊎_elim (λ e. past_start q from (subst (λ (p : Position). not_after q p ≡ true) e l)) some kept
          where
            some : kept_by v t held d H n s last ≡ true → kept_by v t held d H n s q ≡ wanted_of v t held d H s q
            some e =
                let base : Bool = carries_latest H s n && ltb last.view.0 (latest_number H n) in
                let test = and_right (H.updated n s last) (cond (is_start (its_cut σ v t held d few wide slots met H sup orderly s below n small is_held)) base (not_after last (its_cut σ v t held d few wide slots met H sup orderly s below n small is_held))) e in
                ⊎_elim
                (λ z.
                let both : base ≡ true = rw z at test in
                let c = and_left (carries_latest H s n) (ltb last.view.0 (latest_number H n)) both in
                let below-it =
                ltb-true last.view.0 (latest_number H n) (and_right (carries_latest H s n) (ltb last.view.0 (latest_number H n)) both) in
                let o : q.view.0 < latest_number H n = omega (arith, order_views q last l) in
                and_first (H.updated n s q) (not_after q (its_cut σ v t held d few wide slots met H sup orderly s below n small is_held)) z (and_both c (lt-ltb q.view.0 (latest_number H n) o))
                ∙ (agrees_base σ v t held d few wide slots met H sup orderly s below n small is_held based) q from c o (omega (arith, (latest_no_later σ v t held d few wide slots met H sup orderly s below n small is_held))))
                (λ z.
                let to-cut : not_after last (its_cut σ v t held d few wide slots met H sup orderly s below n small is_held) ≡ true = rw z at test in
                let within = order_trans q last (its_cut σ v t held d few wide slots met H sup orderly s below n small is_held) l to-cut in
                and_second (H.updated n s q) (carries_latest H s n && ltb q.view.0 (latest_number H n)) z within ∙ agrees_cut q from z within)
                (either (is_start (its_cut σ v t held d few wide slots met H sup orderly s below n small is_held)))

        kept_joined : (kept_by v t held d H n s q || (not (not_after q last) && wanted_of v t held d H s q)) ≡ wanted_of v t held d H s q
        kept_joined = by (not_after q last) refl
          where
            by : (b : Bool) → not_after q last ≡ b
                → (kept_by v t held d H n s q || (not (not_after q last) && wanted_of v t held d H s q)) ≡ wanted_of v t held d H s q
            by true e = rw (e, kept_agrees e) (or_no (wanted_of v t held d H s q))
            by false e = rw (e, no_true (kept_by v t held d H n s q) (λ k. clash (end q k) e))

      pub recipe_wanted : {G : History} → ByRecipe v t held d H G n s → (q : Position) → 1 ≤ q.k → G.updated n s q ≡ wanted_of v t held d H s q
      recipe_wanted r q from = r.joined q from ∙ kept_joined r.last r.kept r.end q from

      -- and a node that has it has done as the recipe says
      pub wanted_recipe : {G : History} → (last : Position) → (last ≡ start) ⊎ (kept_by v t held d H n s last ≡ true)
          → ((q : Position) → kept_by v t held d H n s q ≡ true → not_after q last ≡ true)
          → ((q : Position) → 1 ≤ q.k → G.updated n s q ≡ wanted_of v t held d H s q) → ByRecipe v t held d H G n s
      wanted_recipe last kept end h =
          record { last = last; kept = kept; end = end; joined = λ q from. h q from ∙ sym (kept_joined last kept end q from) }
