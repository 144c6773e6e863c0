-- Whole reports and short ones, of the same nodes over the same history: holders and waits 1 to 4 are the same, and targets and cuts are the
-- same or (0, 0) for the base's end. For a candidate's log is its base, which all candidates have, followed by what its short report has.
use Prim.Native.Nat.{ℕ, ◌^◌, ◌<◌, ◌≤◌}
use Rattle.std.specs.Prelude.{Bool, false, cond, not, ◌&&◌, ◌||◌, ◌⊎◌, ◌≡◌, ltb, length}
use Rattle.std.proofs.Math.Bool.{true}
use mathlib.Core.List.{List, [], ◌∷◌, ◌++◌, append-nil}
use Rattle.std.proofs.Common.{inl, inr, sym, ap₂, ◌∙◌, arith, eqb-true, eq-eqb, ne_eqb, ltb-true, lt-ltb}
use Rattle.std.proofs.Math.Logic.{⊎_elim}
use Rattle.std.proofs.Math.Path.{refl, ap, subst, subst⁻¹}
use Rattle.std.proofs.Math.Dec.{eqb}
use Rattle.base_laws.specs.Bools.{either, clash, same, no_true, and_both, and_left, and_right, and_fails_left, or_left, or_right, of_not_true, not_of_false, lt_or_le, eq_or_ne}
use Rattle.base_laws.specs.Definitions.{any_below, has}
use Rattle.base_laws.specs.Below.{any_witness, any_fails, any_none_of, lowest_cong}
use Rattle.settings_values.specs.Definitions.{shards}
use Rattle.base_ids.specs.declared.Position.{Position}
use Rattle.base_ids.specs.Definitions.{not_after}
use Rattle.base_ids.specs.Order.{same-position, order_of, order_views, order_places}
use Rattle.report_views.specs.declared.Layout.{Layout}
use Rattle.report_views.specs.declared.Termination.{Termination}
use Rattle.report_views.specs.Definitions.{pos, start, is_start, runs_of, has_update, same_position, report_of, end_at, holds_at, mask_at, position_at, slots_ok, candidate, best, able, target, holder, first_unheld, quorum_of}
use Rattle.report_views.specs.Shorthands.{has_at, unheld, view_of}
use Rattle.report_views.specs.LogLaws.{held_end}
use Rattle.report_log_laws.specs.Ends.{end_legal}
use Rattle.report_views.specs.Updates.{updates_at, shared_stretch, last_after, up_to, beyond}
use Rattle.report_log_laws.specs.Stretches.{one_refl, rises_after, parted, last_append, shared_up, shared_both, those_append, among, among_those, last_among}
use Rattle.report_log_laws.specs.UpdateLaws.{log_rises, runs_rises, holds_runs, end_runs}
use Rattle.report_views.specs.RunLaws as runs
use Rattle.report_views.specs.Cuts.{cut}
use Rattle.report_log_laws.proofs.CutLaws.{cut_shared}
use Rattle.report_views.specs.Best.{best_none}
use Rattle.report_views.specs.Meets.{QuorumMet, report_records, candidate_given, holder_given, able_candidate, able_has}
use Rattle.history_laws.specs.Definitions.{History, True, Supposed, view_at}
use Rattle.history_course_laws.specs.Course.{Orderly, Covers, cut_for, as_ordered}
use Rattle.history_short_laws.specs.Short.{Shorter, Shortened}
use Rattle.history_short_laws.proofs.Short.{short_target, short_holder}
use Rattle.history_short_laws.specs.Based.{latest_of, latest_number, carries_latest, short_of, Based, base_of, base_end, ShortTermination, ByRecipe}
use Rattle.history_short_laws.specs.Bases.{base_settled}
use Rattle.history_short_laws.specs.Telling.{its_slot, its_runs, its_latest, its_number, its_logged, its_updates, kept_some, as_handed}
use Rattle.history_short_laws.proofs.RecipeAfter.{recipe_wanted}
use Rattle.history_short_laws.specs.UpdateLists.{rising_same, those_rise, last_greatest, all_those, none_those, last_updates}
use Rattle.history_short_laws.specs.Shortening.{short_views}

-- a log, the base before it, and their ends
short_last : (v : Layout) (base log : List Position) → ((p : Position) → among p log ≡ true → p.view.0 ≡ v.number.0)
    → Shorter v (last_after start base) (last_after start (base ++ log)) (last_after start log)
unfolding last_after among
short_last v base [] all = record { told = inl (ap (last_after start) (append-nil base), refl) }
short_last v base (p ∷ ps) all =
    let one : last_after start (base ++ p ∷ ps) ≡ last_after p ps = last_append start base (p ∷ ps) in
    let view : (last_after p ps).view.0 ≡ v.number.0 =
    ⊎_elim (λ e. ap (λ (x : Position). x.view.0) e ∙ all p (or_left (among p ps) (one_refl p)))
    (λ e. all (last_after p ps) (or_right (same_position p (last_after p ps)) e)) (last_among p ps) in
    record { told = inr (ap (λ (x : Position). x.view.0) one ∙ view, sym one) }

module _ (σ : List ℕ) (v : Layout) (t u : Termination) (held : ℕ) (d e : List ℕ) (few : shards σ ≤ 16) (slots : slots_ok σ v t held d ≡ true)
    (short-slots : slots_ok σ v u held e ≡ true) (H : History) (sup : Supposed σ v held d H)
    (short : (n : ℕ) → n < 32 → has held n ≡ true → True σ (short_of H) (report_of e n)) (based : Based (shards σ) H) where
  -- a candidate carries the shard in the kept view
  record CandidateStands (s n : ℕ) : Type 0 where
    pub is_held : has held n ≡ true
    pub number : latest_number H n ≡ v.number.0
    pub carries : carries_latest H s n ≡ true

  standing : (s : ℕ) → s < shards σ → (n : ℕ) → n < 32 → candidate v held d s n ≡ true → CandidateStands s n
  standing s below n l c =
      let k = candidate_given v held d s n c in
      let number : latest_number H n ≡ v.number.0 =
      sym (its_number σ v t held d few slots H H.updated sup.true_reports n l k.is_held) ∙ k.of-kept in
      let at : latest_of H n < length H.views =
      omega (
        arith,
        its_latest σ v t held d few slots H H.updated sup.true_reports n l k.is_held,
        (sup.true_reports n l
            k.is_held).listed,
      ) in
      let place : sup.place ≡ latest_of H n =
      ⊎_elim (λ z. z)
      (λ z. ⊎_elim (λ y. absurd (omega (arith, number, sup.listed.number, sup.rule.rises sup.place (latest_of H n) y at)))
      (λ y. absurd (omega (
        arith,
        number,
        sup.listed.number,
        sup.rule.rises (latest_of H n) sup.place (omega (arith, z))
            sup.listed.listed,
      )))
      (lt_or_le sup.place (latest_of H n)))
      (eq_or_ne sup.place (latest_of H n)) in
      record {
        is_held = k.is_held;
        number = number;
        carries = and_both (its_logged σ v t held d few slots H H.updated sup.true_reports n l k.is_held)
            (subst (λ (i : ℕ). has (mask_at (view_at H i) s) n ≡ true) place
            (subst (λ (m : ℕ). has m n ≡ true) (sup.listed.masks s below) k.member));
      }

  module _ (s : ℕ) (below : s < shards σ) where
    -- what a candidate has, on each desk
    module _ (n : ℕ) (l : n < 32) (c : candidate v held d s n ≡ true) where
      stand : CandidateStands s n
      stand = standing s below n l c

      whole_runs : runs.Runs (report_of d n).body (report_of d n).len s
      whole_runs = its_runs σ v t held d few slots H H.updated sup.true_reports n l stand.is_held s below

      short_runs : runs.Runs (report_of e n).body (report_of e n).len s
      short_runs = its_runs σ v u held e few short-slots H (short_of H).updated short n l stand.is_held s below

      whole_rises : rises_after start (updates_at d s n) ≡ true
      whole_rises = log_rises 0 0 (runs_of (report_of d n).body s (report_of d n).len)
          (runs_rises (report_of d n).body (report_of d n).len s whole_runs)

      short_rises : rises_after start (updates_at e s n) ≡ true
      short_rises = log_rises 0 0 (runs_of (report_of e n).body s (report_of e n).len)
          (runs_rises (report_of e n).body (report_of e n).len s short_runs)

      whole_has : (p : Position) → among p (updates_at d s n) ≡ H.updated n s p
      whole_has p =
          sym (holds_runs (report_of d n).body (report_of d n).len s p)
          ∙ its_updates σ v t held d few slots H H.updated sup.true_reports n l stand.is_held s below p

      short_has : (p : Position) → among p (updates_at e s n) ≡ (eqb p.view.0 v.number.0 && H.updated n s p)
      short_has p =
          sym (holds_runs (report_of e n).body (report_of e n).len s p)
          ∙ its_updates σ v u held e few short-slots H (short_of H).updated short n l stand.is_held s below p
          ∙ rw (stand.carries, stand.number)

      whole_from : (p : Position) → H.updated n s p ≡ true → 1 ≤ p.k
      whole_from p h =
          (runs.held_given (report_of d n).body (report_of d n).len s p
          (holds_runs (report_of d n).body (report_of d n).len s p ∙ whole_has p ∙ h)).from

      whole_views : (p : Position) → H.updated n s p ≡ true → p.view.0 ≤ v.number.0
      whole_views p h =
          let slot = its_slot σ v t held d few slots H H.updated sup.true_reports n l stand.is_held in
          let end = end_legal σ (report_of d n).node.0 (view_of d n) (report_of d n).members (report_of d n).body (report_of d n).len
          (report_records σ v t d n slot) s (omega arith) in
          let held_up = held_end (report_of d n).body (report_of d n).len s whole_runs.rise p
          (holds_runs (report_of d n).body (report_of d n).len s p ∙ whole_has p ∙ h) in
          omega (arith, order_views p (end_at d s n) held_up, end.no_later, slot.no_later)

      -- its base
      base_rises : rises_after start (base_of d s v.number.0 n) ≡ true
      base_rises = those_rise (λ q. not_after q (pos v.number.0 0)) start (updates_at d s n) whole_rises

      base_older : (p : Position) → among p (base_of d s v.number.0 n) ≡ true → p.view.0 < v.number.0
      base_older p m =
          let both = sym (among_those (λ q. not_after q (pos v.number.0 0)) p (updates_at d s n)) ∙ m in
          let up = and_left (not_after p (pos v.number.0 0)) (among p (updates_at d s n)) both in
          let from = whole_from p (sym (whole_has p) ∙ and_right (not_after p (pos v.number.0 0)) (among p (updates_at d s n)) both) in
          ⊎_elim (λ z. absurd (omega (arith, order_places p (pos v.number.0 0) z up)))
          (λ z. omega (arith, order_views p (pos v.number.0 0) up, z))
          (eq_or_ne p.view.0 v.number.0)

      base_has : (p : Position) → p.view.0 < v.number.0 → among p (base_of d s v.number.0 n) ≡ H.updated n s p
      base_has p o =
          among_those (λ q. not_after q (pos v.number.0 0)) p (updates_at d s n)
          ∙ rw (order_of p (pos v.number.0 0) (inl o)) (whole_has p)

      -- a log is the base and what the short report has
      split : updates_at d s n ≡ base_of d s v.number.0 n ++ updates_at e s n
      split =
          sym (parted start (pos v.number.0 0) (updates_at d s n) whole_rises)
          ∙ ap (λ (xs : List Position). base_of d s v.number.0 n ++ xs)
          (rising_same start (beyond (pos v.number.0 0) (updates_at d s n)) (updates_at e s n)
          (those_rise (λ q. not (not_after q (pos v.number.0 0))) start (updates_at d s n) whole_rises) short_rises
          (λ p. among_those (λ q. not (not_after q (pos v.number.0 0))) p (updates_at d s n)
          ∙ ap (λ (b : Bool). not (not_after p (pos v.number.0 0)) && b) (whole_has p)
          ∙ cut_there p ∙ sym (short_has p)))
        where
          cut_there : (p : Position) → (not (not_after p (pos v.number.0 0)) && H.updated n s p) ≡
              (eqb p.view.0 v.number.0 && H.updated n s p)
          cut_there p =
              let x = not (not_after p (pos v.number.0 0)) in
              let y = eqb p.view.0 v.number.0 in
              same (x && H.updated n s p) (y && H.updated n s p)
              (λ h.
              let mine = and_right x (H.updated n s p) h in
              let past = of_not_true (not_after p (pos v.number.0 0)) (and_left x (H.updated n s p) h) in
              and_both (eq-eqb p.view.0 v.number.0
              (⊎_elim (λ z. clash (order_of p (pos v.number.0 0) (inl z)) past) (λ z. omega (arith, whole_views p mine))
              (lt_or_le p.view.0 v.number.0)))
              mine)
              (λ h.
              let mine = and_right y (H.updated n s p) h in
              let view = eqb-true p.view.0 v.number.0 (and_left y (H.updated n s p) h) in
              and_both (not_of_false (no_true (not_after p (pos v.number.0 0))
              (λ z. omega (arith, order_places p (pos v.number.0 0) view z, whole_from p mine)))) mine)

      short_of_kept : (p : Position) → among p (updates_at e s n) ≡ true → p.view.0 ≡ v.number.0
      short_of_kept p m = eqb-true p.view.0 v.number.0 (and_left (eqb p.view.0 v.number.0) (H.updated n s p) (sym (short_has p) ∙ m))

    -- all candidates have the same base
    one_base : (n m : ℕ) (l : n < 32) (k : m < 32) (a : candidate v held d s n ≡ true) (b : candidate v held d s m ≡ true)
        → base_of d s v.number.0 n ≡ base_of d s v.number.0 m
    one_base n m l k a b =
        rising_same start (base_of d s v.number.0 n) (base_of d s v.number.0 m) (base_rises n l a) (base_rises m k b)
        (λ p. same (among p (base_of d s v.number.0 n)) (among p (base_of d s v.number.0 m)) (λ h. over n m l k a b p h)
        (λ h. over m n k l b a p h))
      where
        over : (n m : ℕ) (l : n < 32) (k : m < 32) (a : candidate v held d s n ≡ true) (b : candidate v held d s m ≡ true) (p : Position)
            → among p (base_of d s v.number.0 n) ≡ true → among p (base_of d s v.number.0 m) ≡ true
        over n m l k a b p h =
            let o = base_older n l a p h in
            let mine : H.updated n s p ≡ true = sym (base_has n l a p o) ∙ h in
            base_has m k b p o
            ∙ sym (based.same s below n m l k (stand n l a).carries (stand m k b).carries p (whole_from n l a p mine)
            (omega (arith, (stand n l a).number)) (omega (arith, (stand m k b).number)))
            ∙ mine

    base_among : (n m : ℕ) (l : n < 32) (k : m < 32) → candidate v held d s n ≡ true → candidate v held d s m ≡ true → (p : Position)
        → among p (base_of d s v.number.0 m) ≡ true → H.updated n s p ≡ true
    base_among n m l k a b p h =
        sym (base_has n l a p (base_older m k b p h)) ∙ (ap (among p) (one_base n m l k a b) ∙ h)

    -- the two desks
    pub shortened : 0 < v.number.0 → (m : ℕ) → m < 32 → candidate v held d s m ≡ true → Shortened v held d e s (base_end d s v.number.0 m)
    unfolding has_update
    shortened some m k b =
        record {
          older = older;
          views = (short_views σ v t u held d e few slots short-slots H sup short based);
          ends = λ n l a. subst (λ (x : List Position). Shorter v (last_after start x) (end_at d s n) (end_at e s n)) (one_base n m l k a b)
              (ends n l a);
          common = λ n l a. common n l a (last_among start (base_of d s v.number.0 m));
          updates = λ n l a q view. ap (λ (x : Bool). eqb q.view.0 0 && eqb q.k 0 || x) (updates n l a q view);
        }
      where
        older : (base_end d s v.number.0 m).view.0 < v.number.0
        older =
            ⊎_elim (λ z. omega (arith, ap (λ (x : Position). x.view.0) z)) (λ z. base_older m k b (base_end d s v.number.0 m) z)
            (last_among start (base_of d s v.number.0 m))

        end_last : (x : List ℕ) (n : ℕ) → runs.Runs (report_of x n).body (report_of x n).len s → end_at x s n ≡ last_after start (updates_at x s n)
        end_last x n r =
            end_runs (report_of x n).body s (report_of x n).len
            ∙ sym (last_updates start 0 (runs_of (report_of x n).body s (report_of x n).len) (runs_rises (report_of x n).body (report_of x n).len s r))

        ends : (n : ℕ) (l : n < 32) (a : candidate v held d s n ≡ true) → Shorter v (base_end d s v.number.0 n) (end_at d s n) (end_at e s n)
        ends n l a =
            let whole : end_at d s n ≡ last_after start (base_of d s v.number.0 n ++ updates_at e s n) =
            end_last d n (whole_runs n l a) ∙ ap (last_after start) (split n l a) in
            subst⁻¹ (λ (x : Position). Shorter v (base_end d s v.number.0 n) x (end_at e s n)) whole
            (subst⁻¹ (λ (x : Position). Shorter v (base_end d s v.number.0 n) (last_after start (base_of d s v.number.0 n ++ updates_at e s n)) x)
            (end_last e n (short_runs n l a))
            (short_last v (base_of d s v.number.0 n) (updates_at e s n) (short_of_kept n l a)))

        common : (n : ℕ) → n < 32 → candidate v held d s n ≡ true → (base_end d s v.number.0 m ≡ start) ⊎
            (among (base_end d s v.number.0 m) (base_of d s v.number.0 m) ≡ true)
            → has_at d s (base_end d s v.number.0 m) n ≡ true
        common n l a (inl z) = subst⁻¹ (λ (x : Position). has_at d s x n ≡ true) z refl
        common n l a (inr z) =
            or_right (is_start (base_end d s v.number.0 m))
            (holds_runs (report_of d n).body (report_of d n).len s (base_end d s v.number.0 m) ∙ whole_has n l a (base_end d s v.number.0 m)
            ∙ base_among n m l k a b (base_end d s v.number.0 m) z)

        updates : (n : ℕ) → n < 32 → candidate v held d s n ≡ true → (q : Position) → q.view.0 ≡ v.number.0 → holds_at e s q n ≡ holds_at d s q n
        updates n l a q view =
            holds_runs (report_of e n).body (report_of e n).len s q ∙ short_has n l a q ∙ rw (eq-eqb q.view.0 v.number.0 view)
            (sym (holds_runs (report_of d n).body (report_of d n).len s q ∙ whole_has n l a q))

    -- with the terminations t and u
    module _ (some : 0 < v.number.0) (term : ShortTermination (shards σ) v t u)
        (ends : t.made ≡ true → (m : ℕ) → m < 32 → candidate v held d s m ≡ true
        → (position_at t s ≡ base_end d s v.number.0 m) ⊎ ((position_at t s).view.0 ≡ v.number.0)) where
      ended_short : t.made ≡ true → (m : ℕ) → m < 32 → candidate v held d s m ≡ true
          → Shorter v (base_end d s v.number.0 m) (position_at t s) (position_at u s)
      ended_short made m k b =
          ⊎_elim
          (λ z.
          let o : (position_at t s).view.0 < v.number.0 = omega (arith, ap (λ (x : Position). x.view.0) z, (shortened some m k b).older) in
          record {
            told = inl (
              z,
              term.told s below ∙ ap (λ (x : Bool). cond x start (position_at t s))
                  (lt-ltb (position_at t s).view.0 v.number.0 o),
            );
          })
          (λ z.
          let no : ltb (position_at t s).view.0 v.number.0 ≡ false =
          no_true (ltb (position_at t s).view.0 v.number.0) (λ y. omega (arith, ltb-true (position_at t s).view.0 v.number.0 y)) in
          record { told = inr (z, term.told s below ∙ ap (λ (x : Bool). cond x start (position_at t s)) no) })
          (ends made m k b)

      -- the target is the same, or (0, 0) for the base's end
      pub recipe_target : (n : ℕ) → n < 32 → candidate v held d s n ≡ true
          → Shorter v (base_end d s v.number.0 n) (target v t held d s) (target v u held e s)
      recipe_target n l a =
          short_target v t u held d e s (base_end d s v.number.0 n) (shortened some n l a) term.made (λ q. ended_short q n l a) n l a

      -- the holder is the same, or there is none
      pub recipe_holder : holder v t held d s ≡ holder v u held e s
      unfolding holder able candidate
      recipe_holder = ⊎_elim one none (either (any_below 32 (candidate v held d s)))
        where
          one : any_below 32 (candidate v held d s) ≡ true → holder v t held d s ≡ holder v u held e s
          one x =
              let w = any_witness 32 (candidate v held d s) x in
              short_holder v t u held d e s (base_end d s v.number.0 w.0) (shortened some w.0 w.1 w.2) term.made
              (λ q. ended_short q w.0 w.1 w.2)

          other : (n : ℕ) → n < 32 → candidate v held d s n ≡ false → candidate v held e s n ≡ false
          other n l x =
              ⊎_elim (λ p. ap (λ (y : ℕ). has held n && has (mask_at v s) n && eqb y v.number.0) ((short_views σ v t u held d e few slots short-slots H sup short based) n l p) ∙ x) (λ p. rw p)
              (either (has held n))

          none : any_below 32 (candidate v held d s) ≡ false → holder v t held d s ≡ holder v u held e s
          none x =
              best_none (able v t held d s) (end_at d s) 32
              (any_none_of 32 (able v t held d s) (λ n l. and_fails_left (has_at d s (target v t held d s) n)
              (any_fails 32 (candidate v held d s) x n l)))
              ∙ sym (best_none (able v u held e s) (end_at e s) 32
              (any_none_of 32 (able v u held e s) (λ n l. and_fails_left (has_at e s (target v u held e s) n)
              (other n l (any_fails 32 (candidate v held d s) x n l)))))

      -- a candidate's cut is the same, or (0, 0) for the base's end
      pub recipe_cut : holder v t held d s < 32 → (n : ℕ) → n < 32 → candidate v held d s n ≡ true
          → Shorter v (base_end d s v.number.0 n) (cut_for v t held d n s) (cut_for v u held e n s)
      recipe_cut held_by n l a =
          subst⁻¹ (λ (x : Position). Shorter v (last_after start base) x (cut_for v u held e n s)) whole
          (subst⁻¹ (λ (x : Position). Shorter v (last_after start base) (last_after start (base ++ shared)) x) shorter
          (short_last v base shared of-kept))
        where
          h : ℕ
          h = holder v t held d s

          b : candidate v held d s h ≡ true
          b = able_candidate v t held d s h (holder_given v t held d s held_by).picked

          base : List Position
          base = base_of d s v.number.0 n

          shared : List Position
          shared = shared_stretch (updates_at e s n) (up_to (target v u held e s) (updates_at e s h))

          targets : Shorter v (last_after start base) (target v t held d s) (target v u held e s)
          targets = recipe_target n l a

          base_up : up_to (target v t held d s) base ≡ base
          base_up =
              all_those (λ q. not_after q (target v t held d s)) base
              (λ p m. ⊎_elim
              (λ z. subst⁻¹ (λ (x : Position). not_after p x ≡ true) z.0 (last_greatest start p base (base_rises n l a) m))
              (λ z. order_of p (target v t held d s) (inl (omega (arith, z.0, base_older n l a p m))))
              targets.told)

          none_up : (c : Position) → c.view.0 < v.number.0 → up_to c (updates_at e s h) ≡ []
          none_up c o =
              none_those (λ q. not_after q c) (updates_at e s h)
              (λ p m. no_true (not_after p c) (λ z. omega (arith, order_views p c z, short_of_kept h held_by b p m)))

          tails : up_to (target v t held d s) (updates_at e s h) ≡ up_to (target v u held e s) (updates_at e s h)
          tails =
              ⊎_elim
              (λ z. none_up (target v t held d s) (omega (arith, ap (λ (x : Position). x.view.0) z.0, (shortened some n l a).older))
              ∙ sym (none_up (target v u held e s) (omega (arith, ap (λ (x : Position). x.view.0) z.1))))
              (λ z. ap (λ (x : Position). up_to x (updates_at e s h)) (sym z.1))
              targets.told

          whole : cut_for v t held d n s ≡ last_after start (base ++ shared)
          whole =
              cut_shared (report_of d n).body (report_of d n).len (report_of d h).body (report_of d h).len s (target v t held d s)
              (whole_runs n l a) (whole_runs h held_by b)
              ∙ ap₂ (λ (x y : List Position). last_after start (shared_stretch x (up_to (target v t held d s) y))) (split n l a)
              (split h held_by b ∙ ap (λ (x : List Position). x ++ updates_at e s h) (one_base h n held_by l b a))
              ∙ ap (λ (x : List Position). last_after start (shared_stretch (base ++ updates_at e s n) x))
              (those_append (λ q. not_after q (target v t held d s)) base (updates_at e s h) ∙ ap₂ (λ (x y : List Position). x ++ y) base_up tails)
              ∙ ap (last_after start) (shared_both base (updates_at e s n) (up_to (target v u held e s) (updates_at e s h)))

          shorter : cut_for v u held e n s ≡ last_after start shared
          shorter =
              ap (λ (k : ℕ). cut (report_of e n) (report_of e k) s (target v u held e s)) (sym recipe_holder)
              ∙ cut_shared (report_of e n).body (report_of e n).len (report_of e h).body (report_of e h).len s (target v u held e s)
              (short_runs n l a) (short_runs h held_by b)

          of-kept : (p : Position) → among p shared ≡ true → p.view.0 ≡ v.number.0
          of-kept p m =
              let up = (shared_up start (updates_at e s n) (up_to (target v u held e s) (updates_at e s h)) (short_rises n l a)
              (those_rise (λ q. not_after q (target v u held e s)) start (updates_at e s h) (short_rises h held_by b))).0 in
              short_of_kept n l a p
              (and_right (not_after p (last_after start shared)) (among p (updates_at e s n))
              (sym (among_those (λ q. not_after q (last_after start shared)) p (updates_at e s n)) ∙ (ap (among p) up ∙ m)))

  -- waits 1 to 4 are the same, or there is none
  pub recipe_quorum : ShortTermination (shards σ) v t u
      → ((s : ℕ) → s < shards σ → t.made ≡ true → (m : ℕ) → m < 32 → candidate v held d s m ≡ true
      → (position_at t s ≡ base_end d s v.number.0 m) ⊎ ((position_at t s).view.0 ≡ v.number.0))
      → quorum_of σ v t held d ≡ quorum_of σ v u held e
  unfolding quorum_of first_unheld
  recipe_quorum term ends = ⊎_elim some none (lt_or_le 0 v.number.0)
    where
      some : 0 < v.number.0 → quorum_of σ v t held d ≡ quorum_of σ v u held e
      some l =
          let one : first_unheld σ v t held d ≡ first_unheld σ v u held e =
          lowest_cong (shards σ) (unheld v t held d) (unheld v u held e) (λ s k. ap (λ (x : ℕ). eqb x 32) (recipe_holder s k l term (ends s k))) in
          rw one refl

      none : v.number.0 ≤ 0 → quorum_of σ v t held d ≡ quorum_of σ v u held e
      none l = let z : v.number.0 ≡ 0 = omega arith in rw z refl

  -- where waits 1 to 4 do not apply to the whole reports: a termination that ends nothing before what is settled ends each shard with the base
  -- or in the kept view
  module _ (wide : v.members < 2 ^ 32) (met : QuorumMet σ v t held d) (orderly : Orderly H) where
    pub covers_ends : Covers σ t H → (s : ℕ) → s < shards σ → t.made ≡ true → (m : ℕ) → m < 32 → candidate v held d s m ≡ true
        → (position_at t s ≡ base_end d s v.number.0 m) ⊎ ((position_at t s).view.0 ≡ v.number.0)
    unfolding target
    covers_ends ended s below made m k b = ⊎_elim empty held_it (runs.has_cases (report_of d h).body (report_of d h).len s (position_at t s) has_it)
      where
        h : ℕ
        h = holder v t held d s

        top : candidate v held d s h ≡ true
        top = able_candidate v t held d s h (holder_given v t held d s (met.holders s below)).picked

        is_target : target v t held d s ≡ position_at t s
        is_target = ap (λ (x : Bool). cond x (position_at t s) (end_at d s (best (candidate v held d s) (end_at d s) 32))) made

        has_it : has_at d s (position_at t s) h ≡ true
        has_it =
            subst (λ (x : Position). has_at d s x h ≡ true) is_target
            (able_has v t held d s h (holder_given v t held d s (met.holders s below)).picked)

        base_first : not_after (base_end d s v.number.0 m) (position_at t s) ≡ true
        base_first =
            ⊎_elim (λ z. subst⁻¹ (λ (x : Position). not_after x (position_at t s) ≡ true) z (runs.start_first (position_at t s)))
            (λ z.
            let p : Position = base_end d s v.number.0 m in
            let mine : H.updated m s p ≡ true = base_among s below m m k k b b p z in
            ended.after made s below p
            (base_settled H based sup.rule (kept_some σ v t held d few wide slots met H H.updated sup orderly) s below m k
            (standing s below m k b).carries p
            (whole_from s below m k b p mine) (omega (arith, base_older s below m k b p z, (standing s below m k b).number)) mine))
            (last_among start (base_of d s v.number.0 m))

        empty : position_at t s ≡ start → (position_at t s ≡ base_end d s v.number.0 m) ⊎ ((position_at t s).view.0 ≡ v.number.0)
        empty z =
            inl (same-position (position_at t s) (base_end d s v.number.0 m)
            (subst⁻¹ (λ (x : Position). not_after x (base_end d s v.number.0 m) ≡ true) z
            (runs.start_first (base_end d s v.number.0 m))) base_first)

        held_it : holds_at d s (position_at t s) h ≡ true → (position_at t s ≡ base_end d s v.number.0 m) ⊎ ((position_at t s).view.0 ≡ v.number.0)
        held_it z =
            let small = (holder_given v t held d s (met.holders s below)).below in
            let mine : H.updated h s (position_at t s) ≡ true =
            sym (whole_has s below h small top (position_at t s)) ∙ (sym (holds_runs (report_of d h).body (report_of d h).len s (position_at t s))
            ∙ z) in
            ⊎_elim
            (λ o.
            let in-base : among (position_at t s) (base_of d s v.number.0 m) ≡ true =
            ap (among (position_at t s)) (one_base s below m h k small b top) ∙ (base_has s below h small top (position_at t s) o ∙ mine) in
            inl (same-position (position_at t s) (base_end d s v.number.0 m)
            (last_greatest start (position_at t s) (base_of d s v.number.0 m) (base_rises s below m k b) in-base) base_first))
            (λ o. inr (omega (arith, whole_views s below h small top (position_at t s) mine)))
            (lt_or_le (position_at t s).view.0 v.number.0)

    module _ (term : ShortTermination (shards σ) v t u)
        (ends : (s : ℕ) → s < shards σ → t.made ≡ true → (m : ℕ) → m < 32 → candidate v held d s m ≡ true
        → (position_at t s ≡ base_end d s v.number.0 m) ⊎ ((position_at t s).view.0 ≡ v.number.0)) where
      some_number : 0 < v.number.0
      some_number = ⊎_elim (λ z. z) (λ z. absurd (met.kept (omega arith))) (lt_or_le 0 v.number.0)

      -- then they do not apply to the short ones
      pub recipe_met : QuorumMet σ v u held e
      recipe_met =
          record {
            kept = met.kept;
            most = met.most;
            enough = met.enough;
            holders = λ s l. subst (λ (n : ℕ). n < 32) (recipe_holder s l some_number term (ends s l)) (met.holders s l);
          }

      short_supposed : Supposed σ v held e (short_of H)
      short_supposed =
          let at = sup.listed in
          record {
            rule = record { rises = sup.rule.rises; overlaps = sup.rule.overlaps };
            true_reports = short;
            place = sup.place;
            listed = record { listed = at.listed; number = at.number; members = at.members; masks = at.masks };
          }

      -- and a machine that does as the recipe says has what an order from whole reports says
      pub recipe_ordered : (s : ℕ) → s < shards σ → (n : ℕ) → n < 32 → has held n ≡ true → {G : History} → ByRecipe v u held e H G n s
          → (q : Position) → 1 ≤ q.k
          → G.updated n s q ≡ as_ordered v t held d n s q
      recipe_ordered s below n l k r q from =
          recipe_wanted σ v u held e few wide short-slots recipe_met H short_supposed orderly s below n l k based r q from
          ∙ subst (λ (x : ℕ). wanted x ≡ (H.updated h s q && not_after q (target v t held d s)))
          (recipe_holder s below some_number term (ends s below)) one
          ∙ sym (as_handed σ v t held d few wide slots met H sup orderly s below n l k q)
        where
          h : ℕ
          h = holder v t held d s

          small : h < 32
          small = met.holders s below

          top : candidate v held d s h ≡ true
          top = able_candidate v t held d s h (holder_given v t held d s (met.holders s below)).picked

          wanted : ℕ → Bool
          wanted x = H.updated x s q && cond (is_start (target v u held e s)) (ltb q.view.0 v.number.0) (not_after q (target v u held e s))

          one : wanted h ≡ (H.updated h s q && not_after q (target v t held d s))
          one =
              ⊎_elim
              (λ z.
              ap (λ (x : Position). H.updated h s q && cond (is_start x) (ltb q.view.0 v.number.0) (not_after q x)) z.1
              ∙ same (H.updated h s q && ltb q.view.0 v.number.0) (H.updated h s q && not_after q (target v t held d s))
              (λ a.
              let mine = and_left (H.updated h s q) (ltb q.view.0 v.number.0) a in
              let o = ltb-true q.view.0 v.number.0 (and_right (H.updated h s q) (ltb q.view.0 v.number.0) a) in
              and_both mine (subst⁻¹ (λ (x : Position). not_after q x ≡ true) z.0
              (last_greatest start q (base_of d s v.number.0 h) (base_rises s below h small top) (base_has s below h small top q o ∙ mine))))
              (λ a.
              let up = and_right (H.updated h s q) (not_after q (target v t held d s)) a in
              and_both (and_left (H.updated h s q) (not_after q (target v t held d s)) a)
              (lt-ltb q.view.0 v.number.0
              (omega (
                arith,
                order_views q (target v t held d s) up,
                ap (λ (x : Position). x.view.0)
                    z.0,
                (shortened s below some_number h small top).older,
              )))))
              (λ z.
              let no : is_start (target v u held e s) ≡ false =
              and_fails_left (eqb (target v u held e s).k 0) (ne_eqb (target v u held e s).view.0 0
              (λ y. omega (arith, some_number, z.0, ap (λ (x : Position). x.view.0) z.1))) in
              ap (λ (x : Bool). H.updated h s q && cond x (ltb q.view.0 v.number.0) (not_after q (target v u held e s))) no
              ∙ ap (λ (x : Position). H.updated h s q && not_after q x) z.1)
              (recipe_target s below some_number term (ends s below) h small top).told
