-- Courses of histories that desks tell (history_cases/Told.toldBy): what an orderly history, a plan, a restart and a run ask is a test,
-- which the checker computes. A shard's log is compared as the list of its updates.
use Rattle.std.specs.Prelude.{ℕ, suc, ◌+◌, ◌-◌, ◌*◌, ◌^◌, ◌<◌, ◌≤◌, Bool, true, false, not, ◌&&◌, ◌||◌, List, [], ◌∷◌, ◌⊎◌, ◌≡◌, refl, eqb, leb, ltb, length, get_or, take, drop}
use Rattle.std.proofs.Common.{inl, inr, ⊎_elim, sym, ap, ap₂, ◌∙◌, subst, arith, drop-drop, eqb-true, leb-true, ltb-true}
use Rattle.std.proofs.Math.Path.{subst⁻¹}
use Rattle.std.specs.Int.Bits.{bit_and}
use Rattle.base_laws.specs.Bools.{clash, and_both, and_left, and_right, or-holds, of_not_true, lt_or_le}
use Rattle.base_laws.specs.Definitions.{all_below, any_below, has, count, subset}
use Rattle.base_laws.specs.Below.{all_at, all_of, any_witness}
use Rattle.base_laws.specs.Masks.{subset_has, quorums_meet}
use Rattle.settings_values.specs.Definitions.{least, shards}
use Rattle.base_ids.specs.declared.Position.{Position}
use Rattle.base_ids.specs.Definitions.{not_after}
use Rattle.message_format.specs.Definitions.{contents_of}
use Rattle.report_views.specs.declared.Layout.{Layout}
use Rattle.report_views.specs.declared.Termination.{Termination}
use Rattle.report_views.specs.Definitions.{holds, slot, report_of, holds_at, mask_at, position_at, same_position, slots_ok, target, holder}
use Rattle.report_views.specs.Shorthands.{view_of}
use Rattle.report_views.specs.Meets.{QuorumMet, slot_given, report_records, candidate_given, holder_given, able_candidate}
use Rattle.report_views.specs.Cuts.{cut}
use Rattle.report_views.specs.Updates.{updates_at, up_to}
use Rattle.report_log_laws.specs.Stretches.{among, among_those, one_same}
use Rattle.report_log_laws.specs.UpdateLaws.{holds_runs}
use Rattle.report_views.specs.RunLaws as runs
use Rattle.report_log_laws.proofs.CutLawsAfter.{kept_or_fetched}
use Rattle.history_laws.specs.Definitions.{History, view_at, members_at}
use Rattle.history_cases.specs.Told.{told_by, implies, implies_at, rises_test, overlaps_test, rule_of, reports_test, reports_of}
use Rattle.history_course_laws.specs.Course.{last_of, Succeeded, Orderly, Settled, PlannedView, Covers, CarriedOut, GivenUp, cut_for, as_ordered}
use Rattle.history_course_laws.specs.Ever.{Restart}

-- ---- lists of updates

-- f holds of every update of a list
unfoldable pub of_every : (Position → Bool) → List Position → Bool
of_every f [] = true
of_every f (p ∷ ps) = f p && of_every f ps

every_at : (f : Position → Bool) (ps : List Position) → of_every f ps ≡ true → (p : Position) → among p ps ≡ true → f p ≡ true
unfolding of_every among
every_at f [] h p e = clash e refl
every_at f (q ∷ ps) h p e =
    ⊎_elim (λ o. subst (λ (x : Position). f x ≡ true) (one_same q p o) (and_left (f q) (of_every f ps) h))
    (every_at f ps (and_right (f q) (of_every f ps) h) p)
    (or-holds (same_position q p) (among p ps) e)

-- two lists are one
unfoldable pub same_log : List Position → List Position → Bool
same_log [] [] = true
same_log [] (q ∷ qs) = false
same_log (p ∷ ps) [] = false
same_log (p ∷ ps) (q ∷ qs) = same_position p q && same_log ps qs

same-log : (ps qs : List Position) → same_log ps qs ≡ true → ps ≡ qs
unfolding same_log
same-log [] [] h = refl
same-log [] (q ∷ qs) h = clash h refl
same-log (p ∷ ps) [] h = clash h refl
same-log (p ∷ ps) (q ∷ qs) h =
    ap₂ ◌∷◌ (one_same p q (and_left (same_position p q) (same_log ps qs) h)) (same-log ps qs (and_right (same_position p q) (same_log ps qs) h))

-- logs that are one list hold the same
same-holds : (d e : List ℕ) (s n : ℕ) → same_log (updates_at e s n) (updates_at d s n) ≡ true → (q : Position) → holds_at e s q n ≡ holds_at d s q n
same-holds d e s n h q =
    holds_runs (report_of e n).body (report_of e n).len s q
    ∙ (ap (among q) (same-log (updates_at e s n) (updates_at d s n) h) ∙ sym (holds_runs (report_of d n).body (report_of d n).len s q))

-- ---- orderly histories

-- more than half of the members of the view at place i are in the mask, and each node of the mask has logged a later one
abbrev pub succeeded_test : History → ℕ → ℕ → Bool
succeeded_test H i by =
    ltb (count (members_at H i)) (2 * count (bit_and by (members_at H i)))
    && implies (has by) (λ n. any_below (length H.views) (λ j. ltb i j && H.logged n j))

pub succeeded_of : (H : History) (i by : ℕ) → succeeded_test H i by ≡ true → Succeeded H i
succeeded_of H i by h =
    let most = ltb (count (members_at H i)) (2 * count (bit_and by (members_at H i))) in
    let later : ℕ → ℕ → Bool = λ n j. ltb i j && H.logged n j in
    let each = implies (has by) (λ n. any_below (length H.views) (later n)) in
    record {
      by = by;
      most = ltb-true (count (members_at H i)) (2 * count (bit_and by (members_at H i))) (and_left most each h);
      later =
          λ n l k.
          let (j, below, both) =
          any_witness (length H.views) (later n)
          (implies_at (has by) (λ m. any_below (length H.views) (later m)) (and_right most each h) n l k) in
          (j, ltb-true i j (and_left (ltb i j) (H.logged n j) both), below, and_right (ltb i j) (H.logged n j) both);
    }

-- the masks of the nodes by which each view but the last is succeeded
pub orderly_of : (H : History) (masks : List ℕ) → rises_test H ≡ true → overlaps_test H ≡ true
    → all_below (length H.views) (λ i. leb (length H.views) (suc i) || succeeded_test H i (get_or masks i 0)) ≡ true → Orderly H
orderly_of H masks r o h =
    record {
      rule = rule_of H r o;
      succeeded =
          λ i l.
          ⊎_elim (λ e. let z = leb-true (length H.views) (suc i) e in absurd (omega arith)) (succeeded_of H i (get_or masks i 0))
          (or-holds (leb (length H.views) (suc i)) (succeeded_test H i (get_or masks i 0))
          (all_at (length H.views) (λ k. leb (length H.views) (suc k) || succeeded_test H k (get_or masks k 0)) h i (omega arith)));
    }

-- more than half of the members of the view at place i have logged no later one
abbrev pub stayed_test : History → ℕ → ℕ → Bool
stayed_test H i held = implies (has held) (λ n. all_below (length H.views) (λ j. leb j i || not (H.logged n j)))

pub not_succeeded : (H : History) (i held : ℕ) → members_at H i < 2 ^ 32 → count (members_at H i) < 2 * count (bit_and held (members_at H i))
    → stayed_test H i held ≡ true → Succeeded H i → ⊥
not_succeeded H i held wide most h s =
    let w = quorums_meet 32 s.by held (members_at H i) wide s.most most in
    let n : ℕ = w.0 in
    let (j, after, inside, logged) = s.later n w.1 w.2 in
    let stayed : (leb j i || not (H.logged n j)) ≡ true =
    all_at (length H.views) (λ k. leb k i || not (H.logged n k))
    (implies_at (has held) (λ m. all_below (length H.views) (λ k. leb k i || not (H.logged m k))) h n w.1 w.3) j inside in
    ⊎_elim (λ e. let z = leb-true j i e in absurd (omega arith)) (λ e. clash logged (of_not_true (H.logged n j) e))
    (or-holds (leb j i) (not (H.logged n j)) stayed)

-- ---- what is settled

-- the members of shard s in the last view that have logged it
abbrev pub asked_at : History → ℕ → ℕ → Bool
asked_at H s n = has (mask_at (view_at H (last_of H)) s) n && H.logged n (last_of H)

pub settled_of : (H : History) (s : ℕ) (p : Position) → implies (asked_at H s) (λ n. H.updated n s p) ≡ true → Settled H s p
settled_of H s p h = record { all = λ n l m k. implies_at (asked_at H s) (λ i. H.updated i s p) h n l (and_both m k) }

-- what is settled is among the updates of each of them
settled_among : (views : List Layout) (logs d : List ℕ) (s n : ℕ) → n < 32 → asked_at (told_by views logs d) s n ≡ true
    → (p : Position) → Settled (told_by views logs d) s p → among p (updates_at d s n) ≡ true
settled_among views logs d s n l h p settled =
    let H : History = told_by views logs d in
    let member = has (mask_at (view_at H (last_of H)) s) n in
    let logged = H.logged n (last_of H) in
    sym (holds_runs (report_of d n).body (report_of d n).len s p)
    ∙ settled.all n l (and_left member logged h) (and_right member logged h)

-- ---- plans

-- w is a plan's view
pub next_of : (σ : List ℕ) (v : Layout) (held : ℕ) (w : Layout) → w.number.0 ≡ v.number.0 + 1 → w.members ≡ held
    → all_below (shards σ) (λ s. subset (mask_at w s) held) ≡ true → PlannedView σ v held w
next_of σ v held w e m h =
    record { number = e; members = m; placed = λ s l n k. subset_has (mask_at w s) held (all_at (shards σ) (λ i. subset (mask_at w i) held) h s l) n }

-- with one shard, whose holder is h
pub met_of : (σ : List ℕ) (v : Layout) (t : Termination) (held : ℕ) (d : List ℕ) (h : ℕ) → shards σ ≡ 1 → 1 ≤ v.number.0
    → count v.members < 2 * count (bit_and held v.members) → least σ ≤ count held → h < 32 → holder v t held d 0 ≡ h → QuorumMet σ v t held d
met_of σ v t held d h one some most enough low e =
    record {
      kept = λ z. absurd (omega arith);
      most = most;
      enough = enough;
      holders = λ s k. let first : 0 ≡ s = omega (arith, one) in subst (λ (i : ℕ). holder v t held d i < 32) first (omega (arith, e));
    }

-- with no termination kept
pub none_ended : (σ : List ℕ) (t : Termination) (H : History) → t.made ≡ false → Covers σ t H
none_ended σ t H e = record { after = λ m. clash m e }

-- each shard's log on node a, which has logged the last view and is a member there, ends no later than the termination
pub covers_of : (σ : List ℕ) (t : Termination) (views : List Layout) (logs d : List ℕ) (a : ℕ) → a < 32
    → all_below (shards σ) (λ s. asked_at (told_by views logs d) s a && of_every (λ p. not_after p (position_at t s)) (updates_at d s a)) ≡ true
    → Covers σ t (told_by views logs d)
covers_of σ t views logs d a l h =
    record {
      after =
          λ made s k p settled.
          let H : History = told_by views logs d in
          let asks = asked_at H s a in
          let ends = of_every (λ q. not_after q (position_at t s)) (updates_at d s a) in
          let both = all_at (shards σ) (λ i. asked_at H i a && of_every (λ q. not_after q (position_at t i)) (updates_at d i a)) h s k in
          every_at (λ q. not_after q (position_at t s)) (updates_at d s a) (and_right asks ends both) p
          (settled_among views logs d s a l (and_left asks ends both) p settled);
    }

module _ (σ : List ℕ) (views : List Layout) (logs d : List ℕ) (v : Layout) (t : Termination) (held : ℕ) (w : Layout) where
  -- a plan from the reports of the nodes held, of those that the desk has
  abbrev pub plan_from : 0 < shards σ → shards σ ≤ 16 → v.members < 2 ^ 32 → slots_ok σ v t held d ≡ true → QuorumMet σ v t held d
      → PlannedView σ v held w → (places : List ℕ) → reports_test σ views logs d held places ≡ true → Covers σ t (told_by views logs d)
      → Restart (shards σ) (told_by views logs d)
  plan_from some few wide slots met next places reports ended =
      record {
        σ = σ;
        same = refl;
        v = v;
        t = t;
        held = held;
        d = d;
        w = w;
        some = some;
        few = few;
        wide = wide;
        slots = slots;
        met = met;
        next = next;
        reports = reports_of σ views logs d held places reports;
        ended = ended;
      }

-- what the log of node h holds or does not hold, if h is the holder
pub told_of : (d : List ℕ) (p : Position) (b : Bool) {h n : ℕ} → n ≡ h → holds_at d 0 p h ≡ b → holds_at d 0 p n ≡ b
told_of d p b e k = subst⁻¹ (λ (n : ℕ). holds_at d 0 p n ≡ b) e k

-- the cut of node n for shard 0, if the holder is h and the target p
pub cut_of : (v : Layout) (t : Termination) (held : ℕ) (d : List ℕ) (n : ℕ) {h : ℕ} {p c : Position} → target v t held d 0 ≡ p → holder v t held d 0 ≡ h
    → cut (report_of d n) (report_of d h) 0 p ≡ c → cut_for v t held d n 0 ≡ c
cut_of v t held d n {p = p} at by e =
    ap (λ (x : Position). cut (report_of d n) (report_of d (holder v t held d 0)) 0 x) at
    ∙ (ap (λ (h : ℕ). cut (report_of d n) (report_of d h) 0 p) by ∙ e)

-- ---- restarts

module _ {S : ℕ} {H : History} (r : Restart S H) where
  -- the log of shard s that the plan asks for: the holder's up to the target
  abbrev pub planned_log : ℕ → List Position
  planned_log s = up_to (target r.v r.t r.held r.d s) (updates_at r.d s (holder r.v r.t r.held r.d s))

  -- a held node that has done what its order says has that log
  as_planned : (s : ℕ) → s < shards r.σ → (n : ℕ) → n < 32 → has r.held n ≡ true → (q : Position)
      → as_ordered r.v r.t r.held r.d n s q ≡ among q (planned_log s)
  as_planned s below n l k q =
      let h : ℕ = holder r.v r.t r.held r.d s in
      let goal : Position = target r.v r.t r.held r.d s in
      let given = holder_given r.v r.t r.held r.d s (r.met.holders s below) in
      let c = candidate_given r.v r.held r.d s h (able_candidate r.v r.t r.held r.d s h given.picked) in
      kept_or_fetched (report_of r.d n).body (report_of r.d n).len (report_of r.d h).body (report_of r.d h).len s goal
      (runs-of n l k) (runs-of h given.below c.is_held) q
      ∙ (ap (λ (x : Bool). not_after q goal && x) (holds_runs (report_of r.d h).body (report_of r.d h).len s q)
      ∙ sym (among_those (λ p. not_after p goal) q (updates_at r.d s h)))
    where
      runs-of : (n : ℕ) → n < 32 → has r.held n ≡ true → runs.Runs (report_of r.d n).body (report_of r.d n).len s
      runs-of n l k =
          runs.passed_runs r.σ (report_of r.d n).node.0 (view_of r.d n) (report_of r.d n).members
          (report_of r.d n).body (report_of r.d n).len
          (report_records r.σ r.v r.t r.d n (slot_given r.σ r.v r.t r.held r.d r.slots n l k)) s (omega (arith, r.few))

  -- with one shard: the holder is h, the target p
  pub planned_of : shards r.σ ≡ 1 → (log : List Position) (p : Position) (h : ℕ) → target r.v r.t r.held r.d 0 ≡ p
      → holder r.v r.t r.held r.d 0 ≡ h → same_log (up_to p (updates_at r.d 0 h)) log ≡ true
      → all_below (shards r.σ) (λ s. same_log (planned_log s) (get_or (log ∷ []) s [])) ≡ true
  planned_of one log p h at by same =
      let here : same_log (planned_log 0) log ≡ true =
      subst⁻¹ (λ (x : Position). same_log (up_to x (updates_at r.d 0 (holder r.v r.t r.held r.d 0))) log ≡ true) at
      (subst⁻¹ (λ (n : ℕ). same_log (up_to p (updates_at r.d 0 n)) log ≡ true) by same) in
      all_of (shards r.σ) (λ s. same_log (planned_log s) (get_or (log ∷ []) s []))
      (λ s k. let first : 0 ≡ s = omega (arith, one) in subst (λ (i : ℕ). same_log (planned_log i) (get_or (log ∷ []) i []) ≡ true) first here)

  module _ (planned : List (List Position)) (log : all_below (shards r.σ) (λ s. same_log (planned_log s) (get_or planned s [])) ≡ true) where
    -- what its order gives a placed node
    pub asked_of : (s : ℕ) → s < shards r.σ → (n : ℕ) → n < 32 → has (mask_at r.w s) n ≡ true → (q : Position)
        → as_ordered r.v r.t r.held r.d n s q ≡ among q (get_or planned s [])
    asked_of s k n l m q =
        as_planned s k n l (r.next.placed s k n l m) q
        ∙ ap (among q) (same-log (planned_log s) (get_or planned s []) (all_at (shards r.σ) (λ i. same_log (planned_log i) (get_or planned i [])) log s k))

    ordered_at : (e : List ℕ) (s : ℕ) → s < shards r.σ → (n : ℕ) → n < 32 → has (mask_at r.w s) n ≡ true
        → same_log (updates_at e s n) (get_or planned s []) ≡ true
        → (q : Position) → holds_at e s q n ≡ as_ordered r.v r.t r.held r.d n s q
    ordered_at e s k n l m h q =
        holds_runs (report_of e n).body (report_of e n).len s q
        ∙ (ap (among q) (same-log (updates_at e s n) (get_or planned s []) h) ∙ sym (asked_of s k n l m q))

    -- on the desk e the nodes that the plan's view places and that have logged it have the logs that the plan asks for
    abbrev pub ordered_test : ℕ → List ℕ → Bool
    ordered_test by e =
        all_below (shards r.σ) (λ s. implies (λ n. has (mask_at r.w s) n && has by n) (λ n. same_log (updates_at e s n) (get_or planned s [])))

    pub ordered_of : (by : ℕ) (e : List ℕ) → ordered_test by e ≡ true → (s : ℕ) → s < shards r.σ → (n : ℕ) → n < 32
        → has (mask_at r.w s) n ≡ true → has by n ≡ true → (q : Position) → holds_at e s q n ≡ as_ordered r.v r.t r.held r.d n s q
    ordered_of by e h s k n l m b =
        let logs : ℕ → ℕ → Bool = λ i j. same_log (updates_at e i j) (get_or planned i []) in
        let both : ℕ → ℕ → Bool = λ i j. has (mask_at r.w i) j && has by j in
        ordered_at e s k n l m (implies_at (both s) (logs s) (all_at (shards r.σ) (λ i. implies (both i) (logs i)) h s k) n l (and_both m b))

-- what was logged before is logged
pub remembered_of : (before after : List ℕ) (k : ℕ) → all_below k (λ i. subset (get_or before i 0) (get_or after i 0)) ≡ true
    → (n i : ℕ) → i < k → has (get_or before i 0) n ≡ true → has (get_or after i 0) n ≡ true
remembered_of before after k h n i l = subset_has (get_or before i 0) (get_or after i 0) (all_at k (λ j. subset (get_or before j 0) (get_or after j 0)) h i l) n

-- the slots of two desks whose words are the same from slot k on
slots_alike : (d e : List ℕ) (k : ℕ) → drop (512 * k) e ≡ drop (512 * k) d → (n : ℕ) → k ≤ n → slot e n ≡ slot d n
unfolding slot
slots_alike d e k same n l =
    let at : 512 * k + 512 * (n - k) ≡ 512 * n = omega arith in
    let from : (x : List ℕ) → drop (512 * n) x ≡ drop (512 * (n - k)) (drop (512 * k) x) =
    λ x. ap (λ (m : ℕ). drop m x) (sym at) ∙ sym (drop-drop (512 * (n - k)) (512 * k) x) in
    ap (λ (x : List ℕ). take (512 * n + 512 - 512 * n) x) (from e ∙ (ap (λ (x : List ℕ). drop (512 * (n - k)) x) same ∙ sym (from d)))

holds_alike : (d e : List ℕ) (k : ℕ) → drop (512 * k) e ≡ drop (512 * k) d → (s n : ℕ) → k ≤ n → (q : Position) → holds_at e s q n ≡ holds_at d s q n
unfolding report_of
holds_alike d e k same s n l q = ap (λ (x : List ℕ). holds (contents_of x).body (contents_of x).len s q) (slots_alike d e k same n l)

-- below k the two desks have the same log of shard s but for node a, and from k on they are the same
pub others_alike : (d e : List ℕ) (s a k : ℕ) → all_below k (λ n. eqb n a || same_log (updates_at e s n) (updates_at d s n)) ≡ true
    → drop (512 * k) e ≡ drop (512 * k) d → (n : ℕ) → (n ≡ a → ⊥) → (q : Position) → holds_at e s q n ≡ holds_at d s q n
others_alike d e s a k h rest n other q =
    ⊎_elim
    (λ low.
    ⊎_elim (λ x. absurd (other (eqb-true n a x))) (λ x. same-holds d e s n x q)
    (or-holds (eqb n a) (same_log (updates_at e s n) (updates_at d s n)) (all_at k (λ j. eqb j a || same_log (updates_at e s j) (updates_at d s j)) h n low)))
    (λ high. holds_alike d e k rest s n high q) (lt_or_le n k)

-- of node a's log is left what is not past c
pub kept_alike : (d e : List ℕ) (s a : ℕ) (c : Position) → same_log (updates_at e s a) (up_to c (updates_at d s a)) ≡ true
    → (q : Position) → holds_at e s q a ≡ (not_after q c && holds_at d s q a)
kept_alike d e s a c h q =
    holds_runs (report_of e a).body (report_of e a).len s q
    ∙ (ap (among q) (same-log (updates_at e s a) (up_to c (updates_at d s a)) h)
    ∙ (among_those (λ p. not_after p c) q (updates_at d s a)
    ∙ ap (λ (x : Bool). not_after q c && x) (sym (holds_runs (report_of d a).body (report_of d a).len s q))))

module _ {S : ℕ} (views : List Layout) (logs d : List ℕ) (r : Restart S (told_by views logs d)) (planned : List (List Position))
    (log : all_below (shards r.σ) (λ s. same_log (planned_log r s) (get_or planned s [])) ≡ true) where
  -- below k the desk e has each node's log as it was, or the node is placed and its log is what the plan asks for
  abbrev pub given_up_test : ℕ → List ℕ → Bool
  given_up_test k e =
      all_below (shards r.σ)
      (λ s. all_below k (λ n. same_log (updates_at e s n) (updates_at d s n) || has (mask_at r.w s) n && same_log (updates_at e s n) (get_or planned s [])))

  told_below : (k : ℕ) (e : List ℕ) → given_up_test k e ≡ true → (s : ℕ) → s < shards r.σ → (n : ℕ) → n < 32 → n < k
      → ((q : Position) → holds_at e s q n ≡ holds_at d s q n)
      ⊎ ((has (mask_at r.w s) n ≡ true) × ((q : Position) → holds_at e s q n ≡ as_ordered r.v r.t r.held r.d n s q))
  told_below k e h s below n l low =
      let same : ℕ → ℕ → Bool = λ i j. same_log (updates_at e i j) (updates_at d i j) in
      let placed : ℕ → ℕ → Bool = λ i j. has (mask_at r.w i) j in
      let new : ℕ → ℕ → Bool = λ i j. same_log (updates_at e i j) (get_or planned i []) in
      let one : (same s n || placed s n && new s n) ≡ true =
      all_at k (λ j. same s j || placed s j && new s j)
      (all_at (shards r.σ) (λ i. all_below k (λ j. same i j || placed i j && new i j)) h s below) n low in
      ⊎_elim (λ a. inl (λ q. same-holds d e s n a q))
      (λ a. let m = and_left (placed s n) (new s n) a in inr (m, ordered_at r planned log e s below n l m (and_right (placed s n) (new s n) a)))
      (or-holds (same s n) (placed s n && new s n) one)

  -- and from k on the desks are the same
  pub given_up_of : (k : ℕ) (e : List ℕ) → given_up_test k e ≡ true → drop (512 * k) e ≡ drop (512 * k) d
      → GivenUp r.σ r.v r.t r.held r.d r.w (told_by views logs d) (told_by views logs e)
  given_up_of k e h rest =
      record {
        views = refl;
        logged = λ n i. refl;
        updated = λ s below n l. ⊎_elim (λ low. told_below k e h s below n l low) (λ high. inl (λ q. holds_alike d e k rest s n high q)) (lt_or_le n k);
      }

-- more than half of the kept view's members have not logged the plan's view
pub not_carried : {S : ℕ} {H : History} (r : Restart S H) (G : History) (out : ℕ) → count r.v.members < 2 * count (bit_and out r.v.members)
    → implies (has out) (λ n. not (G.logged n (length H.views))) ≡ true
    → CarriedOut r.σ r.v r.t r.held r.d r.w H G → ⊥
not_carried {H = H} r G out most h c =
    let w = quorums_meet 32 c.by out r.v.members r.wide c.most most in
    clash (c.logs w.0 w.1 w.2)
    (of_not_true (G.logged w.0 (length H.views)) (implies_at (has out) (λ n. not (G.logged n (length H.views))) h w.0 w.1 w.3))

-- ---- runs

-- all updates that node a has of a shard, which is a member in the last view and has logged it, stand after the run in the logs of those
-- that are
abbrev pub keeps_test : ℕ → List Layout → List ℕ → List ℕ → List Layout → List ℕ → List ℕ → ℕ → Bool
keeps_test S views logs d later new e a =
    all_below S
    (λ s.
    asked_at (told_by views logs d) s a
    && implies (asked_at (told_by later new e) s) (λ n. of_every (λ p. among p (updates_at e s n)) (updates_at d s a)))

pub keeps_of : (S : ℕ) (views : List Layout) (logs d : List ℕ) (later : List Layout) (new e : List ℕ) (a : ℕ) → a < 32
    → keeps_test S views logs d later new e a ≡ true
    → (s : ℕ) → s < S → (p : Position) → Settled (told_by views logs d) s p → Settled (told_by later new e) s p
keeps_of S views logs d later new e a l h s k p settled =
    let asked : ℕ → Bool = λ i. asked_at (told_by views logs d) i a in
    let kept : ℕ → ℕ → Bool = λ i n. of_every (λ q. among q (updates_at e i n)) (updates_at d i a) in
    let each : ℕ → Bool = λ i. implies (asked_at (told_by later new e) i) (kept i) in
    let both = all_at S (λ i. asked i && each i) h s k in
    let had = settled_among views logs d s a l (and_left (asked s) (each s) both) p settled in
    record {
      all = λ n m x y.
          holds_runs (report_of e n).body (report_of e n).len s p
          ∙ every_at (λ q. among q (updates_at e s n)) (updates_at d s a)
          (implies_at (asked_at (told_by later new e) s) (kept s) (and_right (asked s) (each s) both) n m (and_both x y)) p had;
    }
