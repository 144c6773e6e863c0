-- Restarts from short reports lose nothing. A short report is true of the history `short_of H`, so what is proved of a restart from whole
-- reports holds there: the kept view is the last, and what is settled of it is in the holder's log and not past the target. What is settled
-- of earlier views is in the holder's base. A machine that keeps its base, or its log up to the cut, agrees so far with the holder, since bases
-- agree; so with what it fetches it has the holder's log up to the target.
use Rattle.std.specs.Prelude.{ℕ, ◌^◌, ◌<◌, ◌≤◌, Bool, true, false, cond, ◌&&◌, ◌||◌, List, ◌⊎◌, ◌≡◌, refl, eqb, length}
use Rattle.std.proofs.Common.{inl, inr, ⊎_elim, sym, ap, ap₂, ◌∙◌, subst, arith, eqb-true, eq-eqb, lt-ltb}
use Rattle.std.proofs.Math.Path.{subst⁻¹}
use Rattle.base_laws.specs.Bools.{either, clash, and_both, and_left, and_right, cond_of, lt_or_le}
use Rattle.base_laws.specs.Definitions.{has}
use Rattle.settings_values.specs.Definitions.{shards}
use Rattle.base_ids.specs.declared.Position.{Position}
use Rattle.base_ids.specs.Definitions.{not_after}
use Rattle.base_ids.specs.Order.{order_of, order_views, order_places}
use Rattle.report_views.specs.declared.Layout.{Layout}
use Rattle.report_views.specs.declared.Termination.{Termination}
use Rattle.report_views.specs.Definitions.{start, is_start, report_of, holds_at, slots_ok, target, holder}
use Rattle.report_views.specs.Shorthands.{view_of}
use Rattle.report_views.specs.Meets.{QuorumMet, holder_given, able_has}
use Rattle.report_views.specs.RunLaws as runs
use Rattle.report_log_laws.proofs.CutLaws.{cut_kept, cut_held}
use Rattle.history_laws.specs.Definitions.{History, Supposed, number_at}
use Rattle.history_course_laws.specs.Course.{last_of, Orderly, Settled, Covers, cut_for}
use Rattle.history_course_laws.proofs.Lasting.{settled_held}
use Rattle.history_short_laws.specs.Based.{latest_number, carries_latest, short_of, Based, wanted_of}
use Rattle.history_short_laws.specs.Bases.{last_latest, last_carries}
use Rattle.history_short_laws.specs.Telling.{told_orderly, its_slot, its_runs, its_number, its_updates, HolderLast, holder_last, kept_some, kept_number}
use Rattle.history_short_laws.specs.Recipe.{upto_target}

-- ---- (0, 0)

pub start_is : (p : Position) → is_start p ≡ true → p ≡ start
start_is p h =
    ap₂ (λ (v k : ℕ). record { view = record { 0 = v }; k = k }) (eqb-true p.view.0 0 (and_left (eqb p.view.0 0) (eqb p.k 0) h))
    (eqb-true p.k 0 (and_right (eqb p.view.0 0) (eqb p.k 0) h))

-- and it is past it
pub past_start : {A : Type 0} (q : Position) → 1 ≤ q.k → not_after q start ≡ true → A
past_start q l h =
    let z : q.view.0 ≡ 0 = omega (arith, order_views q start h) in
    absurd (omega (arith, order_places q start z h))

-- ---- tests

pub and_yes : (b : Bool) → (b && true) ≡ b
and_yes true = refl
and_yes false = refl

pub or_no : (b : Bool) → (b || false) ≡ b
or_no true = refl
or_no false = refl

pub and_first : (x : Bool) {b y : Bool} (z : Bool) → b ≡ true → y ≡ true → (x && cond b y z) ≡ x
and_first x z e f = rw (e, f) (and_yes x)

pub and_second : (x : Bool) {b z : Bool} (y : Bool) → b ≡ false → z ≡ true → (x && cond b y z) ≡ x
and_second x y e f = rw (e, f) (and_yes x)

-- ---- one restart

module _ (σ : List ℕ) (v : Layout) (t : Termination) (held : ℕ) (d : List ℕ) (few : shards σ ≤ 16) (wide : v.members < 2 ^ 32)
    (slots : slots_ok σ v t held d ≡ true) (met : QuorumMet σ v t held d) (H : History) (sup : Supposed σ v held d (short_of H))
    (orderly : Orderly H) where
  -- the holder of a shard carries it in the last view
  pub last_holder : (s : ℕ) → s < shards σ → HolderLast σ v t held d few wide slots met H (short_of H).updated sup orderly s
  last_holder s l = holder_last σ v t held d few wide slots met H (short_of H).updated sup orderly s l

  kept_is_last : v.number.0 ≡ number_at H (last_of H)
  kept_is_last = kept_number σ v t held d few wide slots met H (short_of H).updated sup orderly

  some_view : 0 < length H.views
  some_view = kept_some σ v t held d few wide slots met H (short_of H).updated sup orderly

  -- what a held node's short report tells
  module _ (n : ℕ) (small : n < 32) (is_held : has held n ≡ true) where
    pub short_runs : (s : ℕ) → s < shards σ → runs.Runs (report_of d n).body (report_of d n).len s
    short_runs s l = its_runs σ v t held d few slots H (short_of H).updated sup.true_reports n small is_held s l

    short_own : (s : ℕ) → s < shards σ → (p : Position) → holds_at d s p n ≡ true → (carries_latest H s n ≡ true) × (p.view.0 ≡ latest_number H n)
    short_own s l p h =
        let all = sym (its_updates σ v t held d few slots H (short_of H).updated sup.true_reports n small is_held s l p) ∙ h in
        let rest = and_right (carries_latest H s n) (eqb p.view.0 (latest_number H n) && H.updated n s p) all in (
          and_left (carries_latest H s n) (eqb p.view.0 (latest_number H n) && H.updated n s p) all,
          eqb-true p.view.0 (latest_number H n) (and_left (eqb p.view.0 (latest_number H n)) (H.updated n s p) rest),
        )

    pub short_told : (s : ℕ) → s < shards σ → (p : Position) → carries_latest H s n ≡ true → p.view.0 ≡ latest_number H n
        → holds_at d s p n ≡ H.updated n s p
    short_told s l p c e =
        its_updates σ v t held d few slots H (short_of H).updated sup.true_reports n small is_held s l p
        ∙ rw (c, eq-eqb p.view.0 (latest_number H n) e)

  -- the target is (0, 0), or an update of the kept view
  target_cases : (s : ℕ) → s < shards σ → (target v t held d s ≡ start) ⊎
      (((target v t held d s).view.0 ≡ v.number.0) × (1 ≤ (target v t held d s).k))
  target_cases s l =
      let h : ℕ = holder v t held d s in
      let o = last_holder s l in
      let has_it = able_has v t held d s h (holder_given v t held d s (met.holders s l)).picked in
      ⊎_elim (λ e. inl e)
      (λ e. inr (
        (short_own h o.small o.is_held s l (target v t held d s) e).1 ∙ o.number,
        (runs.held_given (report_of d h).body (report_of d h).len s (target v t held d s) e).from,
      ))
      (runs.has_cases (report_of d h).body (report_of d h).len s (target v t held d s) has_it)

  -- no update of an earlier view is past it
  older_upto : (s : ℕ) → s < shards σ → (q : Position) → q.view.0 < v.number.0 → (upto_target σ v t held d few wide slots met H sup orderly) s q ≡ true
  older_upto s l q o =
      cond_of (λ (b : Bool). b ≡ true) (is_start (target v t held d s)) (λ e. lt-ltb q.view.0 v.number.0 o)
      (λ e. ⊎_elim (λ z. clash (subst⁻¹ (λ (p : Position). is_start p ≡ true) z refl) e)
      (λ z. order_of q (target v t held d s) (inl (omega (arith, z.0)))) (target_cases s l))

  -- what is settled is in the holder's log up to the target
  pub settled_wanted : Covers σ t (short_of H) → (s : ℕ) → s < shards σ → (p : Position) → 1 ≤ p.k → p.view.0 ≤ number_at H (last_of H)
      → Settled H s p
      → wanted_of v t held d H s p ≡ true
  settled_wanted ended s l p from no_later settled =
      and_both (settled.all (holder v t held d s) o.small o.member o.logged)
      (⊎_elim (λ e. older_upto s l p (omega (arith, kept_is_last))) (λ e. in-last (omega (arith, e, kept_is_last)))
      (lt_or_le p.view.0 (number_at H (last_of H))))
    where
      o : HolderLast σ v t held d few wide slots met H (short_of H).updated sup orderly s
      o = last_holder s l

      in-last : p.view.0 ≡ number_at H (last_of H) → (upto_target σ v t held d few wide slots met H sup orderly) s p ≡ true
      in-last e =
          let told : Settled (short_of H) s p =
          record {
            all = λ n k m h.
                let number : p.view.0 ≡ latest_number H n = e ∙ sym (ap (λ (i : ℕ). number_at H i) (last_latest H n some_view h)) in
                and_both (last_carries H s n some_view m h) (and_both (eq-eqb p.view.0 (latest_number H n) number) (settled.all n k m h));
          } in
          let reached = (settled_held σ v t held d few wide slots met (short_of H) sup
          (told_orderly (short_of H).updated orderly).succeeded ended s l p told).0 in
          cond_of (λ (b : Bool). b ≡ true) (is_start (target v t held d s))
          (λ z. past_start p from (subst (λ (q : Position). not_after p q ≡ true) (start_is (target v t held d s) z) reached)) (λ z. reached)

  -- a held node
  module _ (s : ℕ) (below : s < shards σ) (n : ℕ) (small : n < 32) (is_held : has held n ≡ true) where
    pub latest_no_later : latest_number H n ≤ v.number.0
    latest_no_later =
        omega (
          arith,
          its_number σ v t held d few slots H (short_of H).updated sup.true_reports n small is_held,
          (its_slot σ v t held d few slots H (short_of H).updated sup.true_reports n small is_held).no_later,
        )

    abbrev pub its_cut : Position
    its_cut = cut_for v t held d n s

    -- a cut that is not (0, 0) is an update of the kept view
    pub record CutKept : Type 0 where
      pub carries : carries_latest H s n ≡ true
      pub number : latest_number H n ≡ v.number.0
      pub view : its_cut.view.0 ≡ v.number.0
      pub update : 1 ≤ its_cut.k

    pub cut_of_kept : is_start its_cut ≡ false → CutKept
    cut_of_kept z =
        let h = last_holder s below in
        let c = report_of d n in
        let g = report_of d (holder v t held d s) in
        let mine = short_runs n small is_held s below in
        let its = short_runs (holder v t held d s) h.small h.is_held s below in
        let a : holds_at d s its_cut n ≡ true =
        ⊎_elim (λ e. clash (subst⁻¹ (λ (p : Position). is_start p ≡ true) e refl) z) (λ e. e)
        (cut_kept c.body c.len g.body g.len s (target v t held d s) mine its) in
        let b : holds_at d s its_cut (holder v t held d s) ≡ true =
        ⊎_elim (λ e. clash (subst⁻¹ (λ (p : Position). is_start p ≡ true) e refl) z) (λ e. e)
        (cut_held c.body c.len g.body g.len s (target v t held d s) mine its) in
        let x = short_own n small is_held s below its_cut a in
        let y = short_own (holder v t held d s) h.small h.is_held s below its_cut b in
        record {
          carries = x.0;
          number = sym x.1 ∙ (y.1 ∙ h.number);
          view = y.1 ∙ h.number;
          update = (runs.held_given c.body c.len s its_cut a).from;
        }

    -- so that of a node that reported an earlier view is (0, 0), and that of one that does not carry the shard
    pub stale_cut : (view_of d n ≡ v.number.0 → ⊥) → cut_for v t held d n s ≡ start
    stale_cut other =
        ⊎_elim (λ z. start_is its_cut z)
        (λ z. absurd (other (its_number σ v t held d few slots H (short_of H).updated sup.true_reports n small is_held ∙ (cut_of_kept z).number)))
        (either (is_start its_cut))

    pub idle_cut : carries_latest H s n ≡ false → cut_for v t held d n s ≡ start
    idle_cut none = ⊎_elim (λ z. start_is its_cut z) (λ z. clash (cut_of_kept z).carries none) (either (is_start its_cut))

    -- if it does as the recipe says, it has the holder's log up to the target
    module _ (based : Based (shards σ) H) where
      pub agrees_base : (q : Position) → 1 ≤ q.k → carries_latest H s n ≡ true → q.view.0 < latest_number H n → q.view.0 < v.number.0
          → H.updated n s q ≡ wanted_of v t held d H s q
      agrees_base q from c o k =
          let h = last_holder s below in
          based.same s below n (holder v t held d s) small h.small c h.carries q from o (omega (arith, h.number))
          ∙ sym (rw (older_upto s below q k) (and_yes (H.updated (holder v t held d s) s q)))
