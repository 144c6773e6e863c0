-- What a leader finds of an open view is true: found sure, it counts or does so now that all its members have it; found never, it does not
-- count, and one of its members stays without it; no machines that keep the rule say both; and once every member has sent its views,
-- something is found.
use Rattle.std.specs.Prelude.{ℕ, ◌+◌, ◌<◌, ◌≤◌, Bool, not, ◌&&◌, List, ◌⊎◌, length, get_or, take}
use Rattle.std.proofs.Math.Bool.{true, false, cond}
use Rattle.std.proofs.Math.Logic.{inl, inr, ⊎_elim}
use Rattle.std.proofs.Math.Path.{◌≡◌, refl, sym, subst⁻¹}
use Rattle.std.proofs.Common.{ap, ◌∙◌, subst, length-take-le, get_or-take}
use native.Mathlib.Omega.{arith}
use borrow.Author.Tests.{ne_eqb, eqb-false}
use Rattle.std.specs.Int.Bits.{bit_and, bit_or}
use Rattle.std.proofs.Math.Dec.{eqb}
use Rattle.base_laws.specs.Bools.{clash, either, and_left, and_right, and_both, or-holds, or_right, or_fails_left, of_not_true, of_not_false, no_true, lt_or_le, eq_or_ne}
use Rattle.base_laws.specs.Definitions.{has, subset, disjoint}
use Rattle.base_laws.specs.Masks.{has_zero, has_or, has_and, subset_has, disjoint_has, subset_of, some_bit, width}
use Rattle.report_views.specs.declared.Layout.{Layout}
use Rattle.report_views.specs.Definitions.{no_view}
use Rattle.history_laws.specs.Definitions.{History, view_at, number_at, members_at}
use Rattle.history_open.specs.declared.Finding.TheVariants.{Sure, Never, Undecided, Contradicted}
use Rattle.history_open.specs.Definitions.{says_sure, says_never, judged}
use Rattle.history_course_laws.specs.Course.{last_of, Orderly}
use Rattle.history_course_laws.proofs.Ever.{stands_on}
use Rattle.history_course_laws.specs.Counting.{now, OneLacks, all_have}
use Rattle.history_course_laws.proofs.Counting.{never_both}
use Rattle.history_rule_laws.specs.Disks.{Attempt, plan_view, Each, each_more, Disks}
use Rattle.history_rule_laws.specs.Sent.{OneView, ElementOf, among_first, among_later, Known, as_sure, in-list, in-plan, PassedBy, Sent}
use Rattle.history_rule_laws.specs.Ruled.{Machines, InHistory, OnlyLatest, latest_is, Ruled, number_above, number_next}
use Rattle.history_rule_laws.proofs.Ruled.{ruled}

pub each_at : {A : Type 0} {P : A → Type 0} {x : A} {l : List A} → ElementOf x l → Each P l → P x
each_at (among_first l) (each_more _ _ p e) = p
each_at (among_later y l m) (each_more _ _ p e) = each_at m e

-- a view that does not count is under way, or one of its members has reported without it
open_or_lacks : {S : ℕ} {G : History} {a : Attempt S} {l : List (Attempt S)} → ElementOf a l → OnlyLatest G l → a.counts ≡ false
    → (a.since ≡ G) ⊎ OneLacks (plan_view a).members a.out
open_or_lacks (among_first l) (latest_is _ _ live rest older) c = inl (live c)
open_or_lacks (among_later y l m) (latest_is _ _ live rest older) c = inr ((each_at m rest).lacks c)

module _ {S : ℕ} {H : History} (o : Orderly H) {G : History} {lists : ℕ → List Layout} {l : List (Attempt S)} (disks : Disks S H G lists l)
    (a : Attempt S) (at : ElementOf a l) where
  z : Ruled S H G lists l
  z = ruled o disks

  g : Orderly G
  g = stands_on o z.course

  h : InHistory G a
  h = each_at at z.placed

  m : Machines a
  m = each_at at z.machines

  -- the list on disk with a plan's view has the views that counted when it was planned, and no others
  pub open_list_tells : a.before ≡ take (length a.since.views) G.views
  open_list_tells = h.listed ∙ h.begins

  -- an earlier view that stands on disk counts
  prefix_stands : (k : ℕ) (v : List Layout) → k ≤ length G.views → v ≡ take k G.views → (j : ℕ) → j < length v
      → (j < length G.views) × (view_at G j ≡ get_or v j no_view)
  prefix_stands k v short e j l =
      let size : length v ≡ k = ap (λ (u : List Layout). length u) e ∙ length-take-le k G.views short in
      (omega (arith, size), sym (ap (λ (u : List Layout). get_or u j no_view) e ∙ get_or-take k G.views j no_view (omega (arith, size))))

  pub known_stands : Known G lists l (plan_view a) → (i : ℕ) × (i < length G.views) × OneView (view_at G i) (plan_view a)
  known_stands (as_sure i k w) = (i, k, w)
  known_stands (in-list i j k q w) =
      let p = prefix_stands i (lists i) (omega arith) (z.told i k) j q in
      (j, p.0, subst⁻¹ (λ (v : Layout). OneView v (plan_view a)) p.1 w)
  known_stands (in-plan b j k q w) =
      let x : InHistory G b = each_at k z.placed in
      let p = prefix_stands (length b.since.views) b.before x.short (x.listed ∙ x.begins) j q in
      (j, p.0, subst⁻¹ (λ (v : Layout). OneView v (plan_view a)) p.1 w)

  -- the number is above those of the views before
  above : (i : ℕ) → i < length a.since.views → number_at G i < (plan_view a).number.0
  above i k =
      let same : view_at a.since i ≡ view_at G i =
      ap (λ (u : List Layout). get_or u i no_view) h.begins ∙ get_or-take (length a.since.views) G.views i no_view k in
      omega (arith, ap (λ (v : Layout). v.number.0) same, number_above h.orderly a.plan i k)

  -- a view that counts under its number stands where it would stand
  place_of : (i : ℕ) → i < length G.views → number_at G i ≡ (plan_view a).number.0 → i ≡ length a.since.views
  place_of i k e =
      let last : ℕ = last_of a.since in
      let next = number_next h.orderly a.plan in
      let same : view_at a.since last ≡ view_at G last =
      ap (λ (u : List Layout). get_or u last no_view) h.begins ∙ get_or-take (length a.since.views) G.views last no_view (omega (arith, next.0)) in
      let number : number_at G last + 1 ≡ (plan_view a).number.0 = omega (arith, next.1, ap (λ (v : Layout). v.number.0) same) in
      ⊎_elim
      (λ q. absurd (omega (arith, e, above i q)))
      (λ q.
      ⊎_elim (λ f. f)
      (λ f.
      absurd
      (omega (
        arith,
        e,
        number,
        g.rule.rises (length a.since.views) i (omega arith) k,
        g.rule.rises last (length a.since.views) (omega (arith, next.0)) (omega arith),
      )))
      (eq_or_ne i (length a.since.views)))
      (lt_or_le i (length a.since.views))

  -- a view that somebody has and somebody knows counts
  pub known_counts : (n : ℕ) → n < 32 → has a.have n ≡ true → Known G lists l (plan_view a) → a.counts ≡ true
  known_counts n small has_it k =
      let (i, inside, w) = known_stands k in
      let e : i ≡ length a.since.views = place_of i inside w.number in
      let member : has (members_at G (length a.since.views)) n ≡ true =
      subst (λ (j : ℕ). has (members_at G j) n ≡ true) e (subst⁻¹ (λ (x : ℕ). has x n ≡ true) w.members (m.own n has_it)) in
      ⊎_elim (λ c. c)
      (λ c.
      clash ((each_at at z.overtaken).without c (subst (λ (j : ℕ). j < length G.views) e inside) n small member)
      (m.apart.never n has_it))
      (either a.counts)

  -- a view that was passed by does not count, and one of its members has reported without it
  passed_lacks : PassedBy G lists (plan_view a) → OneLacks (plan_view a).members a.out
  passed_lacks p =
      ⊎_elim (λ c. absurd (standing c))
      (λ c. ⊎_elim (λ e. absurd (under_way e)) (λ x. x) (open_or_lacks at z.latest c))
      (either a.counts)
    where
      is : {v : Layout} → v ≡ plan_view a → OneView v (plan_view a)
      is e = record { number = ap (λ (x : Layout). x.number.0) e; members = ap (λ (x : Layout). x.members) e }

      standing : a.counts ≡ true → ⊥
      standing c =
          let (inside, same) = h.stands c in
          let place : ℕ = length a.since.views in
          let number : number_at G place ≡ (plan_view a).number.0 = ap (λ (x : Layout). x.number.0) same in
          ⊎_elim
          (λ q. absurd (omega (arith, number, p.later, g.rule.rises p.at place q inside)))
          (λ q.
          ⊎_elim
          (λ f. p.other (is (ap (λ (j : ℕ). view_at G j) f ∙ same)))
          (λ f.
          let told : lists p.at ≡ take p.at G.views = z.told p.at p.inside in
          let size : length (lists p.at) ≡ p.at =
          ap (λ (u : List Layout). length u) told ∙ length-take-le p.at G.views (omega (arith, p.inside)) in
          p.unlisted place (omega (arith, size))
          (is (ap (λ (u : List Layout). get_or u place no_view) told ∙ get_or-take p.at G.views place no_view (omega arith) ∙ same)))
          (eq_or_ne p.at place))
          (lt_or_le p.at place)

      under_way : a.since ≡ G → ⊥
      under_way e =
          let size : length a.since.views ≡ length G.views = ap (λ (X : History). length X.views) e in
          omega (arith, p.later, above p.at (omega (arith, size, p.inside)))

  -- ---- what a leader finds

  module _ (known have lack passed : ℕ) (s : Sent G lists l a known have lack passed) where
    abbrev members : ℕ
    members = (plan_view a).members

    bit_of : (x : ℕ) → not (eqb x 0) ≡ true → (n : ℕ) × (has x n ≡ true)
    bit_of x e = let w = some_bit x x (width x) (eqb-false x 0 (of_not_true (eqb x 0) e)) in (w.0, w.2)

    sure_right : says_sure members known have ≡ true → (a.counts ≡ true) ⊎ ((a.since ≡ G) × (all_have members a.have ≡ true))
    unfolding says_sure
    sure_right e =
        ⊎_elim
        (λ k. let w = bit_of known k in inl (known_counts s.one s.small s.has_it (s.knows w.0 w.1)))
        (λ k.
        let all : all_have members a.have ≡ true =
        subset_of members members a.have (width members) (λ n q i. s.holds n (subset_has members have (and_right (not (eqb members 0)) (subset members have) k) n i)) in
        ⊎_elim inl
        (λ c. ⊎_elim (λ f. inr (f, all)) (λ x. absurd (never_both m.apart now all x)) (open_or_lacks at z.latest c))
        (either a.counts))
        (or-holds (not (eqb known 0)) (not (eqb members 0) && subset members have) e)

    never_right : says_never members lack passed ≡ true → OneLacks members a.out
    unfolding says_never
    never_right e =
        ⊎_elim
        (λ k.
        let w = bit_of (bit_and members lack) k in
        record { one = w.0; member = (meets w.0 w.1).0; lacks = s.lacks w.0 (meets w.0 w.1).1 })
        (λ k. let w = bit_of passed k in passed_lacks (s.passes w.0 w.1))
        (or-holds (not (disjoint members lack)) (not (eqb passed 0)) e)
      where
        meets : (n : ℕ) → has (bit_and members lack) n ≡ true → (has members n ≡ true) × (has lack n ≡ true)
        meets n q = let both : (has members n && has lack n) ≡ true = sym (has_and members lack n) ∙ q in
            (and_left (has members n) (has lack n) both, and_right (has members n) (has lack n) both)

    -- a view that one of its members has reported without does not count
    lacking : OneLacks members a.out → a.counts ≡ false
    lacking x = no_true a.counts (λ c. absurd (never_both m.apart now (m.all c) x))

    -- found sure: it counts, or does so now, all its members having it
    pub found_sure : judged members known have lack passed ≡ Sure → (a.counts ≡ true) ⊎ ((a.since ≡ G) × (all_have members a.have ≡ true))
    unfolding judged
    found_sure e = ⊎_elim sure_right (λ f. absurd (none (says_never members lack passed) (says_sure members known have) f e)) (either (says_sure members known have))
      where
        none : (y x : Bool) → x ≡ false → cond x (cond y Contradicted Sure) (cond y Never Undecided) ≡ Sure → ⊥
        none true true f e = clash refl f
        none false true f e = clash refl f
        none true false f e = let k : ◌≡◌ {A = ℕ} 0 1 = cc in omega arith
        none false false f e = let k : ◌≡◌ {A = ℕ} 0 1 = cc in omega arith

    -- found never: it does not count, and one of its members has reported without it
    pub found_never : judged members known have lack passed ≡ Never → (a.counts ≡ false) × OneLacks members a.out
    unfolding judged
    found_never e =
        ⊎_elim (λ y. (lacking (never_right y), never_right y)) (λ f. absurd (none (says_sure members known have) (says_never members lack passed) f e))
        (either (says_never members lack passed))
      where
        none : (x y : Bool) → y ≡ false → cond x (cond y Contradicted Sure) (cond y Never Undecided) ≡ Never → ⊥
        none true true f e = clash refl f
        none false true f e = clash refl f
        none true false f e = let k : ◌≡◌ {A = ℕ} 0 1 = cc in omega arith
        none false false f e = let k : ◌≡◌ {A = ℕ} 0 1 = cc in omega arith

    -- machines that keep the rule never say both
    pub never_contradicted : judged members known have lack passed ≡ Contradicted → ⊥
    unfolding judged
    never_contradicted e = none (says_sure members known have) (says_never members lack passed) refl refl e
      where
        none : (x y : Bool) → says_sure members known have ≡ x → says_never members lack passed ≡ y → cond x (cond y Contradicted Sure) (cond y Never Undecided) ≡ Contradicted → ⊥
        none true true p q e =
            let w = never_right q in
            ⊎_elim (λ c. clash c (lacking w)) (λ c. never_both m.apart now c.1 w) (sure_right p)
        none true false p q e = let k : ◌≡◌ {A = ℕ} 0 1 = cc in omega arith
        none false true p q e = let k : ◌≡◌ {A = ℕ} 0 1 = cc in omega arith
        none false false p q e = let k : ◌≡◌ {A = ℕ} 0 1 = cc in omega arith

    -- once every member has sent its views, with it or without, something is found
    pub found_back : subset members (bit_or have lack) ≡ true → judged members known have lack passed ≡ Undecided → ⊥
    unfolding judged says_sure says_never
    found_back back e = none (says_sure members known have) (says_never members lack passed) refl refl e
      where
        some : eqb members 0 ≡ false
        some = ne_eqb members 0 (λ f. clash (subst (λ (x : ℕ). has x s.one ≡ true) f (m.own s.one s.has_it)) (has_zero s.one))

        sure : disjoint members lack ≡ true → subset members have ≡ true
        sure d =
            subset_of members members have (width members)
            (λ n q i.
            ⊎_elim (λ k. k) (λ k. clash k (disjoint_has members lack d n i))
            (or-holds (has have n) (has lack n) (sym (has_or have lack n) ∙ subset_has members (bit_or have lack) back n i)))

        none : (x y : Bool) → says_sure members known have ≡ x → says_never members lack passed ≡ y → cond x (cond y Contradicted Sure) (cond y Never Undecided) ≡ Undecided → ⊥
        none true true p q e = let k : ◌≡◌ {A = ℕ} 0 1 = cc in omega arith
        none true false p q e = let k : ◌≡◌ {A = ℕ} 0 1 = cc in omega arith
        none false true p q e = let k : ◌≡◌ {A = ℕ} 0 1 = cc in omega arith
        none false false p q e =
            let d : disjoint members lack ≡ true = of_not_false (disjoint members lack) (or_fails_left (not (disjoint members lack)) (not (eqb passed 0)) q) in
            clash (or_right (not (eqb known 0)) (and_both (ap (λ (b : Bool). not b) some) (sure d))) p
