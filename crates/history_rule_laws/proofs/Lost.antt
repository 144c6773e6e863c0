-- A member of an open view whose disk is lost for ever cannot be asked. Where the machines that have the view are more than half of the members
-- of the view before it, no other view stands in its place and none can: every plan from that view would have held one of them, and that one
-- would have reported without it. So it may be taken to count, and the course goes on.
use Rattle.std.specs.Prelude.{ℕ, suc, ◌-◌, ◌*◌, ◌<◌, true, false, List, ◌≡◌, length, get_or}
use Rattle.std.proofs.Common.{⊎_elim, sym, ap, ◌∙◌, subst, arith, get_or-take}
use Rattle.std.proofs.Math.Path.{subst⁻¹}
use Rattle.std.specs.Int.Bits.{bit_and}
use Rattle.base_laws.specs.Bools.{clash, either, lt_or_le}
use Rattle.base_laws.specs.Definitions.{has, count}
use Rattle.base_laws.specs.Masks.{quorums_meet}
use Rattle.report_views.specs.declared.Layout.{Layout}
use Rattle.report_views.specs.Definitions.{no_view}
use Rattle.history_laws.specs.Definitions.{History, members_at}
use Rattle.history_course_laws.specs.Course.{last_of, Orderly}
use Rattle.history_course_laws.specs.Ever.{Course, carrying}
use Rattle.history_course_laws.proofs.Ever.{stands_on}
use Rattle.history_course_laws.specs.Counting.{enough_carried}
use Rattle.history_rule_laws.specs.Disks.{Attempt, plan_view, Each, Counted, Disks}
use Rattle.history_rule_laws.specs.Sent.{ElementOf, among_first, among_later}
use Rattle.history_rule_laws.specs.Ruled.{Machines, InHistory, ReportedWithout, OnlyLatest, latest_is, Ruled, number_next, kept_members, held_most, last_wide, of_held, each_head}
use Rattle.history_rule_laws.proofs.Ruled.{ruled}
use Rattle.history_rule_laws.proofs.Found.{each_at}
use Rattle.history_rule_laws.specs.Lost.{MostHave}

module _ {S : ℕ} {H : History} (o : Orderly H) {G : History} {lists : ℕ → List Layout} {l : List (Attempt S)} (disks : Disks S H G lists l)
    (a : Attempt S) (at : ElementOf a l) (under : a.counts ≡ false) (enough : MostHave a) where
  z : Ruled S H G lists l
  z = ruled o disks

  g : Orderly G
  g = stands_on o z.course

  h : InHistory G a
  h = each_at at z.placed

  m : Machines a
  m = each_at at z.machines

  abbrev before : ℕ
  before = members_at a.since (last_of a.since)

  -- no other machines that are more than half of the view before have all reported without it
  meets : (w : ℕ) → count before < 2 * count (bit_and w before) → ((n : ℕ) → n < 32 → has w n ≡ true → has a.out n ≡ true) → ⊥
  meets w most out =
      let q = quorums_meet 32 w a.have before (last_wide h.orderly a.plan) most enough.most in
      clash (out q.0 q.1 q.2) (m.apart.never q.0 q.3)

  same_before : members_at G (last_of a.since) ≡ before
  same_before =
      sym (ap (λ (u : List Layout). (get_or u (last_of a.since) no_view).members) h.begins
      ∙ ap (λ (v : Layout). v.members) (get_or-take (length a.since.views) G.views (last_of a.since) no_view (omega (arith, (number_next h.orderly a.plan).0))))

  -- no view stands in its place
  whole : length a.since.views ≡ length G.views
  whole =
      ⊎_elim
      (λ q.
      absurd
      (meets (members_at G (length a.since.views))
      (let e : suc (last_of a.since) ≡ length a.since.views = omega (arith, (number_next h.orderly a.plan).0) in
      subst (λ (b : ℕ). count b < 2 * count (bit_and (members_at G (length a.since.views)) b)) same_before
      (subst (λ (k : ℕ). count (members_at G (last_of a.since)) < 2 * count (bit_and (members_at G k) (members_at G (last_of a.since)))) e
      (g.rule.overlaps (last_of a.since) (omega (arith, e)))))
      (λ n k i. (each_at at z.overtaken).without under q n k i)))
      (λ q. omega (arith, h.short))
      (lt_or_le (length a.since.views) (length G.views))

  -- it was planned from the present history
  pub still_open : a.since ≡ G
  still_open = by at z.latest z.placed
    where
      by : {u : List (Attempt S)} → ElementOf a u → OnlyLatest G u → Each (InHistory G) u → a.since ≡ G
      by (among_first u) (latest_is _ _ live rest older) p = live under
      by (among_later y u k) (latest_is _ _ live rest older) p =
          let r : ReportedWithout y a = each_at k older in
          let x : InHistory G y = each_head p in
          let size : length a.since.views ≡ length y.since.views = omega (arith, whole, r.earlier, x.short) in
          ⊎_elim
          (λ c. absurd (omega (arith, size, whole, (x.stands c).0)))
          (λ c.
          let e : y.since ≡ G = live c in
          let most : count (members_at G (last_of G)) < 2 * count (bit_and y.plan.held (members_at G (last_of G))) =
          subst (λ (X : History). count (members_at X (last_of X)) < 2 * count (bit_and y.plan.held (members_at X (last_of X)))) e (held_most x.orderly y.plan) in
          let same : members_at G (last_of G) ≡ before = ap (λ (k : ℕ). members_at G (k - 1)) (sym whole) ∙ same_before in
          absurd
          (meets y.plan.held (subst (λ (b : ℕ). count b < 2 * count (bit_and y.plan.held b)) same most)
          (λ n q i. r.without size n q (of_held x.orderly y.plan n i))))
          (either y.counts)

  -- so the restart counts as carried out
  pub enough_counts : (K : History) → Counted a K → Course S H K
  enough_counts K k =
      carrying a.since K (subst⁻¹ (λ (X : History). Course S H X) still_open z.course) a.plan
      (enough_carried a.plan.σ a.plan.v a.plan.t a.plan.held a.plan.d a.plan.met (plan_view a) a.plan.next a.since K
      k.views k.remembered k.ordered a.have k.logs
      (subst⁻¹ (λ (b : ℕ). count b < 2 * count (bit_and a.have b)) (kept_members h.orderly a.plan) enough.most))
