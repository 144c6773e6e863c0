-- A group that keeps the rule follows a course. The latest attempt alone can still come to count: the machines of two plans from one history are
-- both more than half of its last view's members, so one of them is in both and has reported without the older plan's view. So when all
-- members of a view have it, the history it was planView from is the present one. And a list on disk is the list of the views that counted
-- before, since a plan's kept view is the last of them.
use Rattle.std.specs.Prelude.{ℕ, ◌+◌, ◌*◌, ◌<◌, ◌≤◌, Bool, true, false, cond, not, List, [], ◌∷◌, ◌++◌, ◌≡◌, refl, eqb, length, get_or, take}
use Rattle.std.proofs.Common.{⊎_elim, sym, ap, ◌∙◌, subst, arith, eqb-true, ne_eqb, eq-eqb, length-append, take-suc}
use Rattle.std.proofs.Math.Path.{subst⁻¹}
use Rattle.std.specs.Int.Bits.{bit_and}
use Rattle.std.proofs.Math.ListN.{get_or-append}
use Rattle.std.proofs.Math.Seq.{take-length, take-append_seam}
use Rattle.std.proofs.lemmas.List.{take-append-le, get_or_at}
use Rattle.base_laws.specs.Bools.{clash, and_left, no_true, lt_or_le, or-holds, or_left}
use Rattle.base_laws.specs.Definitions.{has, count}
use Rattle.base_laws.specs.Masks.{has_zero, has_with, has_without, quorums_meet}
use Rattle.report_views.specs.declared.Layout.{Layout}
use Rattle.report_views.specs.Definitions.{no_view}
use Rattle.history_laws.specs.Definitions.{History, Listed, view_at, members_at}
use Rattle.history_course_laws.specs.Course.{last_of, Orderly, CarriedOut}
use Rattle.history_course_laws.specs.Ever.{Restart, Course, here, running, carrying}
use Rattle.history_course_laws.proofs.Ever.{stands_on}
use Rattle.history_course_laws.specs.Counting.{Copies, now, got, went, forgot, all_have, still_apart, still_lacks, counted_carried}
use Rattle.history_course_laws.proofs.Counting.{still_have}
use Rattle.history_rule_laws.specs.Disks.{Attempt, plan_view, attempted, seen_on, counting, Each, each_none, each_more, AllWithout, Passing, pass_none, pass_more, Counted, Idle, listing, Disks, first, plans, passes, counted, served}
use Rattle.history_rule_laws.specs.Ruled.{kept_place, held_most, last_wide, of_held, Closed, Machines, InHistory, ReportedWithout, Overtaken, OnlyLatest, latest_is, latest_none, Ruled, each_head}

-- ---- each of a list

each_map : {A : Type 0} {P Q : A → Type 0} → ((x : A) → P x → Q x) → {l : List A} → Each P l → Each Q l
each_map f each_none = each_none
each_map f (each_more x l p e) = each_more x l (f x p) (each_map f e)

each_zip : {A : Type 0} {P Q R : A → Type 0} → ((x : A) → P x → Q x → R x) → {l : List A} → Each P l → Each Q l → Each R l
each_zip f each_none e = each_none
each_zip f (each_more x l p d) (each_more _ _ q e) = each_more x l (f x p q) (each_zip f d e)

each_pass : {S : ℕ} {P Q : Attempt S → Type 0}
    → ((a : Attempt S) (have out : ℕ) → Copies (plan_view a).members a.have a.out have out → P a → Q (seen_on a have out))
    → {l u : List (Attempt S)} → Passing l u → Each P l → Each Q u
each_pass f pass_none e = each_none
each_pass f (pass_more a have out l u c z) (each_more _ _ p e) = each_more (seen_on a have out) u (f a have out c p) (each_pass f z e)

-- ---- what disks do with one view

out_grows : {m a o : ℕ} {have out : ℕ} → Copies m a o have out → (n : ℕ) → has o n ≡ true → has out n ≡ true
out_grows now n h = h
out_grows (got have out k i f c) n h = out_grows c n h
out_grows (went have out k f c) n h = has_with out k n ∙ or_left (eqb k n) (out_grows c n h)
out_grows (forgot have out k j u w c) n h = has_with out k n ∙ or_left (eqb k n) (out_grows c n h)

still_own : (m : ℕ) {a o have out : ℕ} → ((n : ℕ) → has a n ≡ true → has m n ≡ true) → Copies m a o have out → (n : ℕ) → has have n ≡ true → has m n ≡ true
still_own m own now n h = own n h
still_own m own (got have out k i f c) n h =
    ⊎_elim (λ z. still_own m own c n z) (λ e. subst (λ (x : ℕ). has m x ≡ true) (eqb-true k n e) i) (or-holds (has have n) (eqb k n) (sym (has_with have k n) ∙ h))
still_own m own (went have out k f c) n h = still_own m own c n h
still_own m own (forgot have out k j u w c) n h = still_own m own c n (and_left (has have n) (not (eqb k n)) (sym (has_without have k n) ∙ h))

-- ---- a plan from an orderly history

module _ {S : ℕ} {G : History} (o : Orderly G) (r : Restart S G) where
  -- its members are the machines that are held
  held-of : (n : ℕ) → has r.w.members n ≡ true → has r.held n ≡ true
  held-of n h = subst (λ (m : ℕ). has m n ≡ true) r.next.members h

-- ---- from one step to the next

-- a history with the same views, or with one more
same_in : {S : ℕ} {G K : History} → K.views ≡ G.views → (a : Attempt S) → InHistory G a → InHistory K a
same_in {S} {G} {K} e a h =
    record {
      orderly = h.orderly;
      short = subst⁻¹ (λ (v : List Layout). length a.since.views ≤ length v) e h.short;
      begins = subst⁻¹ (λ (v : List Layout). a.since.views ≡ take (length a.since.views) v) e h.begins;
      listed = h.listed;
      stands = λ c. subst⁻¹ (λ (v : List Layout). (length a.since.views < length v) × (get_or v (length a.since.views) no_view ≡ plan_view a)) e (h.stands c);
    }

more_in : {S : ℕ} {G K : History} (w : Layout) → K.views ≡ G.views ++ w ∷ [] → (a : Attempt S) → InHistory G a → InHistory K a
more_in {S} {G} {K} w e a h =
    let longer : length (G.views ++ w ∷ []) ≡ length G.views + 1 = length-append G.views (w ∷ []) in
    record {
      orderly = h.orderly;
      short = subst⁻¹ (λ (v : List Layout). length a.since.views ≤ length v) e (omega (arith, longer, h.short));
      begins =
          subst⁻¹ (λ (v : List Layout). a.since.views ≡ take (length a.since.views) v) e
          (h.begins ∙ sym (take-append-le (length a.since.views) G.views (w ∷ []) h.short));
      listed = h.listed;
      stands = λ c.
          subst⁻¹ (λ (v : List Layout). (length a.since.views < length v) × (get_or v (length a.since.views) no_view ≡ plan_view a)) e
          (omega (arith, longer, h.short), get_or-append G.views (w ∷ []) no_view (length a.since.views) (h.stands c).0 ∙ (h.stands c).1);
    }

-- what disks do meanwhile
pass_machines : {S : ℕ} (a : Attempt S) (have out : ℕ) → Copies (plan_view a).members a.have a.out have out → Machines a → Machines (seen_on a have out)
pass_machines a have out c h =
    record {
      apart = still_apart h.apart c;
      own = still_own (plan_view a).members h.own c;
      all = λ k. still_have h.apart (h.all k) c;
    }

pass_closed : {S : ℕ} {l u : List (Attempt S)} → Passing l u → Each Machines l → Each Closed l → Each Closed u
pass_closed p m e =
    each_pass
    (λ a have out c (h : Machines a × Closed a). record { lacks = λ k. still_lacks h.0.apart (h.1.lacks k) c })
    p (each_zip (λ a x y. (x, y)) m e)

pass_replaced : {S : ℕ} (a : Attempt S) (have out : ℕ) {l u : List (Attempt S)} → Passing l u → Each (ReportedWithout a) l → Each (ReportedWithout (seen_on a have out)) u
pass_replaced a have out p e =
    each_pass (λ x more gone c (h : ReportedWithout a x). record { earlier = h.earlier; without = λ k n l i. out_grows c n (h.without k n l i) }) p e

pass_latest : {S : ℕ} {G : History} {l u : List (Attempt S)} → Passing l u → Each Machines l → OnlyLatest G l → OnlyLatest G u
pass_latest pass_none m latest_none = latest_none
pass_latest (pass_more a have out l u c p) (each_more _ _ m ms) (latest_is _ _ live rest older) =
    latest_is (seen_on a have out) u live (pass_closed p ms rest) (pass_replaced a have out p older)

-- ---- a leader plans

module _ {S : ℕ} {G : History} (o : Orderly G) (r : Restart S G) where
  -- an attempt under way is closed by a plan without it
  plan_closes : (b : Attempt S) → Orderly b.since → (b.counts ≡ false → b.since ≡ G) → AllWithout r.held b → Closed b
  plan_closes b ob live w =
      record {
        lacks = λ c.
            let mine : count (members_at G (last_of G)) < 2 * count (bit_and b.plan.held (members_at G (last_of G))) =
            subst (λ (X : History). count (members_at X (last_of X)) < 2 * count (bit_and b.plan.held (members_at X (last_of X)))) (live c) (held_most ob b.plan) in
            let z = quorums_meet 32 b.plan.held r.held (members_at G (last_of G)) (last_wide o r) mine (held_most o r) in
            record { one = z.0; member = of_held ob b.plan z.0 z.2; lacks = w.asked c z.0 z.1 z.3 };
      }

  plan_latest : {l : List (Attempt S)} → Each (InHistory G) l → OnlyLatest G l → Each (AllWithout r.held) l → Each Closed l
  plan_latest p latest_none w = each_none
  plan_latest (each_more _ _ p ps) (latest_is b l live rest older) (each_more _ _ w ws) = each_more b l (plan_closes b p.orderly live w) rest

  -- a view that stands in the history was planned from a shorter one
  plan_replaces : (before : List Layout) {l : List (Attempt S)} → Each (InHistory G) l → Each (AllWithout r.held) l → Each (ReportedWithout (attempted G r before)) l
  plan_replaces before p w =
      each_zip
      (λ b (h : InHistory G b) (k : AllWithout r.held b).
      record {
        earlier = h.short;
        without = λ e n l i.
            k.asked (no_true b.counts (λ c. absurd (omega (arith, (h.stands c).0, e)))) n l (held-of o r n i);
      })
      p w

  -- the list that goes with the plan's view is the list of all views so far
  plan_list : (lists : ℕ → List Layout) → ((i : ℕ) → i < length G.views → lists i ≡ take i G.views) → (place : ℕ) → Listed r.σ G r.v place
      → lists place ++ view_at G place ∷ [] ≡ G.views
  plan_list lists told place at =
      ap (λ (x : List Layout). x ++ view_at G place ∷ []) (told place at.listed)
      ∙ sym (take-suc G.views place no_view at.listed)
      ∙ ap (λ (k : ℕ). take k G.views) (kept_place o r place at)
      ∙ take-length G.views

each_tail : {A : Type 0} {P : A → Type 0} {x : A} {l : List A} → Each P (x ∷ l) → Each P l
each_tail (each_more _ _ p e) = e

live_of : {S : ℕ} {G : History} {a : Attempt S} {l : List (Attempt S)} → OnlyLatest G (a ∷ l) → a.counts ≡ false → a.since ≡ G
live_of (latest_is _ _ live rest older) = live

rest_of : {S : ℕ} {G : History} {a : Attempt S} {l : List (Attempt S)} → OnlyLatest G (a ∷ l) → Each Closed l
rest_of (latest_is _ _ live rest older) = rest

older_of : {S : ℕ} {G : History} {a : Attempt S} {l : List (Attempt S)} → OnlyLatest G (a ∷ l) → Each (ReportedWithout a) l
older_of (latest_is _ _ live rest older) = older

-- the view that counts now stands where attempts from the same history would have stood
count_overtakes : {S : ℕ} {G K : History} (a : Attempt S) → length a.since.views ≡ length G.views → K.views ≡ G.views ++ plan_view a ∷ []
    → (b : Attempt S) → ReportedWithout a b → InHistory G b → Overtaken G b → Overtaken K b
count_overtakes {S} {G} {K} a size views b r h v =
    record {
      without = subst⁻¹
          (λ (u : List Layout). b.counts ≡ false → length b.since.views < length u → (n : ℕ) → n < 32
          → has (get_or u (length b.since.views) no_view).members n ≡ true → has b.out n ≡ true)
          views
          (λ c k n l m.
          ⊎_elim
          (λ q. v.without c q n l (subst (λ (x : Layout). has x.members n ≡ true) (get_or-append G.views (plan_view a ∷ []) no_view (length b.since.views) q) m))
          (λ q.
          let e : length G.views ≡ length b.since.views = omega (arith, h.short) in
          r.without (omega (arith, size)) n l
          (subst (λ (x : Layout). has x.members n ≡ true) (get_or_at G.views (plan_view a) [] no_view (length b.since.views) e) m))
          (lt_or_le (length b.since.views) (length G.views)));
    }

-- the lists with the new view's
told_more : (v : List Layout) (w : Layout) (lists : ℕ → List Layout) (before : List Layout) → ((i : ℕ) → i < length v → lists i ≡ take i v) → before ≡ v
    → (i : ℕ) → i < length (v ++ w ∷ []) → listing lists (length v) before i ≡ take i (v ++ w ∷ [])
told_more v w lists before told e i l =
    ⊎_elim
    (λ k. ap (λ (b : Bool). cond b before (lists i)) (ne_eqb i (length v) (λ f. omega (arith, f))) ∙ told i k ∙ sym (take-append-le i v (w ∷ []) (omega arith)))
    (λ k.
    let f : i ≡ length v = omega (arith, length-append v (w ∷ [])) in
    ap (λ (b : Bool). cond b before (lists i)) (eq-eqb i (length v) f) ∙ e ∙ sym (take-append_seam v (w ∷ [])) ∙ ap (λ (n : ℕ). take n (v ++ w ∷ [])) (sym f))
    (lt_or_le i (length v))

-- ---- a group that keeps the rule

module _ {S : ℕ} {H : History} (o : Orderly H) where
  -- the rule keeps
  pub ruled : {G : History} {lists : ℕ → List Layout} {l : List (Attempt S)} → Disks S H G lists l → Ruled S H G lists l
  ruled first =
      record { course = here; told = λ i l. refl; latest = latest_none; machines = each_none; placed = each_none; overtaken = each_none }
  ruled (plans G lists l d r w place at) =
      let z = ruled d in
      let g : Orderly G = stands_on o z.course in
      let a : Attempt S = attempted G r (lists place ++ view_at G place ∷ []) in
      record {
        course = z.course;
        told = z.told;
        latest =
            latest_is a l (λ c. refl) (plan_latest g r z.placed z.latest w)
            (plan_replaces g r (lists place ++ view_at G place ∷ []) z.placed w);
        machines =
            each_more a l
            (record {
              apart = record { never = λ n h. has_zero n };
              own = λ n h. clash h (has_zero n);
              all = λ c. clash c refl;
            })
            z.machines;
        placed =
            each_more a l
            (record {
              orderly = g;
              short = omega arith;
              begins = sym (take-length G.views);
              listed = plan_list g r lists z.told place at;
              stands = λ c. clash c refl;
            })
            z.placed;
        overtaken = each_more a l (record { without = λ c k. absurd (omega arith) }) z.overtaken;
      }
  ruled (passes G lists l u d p) =
      let z = ruled d in
      record {
        course = z.course;
        told = z.told;
        latest = pass_latest p z.machines z.latest;
        machines = each_pass pass_machines p z.machines;
        placed =
            each_pass
            (λ a have out c (h : InHistory G a).
            record { orderly = h.orderly; short = h.short; begins = h.begins; listed = h.listed; stands = h.stands })
            p z.placed;
        overtaken = each_pass (λ a have out c (h : Overtaken G a). record { without = λ k q n l m. out_grows c n (h.without k q n l m) }) p z.overtaken;
      }
  ruled (counted G K lists a l d c all k) = count_step G K lists a l (ruled d) c all k
    where
      count_step : (G K : History) (lists : ℕ → List Layout) (a : Attempt S) (l : List (Attempt S)) → Ruled S H G lists (a ∷ l) → a.counts ≡ false
          → all_have (plan_view a).members a.have ≡ true → Counted a K → Ruled S H K (listing lists (length G.views) a.before) (counting a ∷ l)
      count_step G K lists a l z c all k =
          let e : a.since ≡ G = live_of z.latest c in
          let views : K.views ≡ G.views ++ plan_view a ∷ [] = subst (λ (X : History). K.views ≡ X.views ++ plan_view a ∷ []) e k.views in
          let h : InHistory G a = each_head z.placed in
          let there : InHistory K a = more_in (plan_view a) views a h in
          let size : length a.since.views ≡ length G.views = ap (λ (X : History). length X.views) e in
          let done : CarriedOut a.plan.σ a.plan.v a.plan.t a.plan.held a.plan.d (plan_view a) a.since K =
          counted_carried a.plan.σ a.plan.v a.plan.t a.plan.held a.plan.d a.plan.met (plan_view a) a.plan.next a.since K
          k.views k.remembered k.ordered a.have k.logs all in
          record {
            course = carrying a.since K (subst⁻¹ (λ (X : History). Course S H X) e z.course) a.plan done;
            told =
                subst⁻¹ (λ (v : List Layout). (i : ℕ) → i < length v → listing lists (length G.views) a.before i ≡ take i v) views
                (told_more G.views (plan_view a) lists a.before z.told (h.listed ∙ ap (λ (X : History). X.views) e));
            latest =
                latest_is (counting a) l (λ x. clash refl x) (rest_of z.latest)
                (each_map (λ b (x : ReportedWithout a b). record { earlier = x.earlier; without = x.without }) (older_of z.latest));
            machines =
                let m = each_head z.machines in
                each_more (counting a) l (record { apart = m.apart; own = m.own; all = λ x. all }) (each_tail z.machines);
            placed =
                each_more (counting a) l
                (record {
                  orderly = h.orderly;
                  short = there.short;
                  begins = there.begins;
                  listed = h.listed;
                  stands = λ x.
                      subst⁻¹ (λ (v : List Layout). (length a.since.views < length v) × (get_or v (length a.since.views) no_view ≡ plan_view a)) views
                      (omega (arith, size, length-append G.views (plan_view a ∷ [])), get_or_at G.views (plan_view a) [] no_view (length a.since.views) (sym size));
                })
                (each_map (more_in (plan_view a) views) (each_tail z.placed));
            overtaken =
                each_more (counting a) l (record { without = λ x. clash refl x })
                (each_zip (λ b (x : ReportedWithout a b) (y : InHistory G b × Overtaken G b). count_overtakes a size views b x y.0 y.1) (older_of z.latest)
                (each_zip (λ b x y. (x, y)) (each_tail z.placed) (each_tail z.overtaken)));
          }
  ruled (served G K lists l d idle s e) =
      let z = ruled d in
      record {
        course = running G K z.course s;
        told = subst⁻¹ (λ (v : List Layout). (i : ℕ) → i < length v → lists i ≡ take i v) e z.told;
        latest = idle_latest idle z.latest;
        machines = z.machines;
        placed = each_map (same_in e) z.placed;
        overtaken =
            each_map
            (λ a (h : Overtaken G a).
            record {
              without = subst⁻¹
                  (λ (v : List Layout). a.counts ≡ false → length a.since.views < length v → (n : ℕ) → n < 32
                  → has (get_or v (length a.since.views) no_view).members n ≡ true → has a.out n ≡ true) e h.without;
            })
            z.overtaken;
      }
    where
      idle_latest : {G K : History} {l : List (Attempt S)} → Idle l → OnlyLatest G l → OnlyLatest K l
      idle_latest idle latest_none = latest_none
      idle_latest idle (latest_is a l live rest older) = latest_is a l (λ c. clash (idle.latest a l refl) c) rest older

  -- the list on disk with a view that counts has the views before it, and no others
  pub lists_tell : {G : History} {lists : ℕ → List Layout} {l : List (Attempt S)} → Disks S H G lists l → (i : ℕ) → i < length G.views
      → lists i ≡ take i G.views
  lists_tell d = (ruled d).told
