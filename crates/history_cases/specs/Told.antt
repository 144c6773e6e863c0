-- Histories told by lists: the views, a mask of those that logged each of them, and as updates those that the reports on a desk hold.
-- What the claims suppose of such a history is a test, which the checker computes.
use Rattle.std.specs.Prelude.{ℕ, suc, ◌*◌, ◌<◌, Bool, true, false, not, ◌&&◌, ◌||◌, List, ◌≡◌, refl, eqb, leb, ltb, length, get_or}
use Rattle.std.proofs.Common.{⊎_elim, ap, subst, arith, eqb-true, eq-eqb, leb-true, ltb-true, lt-ltb, le-leb}
use Rattle.std.proofs.Math.Path.{subst⁻¹}
use Rattle.std.specs.Int.Bits.{bit_and}
use Rattle.base_laws.specs.Bools.{clash, and_both, and_left, and_right, or-holds, or_left, or_right, of_not_true, not_of_false, lt_or_le}
use Rattle.base_laws.specs.Definitions.{all_below, any_below, has, count}
use Rattle.base_laws.specs.Below.{all_at, all_of, any_at}
use Rattle.settings_values.specs.Definitions.{shards}
use Rattle.message_format.specs.Definitions.{members_of}
use Rattle.report_views.specs.declared.Layout.{Layout}
use Rattle.report_views.specs.Definitions.{no_view, holds, report_of, mask_at}
use Rattle.report_views.specs.Shorthands.{view_of}
use Rattle.history_laws.specs.Definitions.{History, KeepsRule, Full, ReportsViewAt, True, Listed, view_at, number_at, members_at}

abbrev pub told_by : List Layout → List ℕ → List ℕ → History
told_by views logs d =
    record {
      views = views;
      logged = λ n i. has (get_or logs i 0) n;
      updated = λ n s p. holds (report_of d n).body (report_of d n).len s p;
    }

-- where f holds of a node below 32, g does
abbrev pub implies : (ℕ → Bool) → (ℕ → Bool) → Bool
implies f g = all_below 32 (λ n. not (f n) || g n)

pub implies_at : (f g : ℕ → Bool) → implies f g ≡ true → (n : ℕ) → n < 32 → f n ≡ true → g n ≡ true
implies_at f g h n l e =
    ⊎_elim (λ no. clash e (of_not_true (f n) no)) (λ yes. yes) (or-holds (not (f n)) (g n) (all_at 32 (λ m. not (f m) || g m) h n l))

-- numbers rise
abbrev pub rises_test : History → Bool
rises_test H = all_below (length H.views) (λ j. all_below j (λ i. ltb (number_at H i) (number_at H j)))

-- more than half of each view's members are members of the next
abbrev pub overlaps_test : History → Bool
overlaps_test H =
    all_below (length H.views)
    (λ i. leb (length H.views) (suc i) || ltb (count (members_at H i)) (2 * count (bit_and (members_at H (suc i)) (members_at H i))))

pub rule_of : (H : History) → rises_test H ≡ true → overlaps_test H ≡ true → KeepsRule H
rule_of H r o =
    record {
      rises =
          λ i j l k.
          ltb-true (number_at H i) (number_at H j)
          (all_at j (λ m. ltb (number_at H m) (number_at H j)) (all_at (length H.views) (λ m. all_below m (λ z. ltb (number_at H z) (number_at H m))) r j k) i l);
      overlaps =
          λ i l.
          ⊎_elim (λ e. let z = leb-true (length H.views) (suc i) e in absurd (omega arith))
          (λ e. ltb-true (count (members_at H i)) (2 * count (bit_and (members_at H (suc i)) (members_at H i))) e)
          (or-holds (leb (length H.views) (suc i)) (ltb (count (members_at H i)) (2 * count (bit_and (members_at H (suc i)) (members_at H i))))
          (all_at (length H.views)
          (λ m. leb (length H.views) (suc m) || ltb (count (members_at H m)) (2 * count (bit_and (members_at H (suc m)) (members_at H m)))) o i (omega arith)));
    }

-- every member of the view at place i has logged it
abbrev pub full_test : History → ℕ → Bool
full_test H i = implies (has (members_at H i)) (λ n. H.logged n i)

pub full_of : (H : History) (i : ℕ) → full_test H i ≡ true → Full H i
full_of H i h = record { all = implies_at (has (members_at H i)) (λ n. H.logged n i) h }

module _ (σ : List ℕ) (views : List Layout) (logs d : List ℕ) where
  -- node n has logged no view after place i
  abbrev pub latest_test : ℕ → ℕ → Bool
  latest_test n i = all_below (length views) (λ j. leb j i || not (has (get_or logs j 0) n))

  -- node n's report is of the view at place i, masks included
  abbrev pub same_test : ℕ → ℕ → Bool
  same_test n i =
      eqb (view_of d n) (get_or views i no_view).number.0
      && eqb (report_of d n).members (get_or views i no_view).members
      && all_below (shards σ) (λ s. eqb (members_of (report_of d n).body s) (mask_at (get_or views i no_view) s))

  -- node n's report is true, and of the view at place i
  abbrev pub true_test : ℕ → ℕ → Bool
  true_test n i =
      eqb (report_of d n).node.0 n && ltb i (length views) && has (get_or logs i 0) n && latest_test n i && same_test n i

  same_of : (n i : ℕ) → same_test n i ≡ true → ReportsViewAt σ (told_by views logs d) (report_of d n) i
  same_of n i h =
      let number = eqb (view_of d n) (number_at (told_by views logs d) i) in
      let members = eqb (report_of d n).members (members_at (told_by views logs d) i) in
      let masks : ℕ → Bool = λ s. eqb (members_of (report_of d n).body s) (mask_at (view_at (told_by views logs d) i) s) in
      let two = and_left (number && members) (all_below (shards σ) masks) h in
      record {
        number = eqb-true (view_of d n) (number_at (told_by views logs d) i) (and_left number members two);
        members = eqb-true (report_of d n).members (members_at (told_by views logs d) i) (and_right number members two);
        masks =
            λ s l.
            eqb-true (members_of (report_of d n).body s) (mask_at (view_at (told_by views logs d) i) s)
            (all_at (shards σ) masks (and_right (number && members) (all_below (shards σ) masks) h) s l);
      }

  pub true_of : (n i : ℕ) → true_test n i ≡ true → True σ (told_by views logs d) (report_of d n)
  true_of n i h =
      let own = eqb (report_of d n).node.0 n in
      let inside = ltb i (length views) in
      let here = has (get_or logs i 0) n in
      let four = and_left (own && inside && here && latest_test n i) (same_test n i) h in
      let three = and_left (own && inside && here) (latest_test n i) four in
      let two = and_left (own && inside) here three in
      let node = eqb-true (report_of d n).node.0 n (and_left own inside two) in
      record {
        at = i;
        listed = ltb-true i (length views) (and_right own inside two);
        logged = subst⁻¹ (λ (m : ℕ). has (get_or logs i 0) m ≡ true) node (and_right (own && inside) here three);
        latest =
            λ j l k.
            subst⁻¹ (λ (m : ℕ). has (get_or logs j 0) m ≡ false) node
            (⊎_elim (λ e. let z = leb-true j i e in absurd (omega arith)) (λ e. of_not_true (has (get_or logs j 0) n) e)
            (or-holds (leb j i) (not (has (get_or logs j 0) n))
            (all_at (length views) (λ m. leb m i || not (has (get_or logs m 0) n)) (and_right (own && inside && here) (latest_test n i) four) j k)));
        same = same_of n i (and_right (own && inside && here && latest_test n i) (same_test n i) h);
        updates = λ s k p. ap (λ (m : ℕ). holds (report_of d m).body (report_of d m).len s p) node;
      }

  -- the other way: a true report of a node's own is of the view at some place
  pub true_somewhere : (n : ℕ) → (report_of d n).node.0 ≡ n → True σ (told_by views logs d) (report_of d n)
      → any_below (length views) (true_test n) ≡ true
  true_somewhere n own r =
      any_at (length views) (true_test n) r.at r.listed
      (and_both
      (and_both
      (and_both (and_both (eq-eqb (report_of d n).node.0 n own) (lt-ltb r.at (length views) r.listed))
      (subst (λ (m : ℕ). has (get_or logs r.at 0) m ≡ true) own r.logged))
      (all_of (length views) (λ j. leb j r.at || not (has (get_or logs j 0) n))
      (λ j l.
      ⊎_elim
      (λ k. or_right (leb j r.at) (not_of_false (subst (λ (m : ℕ). has (get_or logs j 0) m ≡ false) own (r.latest j k l))))
      (λ k. or_left (not (has (get_or logs j 0) n)) (le-leb j r.at k))
      (lt_or_le r.at j))))
      (and_both
      (and_both (eq-eqb (view_of d n) (number_at (told_by views logs d) r.at) r.same.number)
      (eq-eqb (report_of d n).members (members_at (told_by views logs d) r.at) r.same.members))
      (all_of (shards σ) (λ s. eqb (members_of (report_of d n).body s) (mask_at (view_at (told_by views logs d) r.at) s))
      (λ s l. eq-eqb (members_of (report_of d n).body s) (mask_at (view_at (told_by views logs d) r.at) s) (r.same.masks s l)))))

  -- every held node's report is true, and of the view at the place that the list says
  abbrev pub reports_test : ℕ → List ℕ → Bool
  reports_test held places = implies (has held) (λ n. true_test n (get_or places n 0))

  pub reports_of : (held : ℕ) (places : List ℕ) → reports_test held places ≡ true
      → (n : ℕ) → n < 32 → has held n ≡ true → True σ (told_by views logs d) (report_of d n)
  reports_of held places h n l e =
      true_of n (get_or places n 0) (implies_at (has held) (λ m. true_test m (get_or places m 0)) h n l e)

-- a view stands at place i of the list
pub listed_at : (σ : List ℕ) (H : History) (i : ℕ) → i < length H.views → Listed σ H (view_at H i) i
listed_at σ H i l =
    record {
      listed = l;
      number = refl;
      members = refl;
      masks = λ s k. refl;
    }
