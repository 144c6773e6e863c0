-- A case that whole reports cannot tell: three nodes whose logs of one shard have a run of each of 200 views and more, where a report has at
-- most 127 records after its head. Nodes 0 and 1 are members of view 201, node 2 has stayed with view 200. From their short reports there is a
-- plan, and every settled update is in its holder's log, up to the target.
use Prim.Native.Nat.{ℕ, zero, suc, ◌*◌, ◌<◌, ◌≤◌}
use Rattle.std.specs.Prelude.{Bool, false, cond, ◌&&◌, List, [], ◌∷◌, ◌++◌, ◌⊎◌, ◌≡◌, refl, eqb, ltb, get_or, replicate}
use Rattle.std.proofs.Math.Bool.{true}
use Rattle.std.proofs.Common.{inl, inr, sym, ap, ◌∙◌, subst}
use Rattle.std.proofs.Math.Logic.{⊎_elim}
use Rattle.std.proofs.Math.Path.{subst⁻¹}
use native.Mathlib.Omega.{arith}
use Rattle.std.specs.Int.Bits.{bit_and}
use Rattle.std.specs.Int.Count.{ones, ones_in}
use Rattle.std.proofs.Math.Dec.{leb}
use borrow.Author.Tests.{eqb-true, eq-eqb, ne_eqb, leb-true, le-leb, ltb-true, lt-ltb}
use Rattle.base_laws.specs.Bools.{clash, same, and_both, and_left, and_right, and_fails_left, cond_of, lt_or_le, eq_or_ne}
use Rattle.base_laws.specs.Definitions.{all_below, any_below, lowest, has, count, pair_not_after, tabulate}
use Rattle.base_laws.specs.Masks.{has_past, subset_has}
use Rattle.base_ids.specs.declared.Position.{Position}
use Rattle.base_ids.specs.Definitions.{not_after, none, unless, unless_at, first_of}
use Rattle.base_ids.specs.Order.{order_of}
use Rattle.message_format.specs.declared.Contents.{Contents}
use Rattle.message_format.specs.declared.Form.TheVariants.{Report}
use Rattle.message_format.specs.Definitions.{place, following, row5, row8, word1, members_of, precedes, shards_where, row6, view_ok, row7, kind_ok, plain, kind_at, shard_at, surplus, sequence_at, complete, shard_apart, row10_at, row10, is_position, view_fits, legal, row11_at, body_word, body_of, contents_of, records_refusal, head_refusal, message_refusal, contents_refusal}
use Rattle.message_format.specs.Passed.{contents_given, contents_few}
use Rattle.report_views.specs.declared.Layout.{Layout}
use Rattle.report_views.specs.declared.Quorum.TheVariants.{Met}
use Rattle.report_views.specs.Definitions.{no_termination, pos, start, is_start, is_run, runs_from, runs_of, end_of, reaches, holds, has_update, slot, report_of, holds_at, mask_at, runs_to, shared_after, cut_from, same_view, row12, same_termination, row13, term_kept, slot_ok, slots_ok, candidate, greatest, best, target, able, holder, majority, first_unheld, quorum_of}
use Rattle.report_views.specs.LogLaws.{reaches_run, reaches_view, reaches_count}
use Rattle.report_views.specs.RunLaws.{Runs, passed_runs, held_given, held-of}
use Rattle.report_views.specs.Meets.{quorum_given}
use Rattle.history_laws.specs.Definitions.{History, True, Supposed, view_at, number_at, members_at}
use Rattle.history_course_laws.specs.Course.{Succeeded, Orderly, Settled, cut_for}
use Rattle.history_course_laws.specs.Ever.{Restart}
use Rattle.history_short_laws.specs.Based.{last_place, latest_of, latest_number, carries_latest, short_of, Based, AddsOnly, kept_by, wanted_of, ByRecipe, ShortCourse, here, carrying}
use Rattle.history_short_laws.specs.Bases.{place_is, latest_listed, latest_up_to}
use Rattle.history_short_laws.proofs.Recipe.{stale_cut}
use Rattle.history_short_laws.proofs.RecipeAfter.{wanted_recipe}
use Rattle.history_short_laws.proofs.ShortEver.{short_settles_on, short_logged_lasts}

-- three nodes in three failure sets, and a shard of two
abbrev pub long_settings : List ℕ
long_settings = 3 ∷ 3 ∷ 2 ∷ 1 ∷ 0 ∷ 1 ∷ 2 ∷ 2 ∷ []

-- a view whose shard all members carry
abbrev pub long_view : ℕ → ℕ → Layout
long_view number members = record { number = record { 0 = number }; members = members; masks = members ∷ replicate 15 0 }

-- how many updates of view w node n has: two of each view below 200
unfoldable pub long_run : ℕ → ℕ → ℕ
long_run n w =
    cond (ltb w 200) (cond (eqb w 0) 0 2)
    (cond (eqb w 200) (get_or (2 ∷ 2 ∷ 3 ∷ []) n 0) (cond (eqb w 201) (get_or (3 ∷ 2 ∷ []) n 0) 0))

abbrev pub long_history : History
long_history =
    record {
      views = long_view 200 7 ∷ long_view 201 3 ∷ [];
      logged = λ n i. has (get_or (7 ∷ 3 ∷ []) i 0) n;
      updated = λ n s p. leb 1 p.k && leb p.k (long_run n p.view.0);
    }

-- a report of a view, with a run of it
abbrev long_report : ℕ → ℕ → ℕ → ℕ → List ℕ
long_report node number members count =
    (node ∷ number ∷ members ∷ 1 ∷ 256 ∷ members ∷ 0 ∷ 2 ∷ 768 ∷ number ∷ count ∷ 0 ∷ []) ++ replicate 500 0

-- the short reports
unfoldable pub long_desk : List ℕ
long_desk = long_report 0 201 3 3 ++ long_report 1 201 3 2 ++ long_report 2 200 7 3 ++ replicate 14848 0

slots_long : slots_ok long_settings (long_view 201 3) no_termination 7 long_desk ≡ true
unfolding long_desk all_below any_below lowest tabulate unless unless_at first_of place following row5 row8 precedes shards_where row6 view_ok row7 kind_ok plain kind_at shard_at surplus sequence_at complete shard_apart row10_at row10 is_position view_fits legal row11_at body_word body_of contents_of records_refusal head_refusal message_refusal slot report_of same_view row12 same_termination row13 term_kept slot_ok slots_ok
slots_long = refl

met_long : quorum_of long_settings (long_view 201 3) no_termination 7 long_desk ≡ Met
unfolding long_desk ones ones_in all_below any_below lowest tabulate pair_not_after place following body_word body_of contents_of end_of reaches holds has_update slot report_of candidate greatest best target able holder majority first_unheld quorum_of
met_long = refl

record SaidOf (n number members count : ℕ) : Type 0 where
  pub node : (report_of long_desk n).node.0 ≡ n
  pub view : (report_of long_desk n).view.0 ≡ number
  pub all : (report_of long_desk n).members ≡ members
  pub mask : get_or (report_of long_desk n).body 1 0 ≡ members
  pub records : (report_of long_desk n).len ≡ 2
  pub first_tag : get_or (report_of long_desk n).body 0 0 ≡ 256
  pub second_tag : get_or (report_of long_desk n).body 3 0 ≡ 768
  pub of_view : get_or (report_of long_desk n).body 4 0 ≡ number
  pub to : get_or (report_of long_desk n).body 5 0 ≡ count

said_0 : SaidOf 0 201 3 3
unfolding long_desk slot report_of contents_of body_of body_word tabulate place following lowest any_below
said_0 = record { node = refl; view = refl; all = refl; mask = refl; records = refl; first_tag = refl; second_tag = refl; of_view = refl; to = refl }

said_1 : SaidOf 1 201 3 2
unfolding long_desk slot report_of contents_of body_of body_word tabulate place following lowest any_below
said_1 = record { node = refl; view = refl; all = refl; mask = refl; records = refl; first_tag = refl; second_tag = refl; of_view = refl; to = refl }

said_2 : SaidOf 2 200 7 3
unfolding long_desk slot report_of contents_of body_of body_word tabulate place following lowest any_below
said_2 = record { node = refl; view = refl; all = refl; mask = refl; records = refl; first_tag = refl; second_tag = refl; of_view = refl; to = refl }

-- ---- the reports are short ones

module _ (n number members count : ℕ) (said : SaidOf n number members count) where
  tells : (p : Position) → holds_at long_desk 0 p n ≡ (eqb p.view.0 number && (leb 1 p.k && leb p.k count))
  tells p =
      same (holds_at long_desk 0 p n) (eqb p.view.0 number && (leb 1 p.k && leb p.k count))
      (λ h. let w = held_given b len 0 p h in told w.from w.by.0 w.by.1 w.by.2)
      (λ h.
      let rest = and_right (eqb p.view.0 number) (leb 1 p.k && leb p.k count) h in
      held-of b len 0 p 1 (omega (arith, said.records)) (eq-eqb (get_or b 3 0) 768 said.second_tag)
      (said.of_view ∙ sym (eqb-true p.view.0 number (and_left (eqb p.view.0 number) (leb 1 p.k && leb p.k count) h)))
      (leb-true 1 p.k (and_left (leb 1 p.k) (leb p.k count) rest))
      (omega (arith, said.to, leb-true p.k count (and_right (leb 1 p.k) (leb p.k count) rest))))
    where
      b : List ℕ
      b = (report_of long_desk n).body

      len : ℕ
      len = (report_of long_desk n).len

      told : 1 ≤ p.k → (j : ℕ) → j < len → reaches b 0 p j ≡ true → (eqb p.view.0 number && (leb 1 p.k && leb p.k count)) ≡ true
      told from zero l r = absurd (omega (arith, eqb-true (get_or b 0 0) 768 (reaches_run b 0 p 0 r), said.first_tag))
      told from (suc zero) l r =
          and_both (eq-eqb p.view.0 number (sym (reaches_view b 0 p 1 r) ∙ said.of_view))
          (and_both (le-leb 1 p.k from) (le-leb p.k count (omega (arith, reaches_count b 0 p 1 r, said.to))))
      told from (suc (suc j)) l r = absurd (omega (arith, said.records))

  -- where that is the latest view of the node, which carries the shard in it
  report_long : (at : ℕ) → at < 2 → long_history.logged n at ≡ true → ((j : ℕ) → at < j → j < 2 → long_history.logged n j ≡ false)
      → view_at long_history at ≡ long_view number members → has members n ≡ true → long_run n number ≡ count
      → True long_settings (short_of long_history) (report_of long_desk n)
  report_long at l logged latest view member is_run =
      record {
        at = at;
        listed = l;
        logged = subst⁻¹ (λ (m : ℕ). long_history.logged m at ≡ true) said.node logged;
        latest = λ j a k. subst⁻¹ (λ (m : ℕ). long_history.logged m j ≡ false) said.node (latest j a k);
        same = record {
          number = said.view ∙ sym (ap (λ (x : Layout). x.number.0) view);
          members = said.all ∙ sym (ap (λ (x : Layout). x.members) view);
          masks = λ s k. let e : 0 ≡ s = omega arith in
              subst (λ (i : ℕ). members_of (report_of long_desk n).body i ≡ mask_at (view_at long_history at) i) e
              (said.mask ∙ sym (ap (λ (x : Layout). mask_at x 0) view));
        };
        updates = λ s k p. let e : 0 ≡ s = omega arith in
            subst (λ (i : ℕ). (short_of long_history).updated (report_of long_desk n).node.0 i p ≡ holds_at long_desk i p n) e
            (subst⁻¹ (λ (m : ℕ). (short_of long_history).updated m 0 p ≡ holds_at long_desk 0 p n) said.node (told p));
      }
    where
      place_it : latest_of long_history n ≡ at
      place_it = place_is (long_history.logged n) 2 at l logged latest

      carries : carries_latest long_history 0 n ≡ true
      carries =
          subst⁻¹ (λ (i : ℕ). (long_history.logged n i && has (mask_at (view_at long_history i) 0) n) ≡ true) place_it
          (and_both logged (subst⁻¹ (λ (x : Layout). has (mask_at x 0) n ≡ true) view member))

      it : latest_number long_history n ≡ number
      it = ap (λ (i : ℕ). number_at long_history i) place_it ∙ ap (λ (x : Layout). x.number.0) view

      told : (p : Position) → (short_of long_history).updated n 0 p ≡ holds_at long_desk 0 p n
      told p =
          rw (carries, it)
          (⊎_elim
          (λ e. ap (λ (w : ℕ). eqb p.view.0 number && (leb 1 p.k && leb p.k (long_run n w))) e
          ∙ ap (λ (c : ℕ). eqb p.view.0 number && (leb 1 p.k && leb p.k c)) is_run)
          (λ e. and_fails_left (leb 1 p.k && leb p.k (long_run n p.view.0)) (ne_eqb p.view.0 number e)
          ∙ sym (and_fails_left (leb 1 p.k && leb p.k count) (ne_eqb p.view.0 number e)))
          (eq_or_ne p.view.0 number)
          ∙ sym (tells p))

long_reports : (n : ℕ) → n < 32 → has 7 n ≡ true → True long_settings (short_of long_history) (report_of long_desk n)
unfolding long_run
long_reports zero l h = report_long 0 201 3 3 said_0 1 (omega arith) refl (λ j a k. absurd (omega arith)) refl refl refl
long_reports (suc zero) l h = report_long 1 201 3 2 said_1 1 (omega arith) refl (λ j a k. absurd (omega arith)) refl refl refl
long_reports (suc (suc zero)) l h =
    report_long 2 200 7 3 said_2 0 (omega arith) refl (λ j a k. let e : 1 ≡ j = omega arith in subst
    (λ (i : ℕ). long_history.logged 2 i ≡ false) e refl) refl refl refl
long_reports (suc (suc (suc n))) l h = clash h (has_past 7 3 (suc (suc (suc n))) (omega arith) (omega arith))

-- ---- a restart from them

long_orderly : Orderly long_history
unfolding ones ones_in
long_orderly = record { rule = record { rises = rises; overlaps = overlaps }; succeeded = succeeded }
  where
    rises : (i j : ℕ) → i < j → j < 2 → number_at long_history i < number_at long_history j
    rises zero (suc zero) l k = omega arith
    rises zero zero l k = absurd (omega arith)
    rises i (suc (suc j)) l k = absurd (omega arith)
    rises (suc i) (suc zero) l k = absurd (omega arith)
    rises (suc i) zero l k = absurd (omega arith)

    most : count 7 < 2 * count (bit_and 3 7)
    most = let a : count 7 ≡ 3 = refl in let b : count (bit_and 3 7) ≡ 2 = refl in omega (arith, a, b)

    overlaps : (i : ℕ) → suc i < 2 → count (members_at long_history i) < 2 * count (bit_and (members_at long_history (suc i)) (members_at long_history i))
    overlaps zero l = most
    overlaps (suc i) l = absurd (omega arith)

    succeeded : (i : ℕ) → suc i < 2 → Succeeded long_history i
    succeeded zero l = record { by = 3; most = most; later = λ n k h. (1, omega arith, omega arith, h) }
    succeeded (suc i) l = absurd (omega arith)

-- nodes 0 and 1 have logged view 201, the others at most view 200
latest_two : (n : ℕ) → (n < 2) ⊎ (latest_number long_history n ≡ 200)
unfolding last_place
latest_two n =
    ⊎_elim (λ l. inl l)
    (λ l.
    let none : long_history.logged n 1 ≡ false = has_past 3 2 n (omega arith) l in
    inr (ap (λ (i : ℕ). number_at long_history i)
    (ap (λ (b : Bool). cond b 1 (cond (long_history.logged n 0) 0 0)) none
    ∙ cond_of (λ (i : ℕ). i ≡ 0) (long_history.logged n 0) (λ e. refl) (λ e. refl))))
    (lt_or_le n 2)

latest_up : (n : ℕ) → latest_number long_history n ≤ 201
latest_up n = latest_up_to long_history long_orderly.rule n (omega arith)

-- below their latest views they have the same runs
same_run : (n m w : ℕ) → w < latest_number long_history n → w < latest_number long_history m → long_run n w ≡ long_run m w
unfolding long_run
same_run n m w x y = ⊎_elim (λ l. rw (lt-ltb w 200 l)) (λ l. last (omega (arith, latest_up n, x, l))) (lt_or_le w 200)
  where
    only : (n : ℕ) → w < latest_number long_history n → 200 ≤ w → long_run n 200 ≡ 2
    only zero z l = refl
    only (suc zero) z l = refl
    only (suc (suc n)) z l = ⊎_elim (λ q. absurd (omega arith)) (λ q. absurd (omega (arith, z, q))) (latest_two (suc (suc n)))

    last : w ≡ 200 → long_run n w ≡ long_run m w
    last e = ap (λ (i : ℕ). long_run n i) e ∙ only n x (omega arith) ∙ sym (only m y (omega arith)) ∙ sym (ap (λ (i : ℕ). long_run m i) e)

long_based : Based 1 long_history
long_based =
    record {
      same = λ s below n m l k a b p from x y. ap (λ (c : ℕ). leb 1 p.k && leb p.k c) (same_run n m p.view.0 x y);
    }

pub long_restart : Restart 1 (short_of long_history)
long_restart =
    record {
      σ = long_settings;
      same = refl;
      v = long_view 201 3;
      t = no_termination;
      held = 7;
      d = long_desk;
      w = record { number = record { 0 = 202 }; members = 7; masks = 5 ∷ replicate 15 0 };
      some = omega arith;
      few = omega arith;
      wide = omega arith;
      slots = slots_long;
      met = quorum_given long_settings (long_view 201 3) no_termination 7 long_desk met_long;
      next = record {
        number = refl;
        members = refl;
        placed = λ s l n k h. let e : 0 ≡ s = omega arith in
            subset_has 5 7 refl n (subst⁻¹ (λ (i : ℕ). has (get_or (5 ∷ replicate 15 0) i 0) n ≡ true) e h);
      };
      reports = long_reports;
      ended = record { after = λ e s l p u. clash e refl };
    }

-- update (150, 2) is settled, and in the holder's log up to the target
pub long_lasts : wanted_of (long_view 201 3) no_termination 7 long_desk long_history 0 (pos 150 2) ≡ true
unfolding long_run long_restart
long_lasts =
    short_logged_lasts long_orderly long_based 0 (omega arith) (pos 150 2) (omega arith) (omega arith) (λ n l m. refl) here long_restart

-- ---- it is carried out

long_supposed : Supposed long_settings (long_view 201 3) 7 long_desk (short_of long_history)
long_supposed =
    record {
      rule = record { rises = long_orderly.rule.rises; overlaps = long_orderly.rule.overlaps };
      true_reports = long_reports;
      place = 1;
      listed = record { listed = omega arith; number = refl; members = refl; masks = λ s l. refl };
    }

-- node 0 is the holder and keeps all; node 2 keeps its base, which ends at (199, 2)
cut_holder : cut_for (long_view 201 3) no_termination 7 long_desk 0 0 ≡ pos 201 3
unfolding long_desk all_below any_below lowest tabulate pair_not_after place following body_word body_of contents_of end_of reaches holds has_update slot report_of candidate greatest best target able holder runs_from runs_of runs_to shared_after cut_from
cut_holder = refl

cut_stale : cut_for (long_view 201 3) no_termination 7 long_desk 2 0 ≡ start
cut_stale =
    stale_cut long_settings (long_view 201 3) no_termination 7 long_desk (omega arith) (omega arith) slots_long
    (quorum_given long_settings (long_view 201 3) no_termination 7 long_desk met_long)
    long_history long_supposed long_orderly 0 (omega arith) 2 (omega arith) refl (λ e. omega (arith, said_2.view))

-- nodes 0 and 2 have what is wanted, and node 1 what it had
abbrev pub long_after : History
long_after =
    record {
      views = long_view 200 7 ∷ long_view 201 3 ∷ record { number = record { 0 = 202 }; members = 7; masks = 5 ∷ replicate 15 0 } ∷ [];
      logged = λ n i. has (get_or (7 ∷ 3 ∷ 7 ∷ []) i 0) n;
      updated = λ n s q. cond (eqb n 1) (long_history.updated 1 s q) (wanted_of (long_view 201 3) no_termination 7 long_desk long_history s q);
    }

module _ (n : ℕ) (small : n < 32) (is_held_lem : has 7 n ≡ true) (other : eqb n 1 ≡ false) (last : Position) where
  by_recipe : kept_by (long_view 201 3) no_termination 7 long_desk long_history n 0 last ≡ true
      → ((q : Position) → kept_by (long_view 201 3) no_termination 7 long_desk long_history n 0 q ≡ true → not_after q last ≡ true)
      → ByRecipe (long_view 201 3) no_termination 7 long_desk long_history long_after n 0
  by_recipe kept end =
      wanted_recipe long_settings (long_view 201 3) no_termination 7 long_desk (omega arith) (omega arith) slots_long
      (quorum_given long_settings (long_view 201 3) no_termination 7 long_desk met_long) long_history long_supposed long_orderly 0
      (omega arith) n small is_held_lem long_based last
      (inr kept) end
      (λ q from. ap (λ (b : Bool). cond b (long_history.updated 1 0 q) (wanted_of (long_view 201 3) no_termination 7 long_desk long_history 0 q)) other)

holder_recipe : ByRecipe (long_view 201 3) no_termination 7 long_desk long_history long_after 0 0
unfolding long_run pair_not_after
holder_recipe =
    by_recipe 0 (omega arith) refl refl (pos 201 3) (at (pos 201 3) ∙ refl)
    (λ q h. and_right (long_history.updated 0 0 q) (not_after q (pos 201 3)) (sym (at q) ∙ h))
  where
    at : (q : Position) → kept_by (long_view 201 3) no_termination 7 long_desk long_history 0 0 q ≡ (long_history.updated 0 0 q && not_after q (pos 201 3))
    at q =
        ap (λ (c : Position). long_history.updated 0 0 q && cond (is_start c)
        (carries_latest long_history 0 0 && ltb q.view.0 (latest_number long_history 0)) (not_after q c)) cut_holder

stale_recipe : ByRecipe (long_view 201 3) no_termination 7 long_desk long_history long_after 2 0
unfolding long_run last_place
stale_recipe = by_recipe 2 (omega arith) refl refl (pos 199 2) (at (pos 199 2) ∙ refl) (λ q h. end q (sym (at q) ∙ h))
  where
    at : (q : Position) → kept_by (long_view 201 3) no_termination 7 long_desk long_history 2 0 q ≡ (long_history.updated 2 0 q && ltb q.view.0 200)
    at q =
        ap (λ (c : Position). long_history.updated 2 0 q && cond (is_start c)
        (carries_latest long_history 0 2 && ltb q.view.0 (latest_number long_history 2)) (not_after q c)) cut_stale

    two : (w : ℕ) → w < 200 → long_run 2 w ≤ 2
    two w l = rw (lt-ltb w 200 l) (cond_of (λ (c : ℕ). c ≤ 2) (eqb w 0) (λ e. omega arith) (λ e. omega arith))

    end : (q : Position) → (long_history.updated 2 0 q && ltb q.view.0 200) ≡ true → not_after q (pos 199 2) ≡ true
    end q h =
        let l = ltb-true q.view.0 200 (and_right (long_history.updated 2 0 q) (ltb q.view.0 200) h) in
        let k = leb-true q.k (long_run 2 q.view.0) (and_right (leb 1 q.k) (leb q.k (long_run 2 q.view.0))
        (and_left (long_history.updated 2 0 q) (ltb q.view.0 200) h)) in
        ⊎_elim (λ e. order_of q (pos 199 2) (inl e)) (λ e. order_of q (pos 199 2) (inr (omega arith, omega (arith, two q.view.0 l))))
        (lt_or_le q.view.0 199)

long_adds : AddsOnly 1 long_history long_after
long_adds = record { logged = logged; older = λ s l n k c e p from o. absurd (moved s n k c e) }
  where
    logged : (n i : ℕ) → i < 2 → long_after.logged n i ≡ long_history.logged n i
    logged n zero l = refl
    logged n (suc zero) l = refl
    logged n (suc (suc i)) l = absurd (omega arith)

    none : (n : ℕ) → 3 ≤ n → (i : ℕ) → i < 2 → long_history.logged n i ≡ false
    none n l zero k = has_past 7 3 n (omega arith) l
    none n l (suc zero) k = has_past 3 2 n (omega arith) (omega arith)
    none n l (suc (suc i)) k = absurd (omega arith)

    held_by : (n : ℕ) → n < 3 → has 7 n ≡ true
    held_by zero l = refl
    held_by (suc zero) l = refl
    held_by (suc (suc zero)) l = refl
    held_by (suc (suc (suc n))) l = absurd (omega arith)

    moved : (s n : ℕ) → n < 32 → carries_latest long_history s n ≡ true → latest_of long_after n ≡ latest_of long_history n → ⊥
    moved s n k c e =
        let listed : latest_of long_history n < 2 = latest_listed long_history n (omega arith) in
        ⊎_elim (λ l. omega (arith, e, place_is (long_after.logged n) 3 2 (omega arith) (held_by n l) (λ j a b. absurd (omega arith))))
        (λ l. clash (and_left (long_history.logged n (latest_of long_history n)) (has (mask_at (view_at long_history (latest_of long_history n)) s) n) c)
        (none n l (latest_of long_history n) listed))
        (lt_or_le n 3)

pub long_course : ShortCourse 1 long_history long_after
unfolding long_restart ones ones_in
long_course =
    carrying long_history long_after here long_restart
    (record {
      views = refl;
      adds = long_adds;
      by = 7;
      logs = λ n l h. h;
      most = let a : count 3 ≡ 2 = refl in let b : count (bit_and 7 3) ≡ 2 = refl in omega (arith, a, b);
      ordered = λ s l n k h g. let e : 0 ≡ s = omega arith in
          subst (λ (i : ℕ). ByRecipe (long_view 201 3) no_termination 7 long_desk long_history long_after n i) e
          (placed n (subst⁻¹ (λ (i : ℕ). has (get_or (5 ∷ replicate 15 0) i 0) n ≡ true) e h));
    })
  where
    placed : (n : ℕ) → has 5 n ≡ true → ByRecipe (long_view 201 3) no_termination 7 long_desk long_history long_after n 0
    placed zero h = holder_recipe
    placed (suc zero) h = clash h refl
    placed (suc (suc zero)) h = stale_recipe
    placed (suc (suc (suc n))) h = clash h (has_past 5 3 (suc (suc (suc n))) (omega arith) (omega arith))

-- update (150, 2) is settled after it too: nodes 0 and 2 have it
pub long_settled : Settled long_after 0 (pos 150 2)
unfolding long_run
long_settled =
    (short_settles_on long_orderly long_based 0 (omega arith) (pos 150 2) (omega arith) (omega arith) (record { all = λ n l m h. refl }) long_course).1

-- ---- no whole report is true of it

module _ (b : List ℕ) (len : ℕ) (runs : Runs b len 0) (all : (p : Position) → long_history.updated 0 0 p ≡ holds b len 0 p) where
  -- there is a run of each view up to 200
  run_of : (w : ℕ) → suc w ≤ 200 → (j : ℕ) × (j < len) × (is_run b 0 j ≡ true) × (word1 b j ≡ suc w)
  unfolding long_run
  run_of w l =
      let p : Position = pos (suc w) 1 in
      let two : (leb 1 1 && leb 1 (long_run 0 (suc w))) ≡ true =
      ⊎_elim (λ z. rw (lt-ltb (suc w) 200 z, ne_eqb (suc w) 0 (λ e. omega arith))) (λ z. let e : suc w ≡ 200 = omega arith in rw e)
      (lt_or_le (suc w) 200) in
      let h = (held_given b len 0 p (sym (all p) ∙ two)).by in
      (h.0, h.1, reaches_run b 0 p h.0 h.2, reaches_view b 0 p h.0 h.2)

  -- they rise, so that of view w + 1 has w before it
  run_late : (w : ℕ) → suc w ≤ 200 → (j : ℕ) → j < len → is_run b 0 j ≡ true → word1 b j ≡ suc w → w ≤ j
  run_late zero l j k r e = omega arith
  run_late (suc w) l j k r e =
      let (i, m, q, f) = run_of w (omega arith) in
      let one = run_late w (omega arith) i m q f in
      ⊎_elim (λ z. omega (arith, one))
      (λ z. ⊎_elim (λ x. absurd (omega (arith, ap (λ (a : ℕ). word1 b a) x)))
      (λ x. absurd (omega (arith, runs.rise j i (omega (arith, x)) m r q))) (eq_or_ne i j))
      (lt_or_le i j)

  many_records : 200 ≤ len
  many_records = let (j, l, r, e) = run_of 199 (omega arith) in omega (arith, run_late 199 (omega arith) j l r e)

-- a report of node 0 that passes and is true of the history has 200 records, more than a report can have
pub long_untold : (c : Contents) → c.node.0 ≡ 0 → contents_refusal Report long_settings c ≡ none → True long_settings long_history c → ⊥
long_untold c own passes r =
    let records = (contents_given Report long_settings c passes).records_pass in
    omega (
      arith,
      contents_few Report long_settings c passes,
      many_records c.body c.len (passed_runs long_settings c.node.0 c.view.0 c.members c.body c.len records 0 (omega arith))
          (λ p. subst (λ (n : ℕ). long_history.updated n 0 p ≡ holds c.body c.len 0 p) own (r.updates 0 (omega arith) p)),
    )
