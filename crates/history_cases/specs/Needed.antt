-- Each place where demand 3's claims need what they suppose, by an example that has all the rest and in which the claim is false; and
-- for each clause of what is supposed a history or a report that fails it.
use Rattle.std.specs.Prelude.{ℕ, zero, suc, ◌<◌, ◌≤◌, Bool, true, false, List, [], ◌∷◌, ◌++◌, ◌≡◌, refl, length, replicate}
use Rattle.std.proofs.Common.{arith}
use Rattle.std.specs.Int.Count.{ones, ones_in}
use Rattle.base_laws.specs.Bools.{clash}
use Rattle.base_laws.specs.Definitions.{all_below, any_below, lowest, has, pair_not_after, tabulate}
use Rattle.base_ids.specs.Definitions.{not_after, unless, unless_at, first_of}
use Rattle.message_format.specs.Definitions.{place, following, row5, row8, precedes, shards_where, row6, view_ok, row7, kind_ok, plain, kind_at, shard_at, surplus, sequence_at, complete, shard_apart, row10_at, row10, is_position, view_fits, legal, row11_at, body_word, body_of, contents_of, records_refusal, head_refusal, message_refusal}
use Rattle.report_views.specs.declared.Layout.{Layout}
use Rattle.report_views.specs.declared.Termination.{Termination}
use Rattle.report_views.specs.declared.Quorum.TheVariants.{Met}
use Rattle.report_views.specs.Definitions.{no_view, no_termination, pos, start, end_of, reaches, holds, has_update, slot, report_of, mask_at, same_view, row12, same_termination, row13, term_kept, slot_ok, slots_ok, candidate, greatest, best, target, able, holder, majority, first_unheld, quorum_of}
use Rattle.history_laws.specs.Definitions.{History, KeepsRule, Full, True, Listed, Supposed, number_at}
use Rattle.history_cases.specs.Told.{told_by, full_of, true_test, reports_test, reports_of, true_somewhere, listed_at}
use Rattle.history_cases.specs.Supposing.{one_shard_settings, view_of_all, report_of_all, desk_of_three, three_views, history_of_three, supposed_three, slots_three, met_three, all_logged}

-- ---- without the rule of views: of nodes 1 to 3 of view 6 only node 3 is a member of view 7, and all members logged each view

abbrev unruled_views : List Layout
unruled_views = view_of_all 5 7 ∷ view_of_all 6 14 ∷ view_of_all 7 56 ∷ []

abbrev pub unruled_history : History
unruled_history = told_by unruled_views (7 ∷ 14 ∷ 56 ∷ []) desk_of_three

unruled_reports : reports_test one_shard_settings unruled_views (7 ∷ 14 ∷ 56 ∷ []) desk_of_three 6 (0 ∷ 1 ∷ 1 ∷ []) ≡ true
unfolding desk_of_three all_below slot report_of contents_of body_of body_word tabulate place following lowest any_below
unruled_reports = refl

unruled_full : (i : ℕ) → i ≤ 2 → Full unruled_history i
unfolding all_below
unruled_full zero l = full_of unruled_history 0 refl
unruled_full (suc zero) l = full_of unruled_history 1 refl
unruled_full (suc (suc zero)) l = full_of unruled_history 2 refl
unruled_full (suc (suc (suc k))) l = absurd (omega arith)

-- view 7 and each older one were logged by all their members, and nodes 1 and 2 keep view 6
pub record RuleNeeded : Type 0 where
  pub reports : (n : ℕ) → n < 32 → has 6 n ≡ true → True one_shard_settings unruled_history (report_of desk_of_three n)
  pub listed : Listed one_shard_settings unruled_history (view_of_all 6 14) 1
  pub slots : slots_ok one_shard_settings (view_of_all 6 14) no_termination 6 desk_of_three ≡ true
  pub met : quorum_of one_shard_settings (view_of_all 6 14) no_termination 6 desk_of_three ≡ Met
  pub full : (i : ℕ) → i ≤ 2 → Full unruled_history i
  pub newer : (view_of_all 6 14).number.0 < number_at unruled_history 2
  pub unruled : KeepsRule unruled_history → ⊥

overlap_fails : KeepsRule unruled_history → ⊥
unfolding ones ones_in
overlap_fails r = let z = r.overlaps 1 (omega arith) in absurd (omega arith)

pub rule_needed : RuleNeeded
rule_needed =
    record {
      reports = reports_of one_shard_settings unruled_views (7 ∷ 14 ∷ 56 ∷ []) desk_of_three 6 (0 ∷ 1 ∷ 1 ∷ []) unruled_reports;
      listed = listed_at one_shard_settings unruled_history 1 (omega arith);
      slots = slots_three;
      met = met_three;
      full = unruled_full;
      newer = omega arith;
      unruled = overlap_fails;
    }

-- ---- an older view that was not logged by all: nodes 0 to 2, 1 to 5 and 2 to 4 under numbers 5, 6 and 9; node 1 has not logged view 6

unfoldable pub desk_of_two : List ℕ
desk_of_two = report_of_all 0 5 7 1 ++ report_of_all 1 5 7 1 ++ replicate 15360 0

abbrev pub skipped_views : List Layout
skipped_views = view_of_all 5 7 ∷ view_of_all 6 62 ∷ view_of_all 9 28 ∷ []

abbrev pub skipped_history : History
skipped_history = told_by skipped_views (7 ∷ 60 ∷ 28 ∷ []) desk_of_two

-- view 9 was logged by all its members while view 6 was not, and nodes 0 and 1 keep view 5
pub record OlderNeeded : Type 0 where
  pub supposed : Supposed one_shard_settings (view_of_all 5 7) 3 desk_of_two skipped_history
  pub slots : slots_ok one_shard_settings (view_of_all 5 7) no_termination 3 desk_of_two ≡ true
  pub met : quorum_of one_shard_settings (view_of_all 5 7) no_termination 3 desk_of_two ≡ Met
  pub full : Full skipped_history 2
  pub older : Full skipped_history 1 → ⊥
  pub newer : (view_of_all 5 7).number.0 < number_at skipped_history 2

-- ---- a kept termination: that of view 6 ends the shard at (6, 2), and all members logged (6, 3)

abbrev pub ended_early : Termination
ended_early = record { made = true; positions = pos 6 2 ∷ replicate 15 start }

pub record TerminationNeeded : Type 0 where
  pub supposed : Supposed one_shard_settings (view_of_all 6 14) 6 desk_of_three history_of_three
  pub slots : slots_ok one_shard_settings (view_of_all 6 14) ended_early 6 desk_of_three ≡ true
  pub met : quorum_of one_shard_settings (view_of_all 6 14) ended_early 6 desk_of_three ≡ Met
  pub logged : (n : ℕ) → n < 32 → has (mask_at (view_of_all 6 14) 0) n ≡ true → history_of_three.updated n 0 (pos 6 3) ≡ true
  pub past : not_after (pos 6 3) (target (view_of_all 6 14) ended_early 6 desk_of_three 0) ≡ false

pub termination_needed : TerminationNeeded
unfolding desk_of_three ones ones_in all_below any_below lowest tabulate pair_not_after unless unless_at first_of place following row5 row8 precedes shards_where row6 view_ok row7 kind_ok plain kind_at shard_at surplus sequence_at complete shard_apart row10_at row10 is_position view_fits legal row11_at body_word body_of contents_of records_refusal head_refusal message_refusal slot report_of same_view row12 same_termination row13 term_kept slot_ok slots_ok end_of reaches holds has_update candidate greatest best target able holder majority first_unheld quorum_of
termination_needed =
    record {
      supposed = supposed_three;
      slots = refl;
      met = refl;
      logged = all_logged;
      past = refl;
    }

-- ---- the clauses of what is supposed

-- nodes 0 to 3, then nodes 2 to 4: just half of the older view
abbrev pub half_history : History
half_history = told_by (view_of_all 5 15 ∷ view_of_all 6 28 ∷ []) (15 ∷ 28 ∷ []) desk_of_three

-- a number that comes twice
abbrev pub level_history : History
level_history = told_by (view_of_all 5 7 ∷ view_of_all 5 7 ∷ []) (7 ∷ 7 ∷ []) desk_of_three

-- view 6 with another member, and with another shard mask
abbrev pub other_members : Layout
other_members = record { number = record { 0 = 6 }; members = 30; masks = 14 ∷ replicate 15 0 }

abbrev pub other_masks : Layout
other_masks = record { number = record { 0 = 6 }; members = 14; masks = 6 ∷ replicate 15 0 }

-- the history of one view, which its members logged
abbrev pub only_view : Layout → History
only_view v = told_by (v ∷ []) (14 ∷ []) desk_of_three

-- the one view 6, whose members logged all updates, or none
abbrev pub logged_so : Bool → History
logged_so b = record { views = view_of_all 6 14 ∷ []; logged = λ n i. true; updated = λ n s p. b }

-- node 1's report is not true in the history
abbrev pub Untrue : History → Type 0
Untrue H = True one_shard_settings H (report_of desk_of_three 1) → ⊥

pub record Unsupposed : Type 0 where
  -- half of a view's members is not more than half, and a number that comes twice does not rise
  pub half : KeepsRule half_history → ⊥
  pub level : KeepsRule level_history → ⊥
  -- a true report is of a view that its node has logged, and of the latest
  pub unlogged : Untrue (told_by three_views (7 ∷ 12 ∷ 0 ∷ []) desk_of_three)
  pub later : Untrue (told_by three_views (7 ∷ 14 ∷ 2 ∷ []) desk_of_three)
  -- its number, members and shard masks are those of the list
  pub number : Untrue (only_view (view_of_all 5 14))
  pub members : Untrue (only_view other_members)
  pub masks : Untrue (only_view other_masks)
  -- its runs hold no more and no less than what its node has logged
  pub more : Untrue (logged_so false)
  pub less : Untrue (logged_so true)
  -- the kept view stands in the list, with its number, members and shard masks
  pub outside : Listed one_shard_settings history_of_three no_view 3 → ⊥
  pub kept_number : Listed one_shard_settings history_of_three (view_of_all 7 14) 1 → ⊥
  pub kept_members : Listed one_shard_settings history_of_three other_members 1 → ⊥
  pub kept_masks : Listed one_shard_settings history_of_three other_masks 1 → ⊥

own_1 : (report_of desk_of_three 1).node.0 ≡ 1
unfolding desk_of_three slot report_of contents_of
own_1 = refl

untold : (views : List Layout) (logs : List ℕ) → any_below (length views) (true_test one_shard_settings views logs desk_of_three 1) ≡ false
    → Untrue (told_by views logs desk_of_three)
untold views logs h r = clash (true_somewhere one_shard_settings views logs desk_of_three 1 own_1 r) h

pub unsupposed : Unsupposed
unfolding desk_of_three ones ones_in all_below any_below lowest tabulate place following body_word body_of contents_of reaches holds slot report_of
unsupposed =
    record {
      half = λ r. let z = r.overlaps 0 (omega arith) in absurd (omega arith);
      level = λ r. let z = r.rises 0 1 (omega arith) (omega arith) in absurd (omega arith);
      unlogged = untold three_views (7 ∷ 12 ∷ 0 ∷ []) refl;
      later = untold three_views (7 ∷ 14 ∷ 2 ∷ []) refl;
      number = untold (view_of_all 5 14 ∷ []) (14 ∷ []) refl;
      members = untold (other_members ∷ []) (14 ∷ []) refl;
      masks = untold (other_masks ∷ []) (14 ∷ []) refl;
      more = λ r. clash (r.updates 0 (omega arith) (pos 6 3)) refl;
      less = λ r. clash refl (r.updates 0 (omega arith) (pos 6 4));
      outside = λ l. let z = l.listed in absurd (omega arith);
      kept_number = λ l. let z = l.number in absurd (omega arith);
      kept_members = λ l. let z = l.members in absurd (omega arith);
      kept_masks = λ l. let z = l.masks 0 (omega arith) in absurd (omega arith);
    }
