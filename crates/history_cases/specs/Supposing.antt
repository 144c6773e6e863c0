-- What demand 3's claims suppose can be met: in case A by the history of one view that all logged; and by one of three views, in
-- which both claims say something and the rule of views is needed.
use Rattle.std.specs.Prelude.{ℕ, zero, suc, ◌<◌, ◌≤◌, true, List, [], ◌∷◌, ◌++◌, ◌≡◌, refl, replicate}
use Rattle.std.proofs.Common.{⊎_elim, subst, arith}
use Rattle.std.specs.Int.Count.{ones, ones_in}
use Rattle.base_laws.specs.Bools.{lt_or_le}
use Rattle.base_laws.specs.Definitions.{all_below, any_below, lowest, has, pair_not_after, tabulate}
use Rattle.base_ids.specs.Definitions.{not_after, unless, unless_at, first_of}
use Rattle.message_format.specs.Definitions.{place, following, row5, row8, precedes, shards_where, row6, view_ok, row7, kind_ok, plain, kind_at, shard_at, surplus, sequence_at, complete, shard_apart, row10_at, row10, is_position, view_fits, legal, row11_at, body_word, body_of, contents_of, records_refusal, head_refusal, message_refusal}
use Rattle.report_views.specs.declared.Layout.{Layout}
use Rattle.report_views.specs.declared.Quorum.TheVariants.{Met}
use Rattle.report_views.specs.Definitions.{no_termination, pos, end_of, reaches, holds, has_update, slot, report_of, holds_at, same_view, row12, same_termination, row13, term_kept, slot_ok, slots_ok, candidate, greatest, best, target, able, holder, majority, first_unheld, quorum_of}
use Rattle.report_views.specs.Meets.{quorum_given}
use Rattle.history_laws.specs.Definitions.{History, Full, Supposed, Claims}
use Rattle.history_laws.proofs.Claims.{claims}
use Rattle.history_cases.specs.Runs.{case_settings, slot_of, desk, view7}
use Rattle.history_cases.specs.Told.{told_by, implies, implies_at, rises_test, overlaps_test, rule_of, full_of, reports_test, reports_of, listed_at}

-- ---- case A

abbrev history_a : History
history_a = told_by (view7 ∷ []) (127 ∷ []) desk

reports_a : reports_test case_settings (view7 ∷ []) (127 ∷ []) desk 63 [] ≡ true
unfolding desk all_below slot report_of contents_of body_of body_word tabulate place following lowest any_below
reports_a = refl

rises_a : rises_test history_a ≡ true
unfolding all_below
rises_a = refl

overlaps_a : overlaps_test history_a ≡ true
unfolding all_below
overlaps_a = refl

-- the history of case A is one that the claims speak of
pub supposed_a : Supposed case_settings view7 63 desk history_a
supposed_a =
    record {
      rule = rule_of history_a rises_a overlaps_a;
      true_reports = reports_of case_settings (view7 ∷ []) (127 ∷ []) desk 63 [] reports_a;
      place = 0;
      listed = listed_at case_settings history_a 0 (omega arith);
    }

-- ---- three views: nodes 0 to 2, 1 to 3 and 2 to 4 under numbers 5, 6 and 7, with one shard that all members carry

abbrev pub one_shard_settings : List ℕ
one_shard_settings = 7 ∷ 3 ∷ 2 ∷ 1 ∷ 0 ∷ 0 ∷ 1 ∷ 1 ∷ 1 ∷ 2 ∷ 2 ∷ 1 ∷ []

abbrev pub view_of_all : ℕ → ℕ → Layout
view_of_all number members = record { number = record { 0 = number }; members = members; masks = members ∷ replicate 15 0 }

-- a report of such a view, with a run of its shard
abbrev pub report_of_all : ℕ → ℕ → ℕ → ℕ → List ℕ
report_of_all node number members count =
    slot_of (node ∷ number ∷ members ∷ 1 ∷ 256 ∷ members ∷ 0 ∷ 2 ∷ 768 ∷ number ∷ count ∷ 0 ∷ [])

-- nodes 1, 2 and 3 have the first 3, 5 and 4 updates of view 6
unfoldable pub desk_of_three : List ℕ
desk_of_three = replicate 512 0 ++ report_of_all 1 6 14 3 ++ report_of_all 2 6 14 5 ++ report_of_all 3 6 14 4 ++ replicate 14336 0

abbrev pub three_views : List Layout
three_views = view_of_all 5 7 ∷ view_of_all 6 14 ∷ view_of_all 7 28 ∷ []

-- all members have logged views 5 and 6, and node 4 alone view 7
abbrev pub history_of_three : History
history_of_three = told_by three_views (7 ∷ 14 ∷ 16 ∷ []) desk_of_three

reports_three : reports_test one_shard_settings three_views (7 ∷ 14 ∷ 16 ∷ []) desk_of_three 6 (0 ∷ 1 ∷ 1 ∷ []) ≡ true
unfolding desk_of_three all_below slot report_of contents_of body_of body_word tabulate place following lowest any_below
reports_three = refl

rises_three : rises_test history_of_three ≡ true
unfolding all_below
rises_three = refl

overlaps_three : overlaps_test history_of_three ≡ true
unfolding all_below ones ones_in
overlaps_three = refl

-- nodes 1 and 2 are held, view 6 is kept
pub supposed_three : Supposed one_shard_settings (view_of_all 6 14) 6 desk_of_three history_of_three
supposed_three =
    record {
      rule = rule_of history_of_three rises_three overlaps_three;
      true_reports = reports_of one_shard_settings three_views (7 ∷ 14 ∷ 16 ∷ []) desk_of_three 6 (0 ∷ 1 ∷ 1 ∷ []) reports_three;
      place = 1;
      listed = listed_at one_shard_settings history_of_three 1 (omega arith);
    }

-- their slots are sound and the quorum is met
pub slots_three : slots_ok one_shard_settings (view_of_all 6 14) no_termination 6 desk_of_three ≡ true
unfolding desk_of_three all_below any_below lowest tabulate unless unless_at first_of place following row5 row8 precedes shards_where row6 view_ok row7 kind_ok plain kind_at shard_at surplus sequence_at complete shard_apart row10_at row10 is_position view_fits legal row11_at body_word body_of contents_of records_refusal head_refusal message_refusal slot report_of same_view row12 same_termination row13 term_kept slot_ok slots_ok
slots_three = refl

pub met_three : quorum_of one_shard_settings (view_of_all 6 14) no_termination 6 desk_of_three ≡ Met
unfolding desk_of_three ones ones_in all_below any_below lowest tabulate pair_not_after place following body_word body_of contents_of end_of reaches holds has_update slot report_of candidate greatest best target able holder majority first_unheld quorum_of
met_three = refl

claims_three : Claims one_shard_settings (view_of_all 6 14) no_termination 6 desk_of_three
claims_three =
    claims one_shard_settings (view_of_all 6 14) no_termination 6 desk_of_three (omega arith) slots_three
    (quorum_given one_shard_settings (view_of_all 6 14) no_termination 6 desk_of_three met_three)

-- all members of view 6 have logged its update 3
logged_three : implies (has 14) (λ n. holds_at desk_of_three 0 (pos 6 3) n) ≡ true
unfolding desk_of_three all_below any_below lowest tabulate place following body_word body_of contents_of reaches holds slot report_of
logged_three = refl

pub all_logged : (n : ℕ) → n < 32 → has 14 n ≡ true → history_of_three.updated n 0 (pos 6 3) ≡ true
all_logged = implies_at (has 14) (λ n. holds_at desk_of_three 0 (pos 6 3) n) logged_three

full_first : (i : ℕ) → i ≤ 1 → Full history_of_three i
unfolding all_below
full_first zero l = full_of history_of_three 0 refl
full_first (suc zero) l = full_of history_of_three 1 refl
full_first (suc (suc k)) l = absurd (omega arith)

pub record ThreeViewsRise : Type 0 where
  -- the first claim: views 5 and 6 were logged by all their members, and the kept view is no older than view 6
  pub newest : 6 ≤ (view_of_all 6 14).number.0
  -- and view 7 cannot have been, for with views 5 and 6 that would make it no newer than the kept view
  pub not_full : Full history_of_three 2 → ⊥
  -- the second: the update lies no further than the target, and node 2, the holder, has it
  pub within : not_after (pos 6 3) (target (view_of_all 6 14) no_termination 6 desk_of_three 0) ≡ true
  pub held : holds_at desk_of_three 0 (pos 6 3) (holder (view_of_all 6 14) no_termination 6 desk_of_three 0) ≡ true

pub three-views : ThreeViewsRise
three-views =
    record {
      newest = claims_three.newest history_of_three supposed_three 1 (omega arith) full_first;
      not_full = λ full. let z = claims_three.newest history_of_three supposed_three 2 (omega arith) (all full) in absurd (omega arith);
      within = (claims_three.within history_of_three supposed_three refl 0 (omega arith) (pos 6 3) all_logged).0;
      held = (claims_three.within history_of_three supposed_three refl 0 (omega arith) (pos 6 3) all_logged).1;
    }
  where
    all : Full history_of_three 2 → (i : ℕ) → i ≤ 2 → Full history_of_three i
    all full i l =
        ⊎_elim (λ k. full_first i (omega arith)) (λ k. let e : 2 ≡ i = omega arith in subst (Full history_of_three) e full) (lt_or_le i 2)
