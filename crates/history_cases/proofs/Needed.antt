-- Each place where demand 3's claims need what they suppose, by an example that has all the rest and in which the claim is false; and
-- for each clause of what is supposed a history or a report that fails it.
use Rattle.std.specs.Prelude.{true, [], ◌∷◌, ◌≡◌, refl}
use Rattle.std.proofs.Common.{arith}
use Rattle.std.specs.Int.Count.{ones, ones_in}
use Rattle.base_laws.specs.Bools.{clash}
use Rattle.base_laws.specs.Definitions.{all_below, any_below, lowest, pair_not_after, tabulate}
use Rattle.base_ids.specs.Definitions.{unless, unless_at, first_of}
use Rattle.message_format.specs.Definitions.{place, following, row5, row8, precedes, shards_where, row6, view_ok, row7, kind_ok, plain, kind_at, shard_at, surplus, sequence_at, complete, shard_apart, row10_at, row10, is_position, view_fits, legal, row11_at, body_word, body_of, contents_of, records_refusal, head_refusal, message_refusal}
use Rattle.report_views.specs.Definitions.{end_of, reaches, holds, has_update, slot, report_of, same_view, row12, same_termination, row13, term_kept, slot_ok, slots_ok, candidate, greatest, best, target, able, holder, majority, first_unheld, quorum_of}
use Rattle.history_laws.specs.Definitions.{Supposed}
use Rattle.history_cases.specs.Told.{overlaps_test, rises_test, rule_of, full_of, reports_test, reports_of, listed_at}
use Rattle.history_cases.specs.Supposing.{one_shard_settings, view_of_all}
use Rattle.history_cases.specs.Needed.{desk_of_two, skipped_views, skipped_history, OlderNeeded}

skipped_reports : reports_test one_shard_settings skipped_views (7 ∷ 60 ∷ 28 ∷ []) desk_of_two 3 [] ≡ true
unfolding desk_of_two all_below slot report_of contents_of body_of body_word tabulate place following lowest any_below
skipped_reports = refl

skipped_rises : rises_test skipped_history ≡ true
unfolding all_below
skipped_rises = refl

skipped_overlaps : overlaps_test skipped_history ≡ true
unfolding all_below ones ones_in
skipped_overlaps = refl

older_supposed : Supposed one_shard_settings (view_of_all 5 7) 3 desk_of_two skipped_history
older_supposed =
    record {
      rule = rule_of skipped_history skipped_rises skipped_overlaps;
      true_reports = reports_of one_shard_settings skipped_views (7 ∷ 60 ∷ 28 ∷ []) desk_of_two 3 [] skipped_reports;
      place = 0;
      listed = listed_at one_shard_settings skipped_history 0 (omega arith);
    }

pub older_needed : OlderNeeded
unfolding desk_of_two ones ones_in all_below any_below lowest tabulate pair_not_after unless unless_at first_of place following row5 row8 precedes shards_where row6 view_ok row7 kind_ok plain kind_at shard_at surplus sequence_at complete shard_apart row10_at row10 is_position view_fits legal row11_at body_word body_of contents_of records_refusal head_refusal message_refusal slot report_of same_view row12 same_termination row13 term_kept slot_ok slots_ok end_of reaches holds has_update candidate greatest best target able holder majority first_unheld quorum_of
older_needed =
    record {
      supposed = older_supposed;
      slots = refl;
      met = refl;
      full = full_of skipped_history 2 refl;
      older = λ f. clash (f.all 1 (omega arith) refl) refl;
      newer = omega arith;
    }
