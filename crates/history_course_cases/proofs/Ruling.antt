-- A worked course of disks that keep the rule, from where the first restart of Worked was given up. Nodes 0 and 1 are restarted; node 1 gets the
-- plan's view, node 0 reports without it, and node 1 forgets it. They are restarted again, both get the view, and it counts: they serve.
use Rattle.std.specs.Prelude.{Bool, true, List, [], ◌∷◌, refl}
use Rattle.std.proofs.Common.{sym, ap, arith}
use Rattle.report_views.specs.Definitions.{pos}
use Rattle.history_laws.specs.Definitions.{Listed}
use Rattle.history_cases.specs.Told.{listed_at}
use Rattle.history_cases.specs.Supposing.{view_of_all}
use Rattle.history_open.specs.Definitions.{says_sure, says_never, judged}
use Rattle.history_course_laws.specs.Course.{Orderly, Settled}
use Rattle.history_course_laws.specs.Ever.{here, giving_up}
use Rattle.history_course_laws.proofs.Ever.{settles_on}
use Rattle.history_course_laws.specs.Counting.{Copies, now, got, went, forgot, first_orderly}
use Rattle.history_rule_laws.specs.Disks.{Attempt, counting, each_none, each_more, pass_none, pass_more, Counted, Idle, Disks, first, plans, passes, counted, served}
use Rattle.history_rule_laws.proofs.Stored.{stays_stored}
use Rattle.history_course_cases.specs.Worked as worked
use Rattle.history_course_cases.specs.Ruling.{lists_first, tried, failed, prepared_attempt, lists_second, DiskRows}

at-first : Listed worked.course_settings worked.after_given_up (view_of_all 1 7) 0
at-first = listed_at worked.course_settings worked.after_given_up 0 (omega arith)

one_has : Copies 3 0 0 2 0
one_has = got 0 0 1 refl refl now

one_lacks : Copies 3 0 0 2 1
one_lacks = went 2 0 0 refl one_has

forgotten : Copies 3 0 0 0 3
forgotten = forgot 2 1 1 0 refl refl one_lacks

disks_failed : Disks 1 worked.after_given_up worked.after_given_up lists_first (failed ∷ [])
disks_failed =
    passes worked.after_given_up lists_first (tried ∷ []) (failed ∷ []) (plans worked.after_given_up lists_first [] first worked.carried_plan each_none 0 at-first)
    (pass_more tried 0 3 [] [] forgotten pass_none)

-- the second: both get it
both_have : Copies 3 0 0 3 0
both_have = got 1 0 1 refl refl (got 0 0 0 refl refl now)

disks_prepared : Disks 1 worked.after_given_up worked.after_given_up lists_first (prepared_attempt ∷ failed ∷ [])
disks_prepared =
    passes worked.after_given_up lists_first (tried ∷ failed ∷ []) (prepared_attempt ∷ failed ∷ [])
    (plans worked.after_given_up lists_first (failed ∷ []) disks_failed worked.carried_plan (each_more failed [] (record { asked = λ c n l h. h }) each_none) 0 at-first)
    (pass_more tried 3 0 (failed ∷ []) (failed ∷ []) both_have (pass_more failed 0 3 [] [] now pass_none))

counts_second : Counted prepared_attempt worked.after_carried
counts_second = record { views = refl; remembered = worked.remembered_second; logs = λ n l h. h; ordered = worked.ordered_second }

abbrev counts_first : List (Attempt 1) → Bool
counts_first [] = true
counts_first (a ∷ l) = a.counts

idle_second : Idle (counting prepared_attempt ∷ failed ∷ [])
idle_second = record { latest = λ a u e. sym (ap counts_first e) }

disks_served : Disks 1 worked.after_given_up worked.after_run lists_second (counting prepared_attempt ∷ failed ∷ [])
disks_served =
    served worked.after_carried worked.after_run lists_second (counting prepared_attempt ∷ failed ∷ [])
    (counted worked.after_given_up worked.after_carried lists_first prepared_attempt (failed ∷ []) disks_prepared refl refl counts_second)
    idle_second Rattle.history_course_cases.proofs.Worked.served refl

-- update 1 of view 1 is settled also after the restart that was given up
settled-again : Settled worked.after_given_up 0 (pos 1 1)
settled-again =
    settles_on worked.orderly_first 0 (omega arith) (pos 1 1) worked.settled_first
    (giving_up worked.at_first worked.after_given_up here worked.given_up_plan worked.given_up)

orderly-again : Orderly worked.after_given_up
orderly-again = first_orderly (view_of_all 1 7) (worked.after_given_up).logged (worked.after_given_up).updated

pub disk_rows : DiskRows
unfolding says_sure says_never judged
disk_rows =
    record {
      disks = disks_served;
      alone = refl;
      without_it = refl;
      both = refl;
      kept = stays_stored orderly-again disks_served worked.last_plan 0 (omega arith) (pos 1 1) settled-again;
    }
