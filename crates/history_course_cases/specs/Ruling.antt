-- A worked course of disks that keep the rule, from where the first restart of Worked was given up. Nodes 0 and 1 are restarted; node 1 gets the
-- plan's view, node 0 reports without it, and node 1 forgets it. They are restarted again, both get the view, and it counts: they serve.
use Rattle.std.specs.Prelude.{ℕ, true, List, [], ◌∷◌, ◌≡◌, take}
use Rattle.base_ids.specs.Definitions.{not_after}
use Rattle.report_views.specs.declared.Layout.{Layout}
use Rattle.report_views.specs.Definitions.{pos, holds_at, target, holder}
use Rattle.history_cases.specs.Supposing.{view_of_all}
use Rattle.history_open.specs.declared.Finding.TheVariants.{Sure, Never, Undecided}
use Rattle.history_open.specs.Definitions.{judged}
use Rattle.history_rule_laws.specs.Disks.{Attempt, attempted, seen_on, counting, listing, Disks}
use Rattle.history_course_cases.specs.Worked as worked

-- the first attempt: node 1 gets the view, node 0 reports without it, node 1 forgets it
abbrev pub lists_first : ℕ → List Layout
lists_first i = take i worked.first_views

abbrev before_all : List Layout
before_all = view_of_all 1 7 ∷ []

abbrev pub tried : Attempt 1
tried = attempted worked.after_given_up worked.carried_plan before_all

abbrev pub failed : Attempt 1
failed = seen_on tried 0 3

abbrev pub prepared_attempt : Attempt 1
prepared_attempt = seen_on tried 3 0

abbrev pub lists_second : ℕ → List Layout
lists_second = listing lists_first 1 before_all

pub record DiskRows : Type 0 where
  -- the disks keep the rule
  pub disks : Disks 1 worked.after_given_up worked.after_run lists_second (counting prepared_attempt ∷ failed ∷ [])
  -- what the leaders find meanwhile: of the first attempt's view with node 1 back alone, with both, and of the second's with both
  pub alone : judged 3 0 2 0 0 ≡ Undecided
  pub without_it : judged 3 0 2 1 0 ≡ Never
  pub both : judged 3 0 3 0 0 ≡ Sure
  -- the last plan has what was settled before
  pub kept : (not_after (pos 1 1) (target (view_of_all 2 3) worked.end_of_run 7 worked.desk_served 0) ≡ true)
      × (holds_at worked.desk_served 0 (pos 1 1) (holder (view_of_all 2 3) worked.end_of_run 7 worked.desk_served 0) ≡ true)
