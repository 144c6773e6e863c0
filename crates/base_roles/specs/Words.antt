-- A row for each clause of the roles: with the clause left out or turned round the row would be false.
use Rattle.std.specs.Prelude.{true, false, ◌≡◌, refl}
use Rattle.base_roles.specs.declared.Role.TheVariants.{Planner, Watcher}
use Rattle.base_roles.specs.Definitions.{role_of, may_plan, may_read}

pub record RoleClauses : Type 0 where
  -- words: 256 alone is the planner's, 512 + g a watcher's; those beside them are nobody's, 0 among them
  pub planner : role_of 256 ≡ Planner
  pub watcher_0 : role_of 512 ≡ Watcher 0
  pub watcher_3 : role_of 515 ≡ Watcher 3
  pub watcher_4 : role_of 516 ≡ Watcher 4
  pub watcher_255 : role_of 767 ≡ Watcher 255
  pub never_set : role_of 0 ≡ Watcher 4
  pub word_1 : role_of 1 ≡ Watcher 4
  pub below_planner : role_of 255 ≡ Watcher 4
  pub above_planner : role_of 257 ≡ Watcher 4
  pub below_watchers : role_of 511 ≡ Watcher 4
  pub above_watchers : role_of 768 ≡ Watcher 4
  pub greatest : role_of 4294967295 ≡ Watcher 4
  -- operations: the planner's alone
  pub plans : may_plan Planner ≡ true
  pub watches : may_plan (Watcher 0) ≡ false
  -- pages: the planner has all four, a watcher its own, and above 3 there is none for anybody
  pub planner_first : may_read Planner 0 ≡ true
  pub planner_last : may_read Planner 3 ≡ true
  pub planner_above : may_read Planner 4 ≡ false
  pub own : may_read (Watcher 3) 3 ≡ true
  pub lower : may_read (Watcher 3) 2 ≡ false
  pub higher : may_read (Watcher 2) 3 ≡ false
  pub own_above : may_read (Watcher 4) 4 ≡ false

pub role_clauses : RoleClauses
unfolding role_of may_read
role_clauses =
    record {
      planner = refl;
      watcher_0 = refl;
      watcher_3 = refl;
      watcher_4 = refl;
      watcher_255 = refl;
      never_set = refl;
      word_1 = refl;
      below_planner = refl;
      above_planner = refl;
      below_watchers = refl;
      above_watchers = refl;
      greatest = refl;
      plans = refl;
      watches = refl;
      planner_first = refl;
      planner_last = refl;
      planner_above = refl;
      own = refl;
      lower = refl;
      higher = refl;
      own_above = refl;
    }
