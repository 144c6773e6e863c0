-- What is found of an open view of nodes 0, 1 and 2, row by row, computed. Node 3 is no member of it.
use Rattle.std.specs.Prelude.{◌≡◌, refl}
use Rattle.history_open.specs.declared.Finding.TheVariants.{Sure, Never, Undecided, Contradicted}
use Rattle.history_open.specs.Definitions.{says_sure, says_never, judged}

pub record OpenViewRows : Type 0 where
  -- one machine knows it, and be it no member
  pub known_alone : judged 7 8 0 0 0 ≡ Sure
  pub all-have : judged 7 0 7 0 0 ≡ Sure
  pub all_and_more_have : judged 7 0 15 0 0 ≡ Sure
  pub all_but_one_have : judged 7 0 5 0 0 ≡ Undecided
  -- as many as it has members have it, and node 1 is not among them
  pub a_stranger_has : judged 7 0 13 0 0 ≡ Undecided
  pub a_member_lacks : judged 7 0 5 2 0 ≡ Never
  pub a_member_and_a_stranger_lack : judged 7 0 5 10 0 ≡ Never
  pub a_stranger_lacks : judged 7 0 5 8 0 ≡ Undecided
  pub passed_by : judged 7 0 5 0 8 ≡ Never
  pub all_have_and_passed_by : judged 7 0 7 0 8 ≡ Contradicted
  pub known_and_a_member_lacks : judged 7 8 0 1 0 ≡ Contradicted
  -- where there are no members, that all of them have it says nothing
  pub no_members : judged 0 0 0 0 0 ≡ Undecided
  pub no_members_and_all_have : judged 0 0 7 0 0 ≡ Undecided

pub open_view_rows : OpenViewRows
unfolding says_sure says_never judged
open_view_rows =
    record {
      known_alone = refl;
      all-have = refl;
      all_and_more_have = refl;
      all_but_one_have = refl;
      a_stranger_has = refl;
      a_member_lacks = refl;
      a_member_and_a_stranger_lack = refl;
      a_stranger_lacks = refl;
      passed_by = refl;
      all_have_and_passed_by = refl;
      known_and_a_member_lacks = refl;
      no_members = refl;
      no_members_and_all_have = refl;
    }
