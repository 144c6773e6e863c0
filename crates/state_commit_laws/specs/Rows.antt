-- The definitions on short sequences of events, the latest first; node 0 is held where nothing else is said.
use Rattle.std.specs.Prelude.{ℕ, Bool, true, false, ◌||◌, List, [], ◌∷◌, ◌≡◌, refl, eqb}
use Rattle.std.proofs.Common.{sym, ap, ◌∙◌, subst, eqb-true}
use Rattle.base_laws.specs.Bools.{clash}
use Rattle.base_laws.specs.Definitions.{has}
use Rattle.base_laws.specs.Masks.{has_with, has_zero}
use Rattle.base_ids.specs.Definitions.{none, refused}
use Rattle.report_views.specs.declared.Reason.TheVariants.{NoPlacement}
use Rattle.state_planner.specs.declared.Decision.{Decision}
use Rattle.state_commit_laws.specs.Events.{Deed, NothingDone, Appeared, DropDone, PlanDone, Fetched, PrepareDone, is_planned, is_dropped, is_fetched, is_prepared, some_of, made, since, done, Committing, if_taken, happened_by}

-- one of each
abbrev all_deeds : List Deed
all_deeds = NothingDone ∷ Appeared ∷ DropDone ∷ PlanDone ∷ Fetched 0 ∷ PrepareDone 0 ∷ []

-- which of them is such
unfoldable pub which : (Deed → Bool) → List Deed → List Bool
which f [] = []
which f (h ∷ l) = f h ∷ which f l

-- each event
pub record EventRows : Type 0 where
  pub plans : which is_planned all_deeds ≡ false ∷ false ∷ false ∷ true ∷ false ∷ false ∷ []
  pub drops : which is_dropped all_deeds ≡ false ∷ false ∷ true ∷ false ∷ false ∷ false ∷ []
  pub fetches : which (is_fetched 0) all_deeds ≡ false ∷ false ∷ false ∷ false ∷ true ∷ false ∷ []
  pub prepares : which (is_prepared 0) all_deeds ≡ false ∷ false ∷ false ∷ false ∷ false ∷ true ∷ []
  pub fetches_another : which (is_fetched 1) all_deeds ≡ false ∷ false ∷ false ∷ false ∷ false ∷ false ∷ []
  pub prepares_another : which (is_prepared 1) all_deeds ≡ false ∷ false ∷ false ∷ false ∷ false ∷ false ∷ []
  pub none_made : made [] ≡ false
  pub not_made : made (Appeared ∷ NothingDone ∷ []) ≡ false
  pub made_once : made (Appeared ∷ DropDone ∷ PlanDone ∷ NothingDone ∷ []) ≡ true

-- the last plan
pub record SinceRows : Type 0 where
  pub since_nothing : since [] ≡ []
  pub since_start : since (Appeared ∷ NothingDone ∷ []) ≡ Appeared ∷ NothingDone ∷ []
  pub since_last : since (Fetched 0 ∷ NothingDone ∷ PlanDone ∷ DropDone ∷ PlanDone ∷ []) ≡ Fetched 0 ∷ NothingDone ∷ []

-- fetched, then prepared
pub record DoneRows : Type 0 where
  pub done_none : done 0 [] ≡ false
  pub done_both : done 0 (NothingDone ∷ PrepareDone 0 ∷ PrepareDone 1 ∷ Fetched 1 ∷ Fetched 0 ∷ []) ≡ true
  pub done_turned : done 0 (Fetched 0 ∷ PrepareDone 0 ∷ []) ≡ false
  pub done_half : done 0 (Fetched 0 ∷ []) ≡ false
  pub done_unfetched : done 0 (PrepareDone 0 ∷ Fetched 1 ∷ []) ≡ false
  pub done_unprepared : done 0 (PrepareDone 1 ∷ Fetched 0 ∷ []) ≡ false

-- what a call did, and when that is committing
pub record CommitRows : Type 0 where
  pub taken : if_taken none Appeared ≡ Appeared
  pub not_taken : if_taken (refused 4) Appeared ≡ NothingDone
  pub told_planned : happened_by Decision.Planned ≡ PlanDone
  pub told_wait : happened_by (Decision.Wait (NoPlacement 0)) ≡ NothingDone
  pub told_refused : happened_by (Decision.Refused (refused 3)) ≡ NothingDone
  -- an earlier attempt that was dropped does not count
  pub second_attempt : Committing (PrepareDone 0 ∷ NothingDone ∷ Fetched 0 ∷ PlanDone ∷ Appeared ∷ DropDone ∷ Fetched 0 ∷ PlanDone ∷ []) 1
  -- nobody held: a plan is asked for
  pub without_plan : Committing [] 0 → ⊥
  -- and no drop after it
  pub after-drop : Committing (DropDone ∷ PlanDone ∷ []) 0 → ⊥
  -- every held node is marked, with both marks, in their order, since the last plan
  pub one_unmarked : Committing (PrepareDone 0 ∷ Fetched 0 ∷ PlanDone ∷ []) 3 → ⊥
  pub half_marked : Committing (Fetched 0 ∷ PlanDone ∷ []) 1 → ⊥
  pub turned : Committing (Fetched 0 ∷ PrepareDone 0 ∷ PlanDone ∷ []) 1 → ⊥
  pub planned-again : Committing (PlanDone ∷ PrepareDone 0 ∷ Fetched 0 ∷ PlanDone ∷ []) 1 → ⊥

-- node 0 alone is held
only_zero : (n : ℕ) → has 1 n ≡ true → 0 ≡ n
only_zero n h = eqb-true 0 n (sym (has_with 0 0 n ∙ ap (λ (b : Bool). b || eqb 0 n) (has_zero n)) ∙ h)

pub event_rows : EventRows
unfolding which is_planned is_dropped is_fetched is_prepared some_of
event_rows =
    record {
      plans = refl;
      drops = refl;
      fetches = refl;
      prepares = refl;
      fetches_another = refl;
      prepares_another = refl;
      none_made = refl;
      not_made = refl;
      made_once = refl;
    }

pub since_rows : SinceRows
unfolding is_planned since
since_rows =
    record {
      since_nothing = refl;
      since_start = refl;
      since_last = refl;
    }

pub done_rows : DoneRows
unfolding is_fetched is_prepared some_of done
done_rows =
    record {
      done_none = refl;
      done_both = refl;
      done_turned = refl;
      done_half = refl;
      done_unfetched = refl;
      done_unprepared = refl;
    }

pub commit_rows : CommitRows
unfolding is_planned is_dropped is_fetched is_prepared some_of since done if_taken happened_by
commit_rows =
    record {
      taken = refl;
      not_taken = refl;
      told_planned = refl;
      told_wait = refl;
      told_refused = refl;
      second_attempt =
          record {
            plan = refl;
            no_drop = refl;
            marked = λ n h. subst (λ (k : ℕ). done k (PrepareDone 0 ∷ NothingDone ∷ Fetched 0 ∷ []) ≡ true) (only_zero n h) refl;
          };
      without_plan = λ c. clash c.plan refl;
      after-drop = λ c. clash refl c.no_drop;
      one_unmarked = λ c. clash (c.marked 1 refl) refl;
      half_marked = λ c. clash (c.marked 0 refl) refl;
      turned = λ c. clash (c.marked 0 refl) refl;
      planned-again = λ c. clash (c.marked 0 refl) refl;
    }
