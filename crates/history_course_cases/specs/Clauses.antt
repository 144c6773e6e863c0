-- For each clause of what a course asks an example that fails it, or that it lets pass; and the disks of a view that nobody knows to be
-- committed.
use Rattle.std.specs.Prelude.{ℕ, zero, suc, ◌<◌, true, false, List, [], ◌∷◌, ◌≡◌, refl, get_or, replicate}
use Rattle.std.proofs.Common.{sym, ◌∙◌, arith}
use Rattle.std.specs.Int.Bits.{bit_and}
use Rattle.std.proofs.lemmas.Nat.{and_le_r}
use Rattle.std.specs.Int.Count.{ones, ones_in}
use Rattle.base_laws.specs.Bools.{clash, and_both, and_left}
use Rattle.base_laws.specs.Definitions.{all_below, any_below, has, subset, pair_not_after}
use Rattle.base_laws.specs.Masks.{has_and, has_zero, subset_of}
use Rattle.base_laws.proofs.Masks.{count_subset}
use Rattle.base_ids.specs.declared.Position.{Position}
use Rattle.report_views.specs.declared.Layout.{Layout}
use Rattle.report_views.specs.declared.Termination.{Termination}
use Rattle.report_views.specs.Definitions.{pos, start}
use Rattle.history_laws.specs.Definitions.{History}
use Rattle.history_cases.specs.Told.{full_of}
use Rattle.history_cases.specs.Supposing.{view_of_all}
use Rattle.history_course_laws.specs.Course.{Succeeded, Orderly, Settled, Serves, PlannedView, Covers}
use Rattle.history_course_laws.specs.Counting.{Copies, now, got, went, forgot, OneLacks, all_have}
use Rattle.history_course_cases.specs.Steps.{succeeded_of, not_succeeded, orderly_of, settled_of}
use Rattle.history_course_cases.specs.Worked.{course_settings}
use Rattle.history_course_cases.specs.Duties.{view_with}

-- a history told by masks: of those that have logged each view, and of those that have logged all updates
abbrev pub bare_history : List Layout → List ℕ → ℕ → History
bare_history views logs mask = record { views = views; logged = λ n i. has (get_or logs i 0) n; updated = λ n s p. has mask n }

-- nodes 0 to 2 have logged view 1, and some of them view 2, whose shard nodes 0 and 1 carry; those of the mask have the updates
abbrev pub two_views : ℕ → ℕ → History
two_views by mask = bare_history (view_with 1 7 3 ∷ view_with 2 7 3 ∷ []) (7 ∷ by ∷ []) mask

-- a third view, which nodes 0 and 1 have logged
abbrev pub changed_view : History
changed_view = bare_history (view_with 1 7 3 ∷ view_with 2 7 3 ∷ view_with 3 3 3 ∷ []) (7 ∷ 7 ∷ 3 ∷ []) 3

-- nodes 0 to 3, of which just half have logged the next view
abbrev pub half_later : History
half_later = bare_history (view_of_all 1 15 ∷ view_of_all 2 7 ∷ []) (15 ∷ 3 ∷ []) 0

half_fails : Succeeded half_later 0 → ⊥
unfolding ones ones_in
half_fails s = let few = count_subset (bit_and s.by 15) 3 inside in absurd (omega (arith, s.most))
  where
    second : (n j : ℕ) → 0 < j → j < 2 → has (get_or (15 ∷ 3 ∷ []) j 0) n ≡ true → has 3 n ≡ true
    second n zero after below h = absurd (omega arith)
    second n (suc zero) after below h = h
    second n (suc (suc j)) after below h = absurd (omega arith)

    inside : subset (bit_and s.by 15) 3 ≡ true
    inside =
        subset_of 32 (bit_and s.by 15) 3 (omega (arith, and_le_r s.by 15))
        (λ n l h.
        let (j, after, below, logged) = s.later n l (and_left (has s.by n) (has 15 n) (sym (has_and s.by 15 n) ∙ h)) in
        second n j after below logged)

-- a termination that ends the shard before its first update
abbrev pub ended_at_start : Termination
ended_at_start = record { made = true; positions = replicate 16 start }

pub record CourseClauses : Type 0 where
  -- Succeeded: just half of the members are too few; a later view counts, not only the next; the view itself does not
  pub half : Succeeded half_later 0 → ⊥
  pub later : Succeeded (bare_history (view_of_all 1 7 ∷ view_of_all 2 7 ∷ view_of_all 3 7 ∷ []) (7 ∷ 1 ∷ 6 ∷ []) 0) 0
  pub itself : Succeeded (two_views 0 0) 0 → ⊥
  -- Orderly: of every view but the last
  pub orderly : Orderly (two_views 3 0)
  pub unordered : Orderly (two_views 1 0) → ⊥
  -- Settled: a member of the shard in the last view that has logged it and lacks the update; one that has not logged it; no member
  pub lacks : Settled (two_views 7 1) 0 (pos 1 1) → ⊥
  pub unlogged : Settled (two_views 5 1) 0 (pos 1 1)
  pub no_member : Settled (two_views 7 3) 0 (pos 1 1)
  -- Serves: all members have logged the view before the run; the history after it is orderly; what was settled is
  pub begun : Serves 1 (two_views 3 0) (two_views 7 0) → ⊥
  pub standing : Serves 1 (two_views 7 0) (two_views 1 0) → ⊥
  pub keeps : Serves 1 (two_views 7 3) (two_views 7 1) → ⊥
  -- a run may change the view, and drop what was not settled
  pub changes : Serves 1 (two_views 7 3) changed_view
  pub drops : Serves 1 (two_views 7 1) (two_views 7 0)
  -- Next: the next number, the held nodes as members, and no other node placed
  pub number : PlannedView course_settings (view_of_all 1 7) 3 (view_of_all 1 3) → ⊥
  pub members : PlannedView course_settings (view_of_all 1 7) 3 (view_of_all 2 7) → ⊥
  pub placed : PlannedView course_settings (view_of_all 1 7) 3 (view_with 2 3 6) → ⊥
  -- Covers: no settled update lies past a termination that is kept
  pub ended : Covers course_settings ended_at_start (two_views 7 3) → ⊥
  -- a view of nodes 0 to 2 counts if all have it, also where others do not; it does not count if a member has reported without it. Two of the
  -- three, or a machine that is no member, say neither
  pub all-have : all_have 7 7 ≡ true
  pub two_have : all_have 7 3 ≡ false
  pub member : OneLacks 7 4
  pub stranger : OneLacks 3 4 → ⊥
  -- the disks: nodes 0 and 1 get it, node 2 reports without it, and then nodes 0 and 1 forget it
  pub forgotten : Copies 7 0 0 0 7
  -- all get it, and a machine that is no member reports without it
  pub kept : Copies 7 0 0 7 8

pub course_clauses : CourseClauses
unfolding all_below any_below ones ones_in pair_not_after
course_clauses =
    record {
      half = half_fails;
      later = succeeded_of (bare_history (view_of_all 1 7 ∷ view_of_all 2 7 ∷ view_of_all 3 7 ∷ []) (7 ∷ 1 ∷ 6 ∷ []) 0) 0 6 refl;
      itself = not_succeeded (two_views 0 0) 0 7 (omega arith) (omega arith) refl;
      orderly = orderly_of (two_views 3 0) (3 ∷ []) refl refl refl;
      unordered = λ o. not_succeeded (two_views 1 0) 0 6 (omega arith) (omega arith) refl (o.succeeded 0 (omega arith));
      lacks = λ s. clash (s.all 1 (omega arith) refl refl) refl;
      unlogged = settled_of (two_views 5 1) 0 (pos 1 1) refl;
      no_member = settled_of (two_views 7 3) 0 (pos 1 1) refl;
      begun = λ s. clash (s.begun.all 2 (omega arith) refl) refl;
      standing = λ s. not_succeeded (two_views 1 0) 0 6 (omega arith) (omega arith) refl (s.standing.succeeded 0 (omega arith));
      keeps = λ s. clash ((s.keeps 0 (omega arith) (pos 1 1) (settled_of (two_views 7 3) 0 (pos 1 1) refl)).all 1 (omega arith) refl refl) refl;
      changes =
          record {
            begun = full_of (two_views 7 3) 1 refl;
            standing = orderly_of changed_view (7 ∷ 3 ∷ []) refl refl refl;
            keeps = λ s l p h. settled_changed s p l;
          };
      drops =
          record {
            begun = full_of (two_views 7 1) 1 refl;
            standing = orderly_of (two_views 7 0) (7 ∷ []) refl refl refl;
            keeps = λ s l p h. unsettled s p l h;
          };
      number = λ n. let z = n.number in absurd (omega arith);
      members = λ n. let z = n.members in absurd (omega arith);
      placed = λ n. clash (n.placed 0 (omega arith) 2 (omega arith) refl) refl;
      ended = λ c. clash (c.after refl 0 (omega arith) (pos 1 1) (settled_of (two_views 7 3) 0 (pos 1 1) refl)) refl;
      all-have = refl;
      two_have = refl;
      member = record { one = 2; member = refl; lacks = refl };
      stranger = λ l. no_stranger l.one l.member l.lacks;
      forgotten = forgot 2 5 1 2 refl refl (forgot 3 4 0 2 refl refl (went 3 0 2 refl (got 1 0 1 refl refl (got 0 0 0 refl refl now))));
      kept = went 7 0 3 refl (got 3 0 2 refl refl (got 1 0 1 refl refl (got 0 0 0 refl refl now)));
    }
  where
    settled_changed : (s : ℕ) (p : Position) → s < 1 → Settled changed_view s p
    settled_changed zero p l = settled_of changed_view 0 p refl
    settled_changed (suc s) p l = absurd (omega arith)

    unsettled : (s : ℕ) (p : Position) → s < 1 → Settled (two_views 7 1) s p → Settled (two_views 7 0) s p
    unsettled zero p l h = clash (h.all 1 (omega arith) refl refl) refl
    unsettled (suc s) p l h = absurd (omega arith)

    no_stranger : (n : ℕ) → has 3 n ≡ true → has 4 n ≡ true → ⊥
    no_stranger n a b = clash (has_and 3 4 n ∙ and_both a b) (has_zero n)
