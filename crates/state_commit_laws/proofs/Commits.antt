-- Committed is reached exactly when it should be: the marks of a state are what happened since the last plan.
use Rattle.std.specs.Prelude.{ℕ, Bool, true, false, cond, ◌&&◌, ◌||◌, List, [], ◌∷◌, ◌⊎◌, ◌≡◌, eqb}
use Rattle.std.proofs.Math.Bool.{not}
use Rattle.std.proofs.Common.{inl, inr, sym, ap, ◌∙◌, subst}
use Rattle.std.proofs.Math.Logic.{⊎_elim}
use Rattle.std.proofs.Math.Path.{refl}
use borrow.Author.Tests.{eqb-true, eq-eqb}
use Rattle.base_laws.specs.Bools.{clash, same, and_both, and_left, and_right, or_left, or_right, or-holds, of_not_true}
use Rattle.base_laws.specs.Definitions.{has, with, subset}
use Rattle.base_laws.specs.Masks.{has_zero, has_with, ext_all, subset_has}
use Rattle.base_ids.specs.Definitions.{none}
use Rattle.message_format.specs.Definitions.{contents_of}
use Rattle.report_views.specs.declared.Phase.{Phase}
use Rattle.report_views.specs.declared.Phase.TheVariants.{Gathering, Ordered, Preparing, Committed}
use Rattle.report_views.specs.declared.Plan.{Plan}
use Rattle.report_views.specs.Definitions.{marks_sound, plan_sound, is_gathering, is_ordered, is_preparing, is_committed}
use Rattle.state_planner.specs.declared.State.{State}
use Rattle.state_planner.specs.Definitions.{fresh, planned, keeping, holding, restarted, marked, desk_ok, report_refusal, drop_refusal, decide_refusal, fetched_refusal, prepared_refusal, after_report, dropped_in, after_drop, after_fetched, after_prepared}
use Rattle.state_laws.specs.Parts.{sound_given, entry_given, node_given, report_given, gathering_is, ordered_is, preparing_is}
use Rattle.state_laws.specs.AfterReport.{report_sound}
use Rattle.state_laws.proofs.AfterDrop.{drop_sound}
use Rattle.state_laws.specs.AfterMarks.{fetched_sound, prepared_sound}
use Rattle.state_laws.specs.AfterPlan.{plan-sound}
use Rattle.state_commit_laws.specs.Events as events
use Rattle.state_commit_laws.specs.Events.{Deed, Happens, LedTo, is_planned, is_dropped, is_fetched, is_prepared, some_of, made, since, done, Committing}

-- outside gathering
record HasMarks (l : List Deed) (x : State) : Type 0 where
  plan : made l ≡ true
  no_drop : some_of is_dropped (since l) ≡ false
  fetched : (n : ℕ) → has x.fetched n ≡ some_of (is_fetched n) (since l)
  prepared : (n : ℕ) → has x.prepared n ≡ some_of (is_prepared n) (since l)
  order : (n : ℕ) → some_of (is_prepared n) (since l) ≡ true → done n (since l) ≡ true

record Traced (l : List Deed) (x : State) : Type 0 where
  marks : marks_sound x.phase x.held x.fetched x.prepared ≡ true
  gathering : x.phase ≡ Gathering → (made l ≡ false) ⊎ (some_of is_dropped (since l) ≡ true)
  outside : (x.phase ≡ Gathering → ⊥) → HasMarks l x

-- phases differ
apart : (p q : Phase) → p ≡ q → (k : Phase → Bool) → k p ≡ true → k q ≡ false → ⊥
apart p q e k a b = clash (subst (λ (r : Phase). k r ≡ true) e a) b

-- nothing, and a report while gathering
quiet : (l : List Deed) (h : Deed) → is_planned h ≡ false → is_dropped h ≡ false
    → (made l ≡ false) ⊎ (some_of is_dropped (since l) ≡ true) → (made (h ∷ l) ≡ false) ⊎ (some_of is_dropped (since (h ∷ l)) ≡ true)
unfolding some_of since
quiet l h a b (inl e) = inl (rw a e)
quiet l h a b (inr e) = inr (rw a (rw b e))

dropped_now : (l : List Deed) → some_of is_dropped (since (events.DropDone ∷ l)) ≡ true
unfolding some_of since is_planned is_dropped
dropped_now l = refl

told_nothing : (l : List Deed) (x : State) → Traced l x → Traced (events.NothingDone ∷ l) x
unfolding some_of since is_planned is_dropped is_fetched is_prepared done
told_nothing l x t = record {
  marks = t.marks;
  gathering = λ e. t.gathering e;
  outside = λ e. let m = t.outside e in record { plan = m.plan; no_drop = m.no_drop; fetched = m.fetched; prepared = m.prepared; order = m.order };
}

told_report : (l : List Deed) (σ : List ℕ) (x : State) (d w : List ℕ) → report_refusal σ x d w ≡ none → Traced l x → Traced (events.Appeared ∷ l) (after_report σ x (contents_of w))
unfolding after_report keeping is_planned is_dropped
told_report l σ x d w h t =
    let phase : x.phase ≡ Gathering = gathering_is x.phase (report_given σ x d w h).entered.in-phase in
    record {
      marks = (sound_given σ (after_report σ x (contents_of w)) _ (report_sound σ x d w h)).marks-sound;
      gathering = λ e. quiet l events.Appeared refl refl (t.gathering phase);
      outside = λ e. absurd (e phase);
    }

drop_gathers : (p : Phase) (x : State) (n : ℕ) → x.phase ≡ p → not (is_committed p) ≡ true → (dropped_in p x n).phase ≡ Gathering
unfolding dropped_in holding restarted
drop_gathers Gathering x n e h = e
drop_gathers Ordered x n e h = refl
drop_gathers Preparing x n e h = refl
drop_gathers Committed x n e h = clash h refl

told_drop : (l : List Deed) (σ : List ℕ) (x : State) (d : List ℕ) (n : ℕ) → drop_refusal σ x d n ≡ none → Traced (events.DropDone ∷ l) (after_drop x n)
unfolding drop_refusal
told_drop l σ x d n h =
    let taken = node_given (desk_ok d) σ x d (not (is_committed x.phase)) n (has x.held n) h in
    let phase = drop_gathers x.phase x n refl taken.entered.in-phase in
    record {
      marks = (sound_given σ (after_drop x n) d (drop_sound σ x d n h)).marks-sound;
      gathering = λ e. inr (dropped_now l);
      outside = λ e. absurd (e phase);
    }

-- ---- marks

marks_none : (p : Phase) (held fetched prepared : ℕ) → p ≡ Gathering → marks_sound p held fetched prepared ≡ true → (fetched ≡ 0) × (prepared ≡ 0)
unfolding marks_sound
marks_none Gathering held fetched prepared e h = (eqb-true fetched 0 (and_left (eqb fetched 0) (eqb prepared 0) h), eqb-true prepared 0 (and_right (eqb fetched 0) (eqb prepared 0) h))
marks_none Ordered held fetched prepared e h = absurd (apart Ordered Gathering e is_ordered refl refl)
marks_none Preparing held fetched prepared e h = absurd (apart Preparing Gathering e is_preparing refl refl)
marks_none Committed held fetched prepared e h = absurd (apart Committed Gathering e is_committed refl refl)

told_plan : (l : List Deed) (σ : List ℕ) (x : State) (d : List ℕ) (p : Plan) → decide_refusal σ x d ≡ none
    → plan_sound σ x.kept x.termination x.held d p ≡ true → Traced (events.PlanDone ∷ l) (planned x p)
unfolding decide_refusal planned some_of since is_planned
told_plan l σ x d p h k =
    let entered = entry_given (desk_ok d) σ x d (is_gathering x.phase) h in
    let none_yet = marks_none x.phase x.held x.fetched x.prepared (gathering_is x.phase entered.in-phase) (sound_given σ x d entered.state_sound).marks-sound in
    record {
      marks = (sound_given σ (planned x p) d (plan-sound σ x d p h k)).marks-sound;
      gathering = λ e. absurd (apart Ordered Gathering e is_ordered refl refl);
      outside = λ e. record {
        plan = refl;
        no_drop = refl;
        fetched = λ n. ap (λ (m : ℕ). has m n) none_yet.0 ∙ has_zero n;
        prepared = λ n. ap (λ (m : ℕ). has m n) none_yet.1 ∙ has_zero n;
        order = λ n q. clash q refl;
      };
    }

or_swap : (a b : Bool) → (a || b) ≡ (b || a)
or_swap true true = refl
or_swap true false = refl
or_swap false true = refl
or_swap false false = refl

-- a phase that follows a mark is not gathering
next_phase : (b : Bool) (p q : Phase) → (p ≡ Gathering → ⊥) → (q ≡ Gathering → ⊥) → cond b p q ≡ Gathering → ⊥
next_phase true p q f g e = f e
next_phase false p q f g e = g e

ordered_not : Ordered ≡ Gathering → ⊥
ordered_not e = apart Ordered Gathering e is_ordered refl refl

preparing_not : Preparing ≡ Gathering → ⊥
preparing_not e = apart Preparing Gathering e is_preparing refl refl

committed_not : Committed ≡ Gathering → ⊥
committed_not e = apart Committed Gathering e is_committed refl refl

told_fetch : (l : List Deed) (σ : List ℕ) (x : State) (d : List ℕ) (n : ℕ) → fetched_refusal σ x d n ≡ none → Traced l x → Traced (events.Fetched n ∷ l) (after_fetched x n)
unfolding fetched_refusal after_fetched marked some_of since is_planned is_dropped is_fetched is_prepared done
told_fetch l σ x d n h t =
    let taken = node_given (desk_ok d) σ x d (is_ordered x.phase) n (has x.held n && not (has x.fetched n)) h in
    let phase : x.phase ≡ Ordered = ordered_is x.phase taken.entered.in-phase in
    let m = t.outside (λ e. ordered_not (sym phase ∙ e)) in
    record {
      marks = (sound_given σ (after_fetched x n) d (fetched_sound σ x d n h)).marks-sound;
      gathering = λ e. absurd (next_phase (eqb (with x.fetched n) x.held) Preparing Ordered preparing_not ordered_not e);
      outside = λ e. record {
        plan = m.plan;
        no_drop = m.no_drop;
        fetched = λ k. has_with x.fetched n k ∙ (ap (λ (b : Bool). b || eqb n k) (m.fetched k) ∙ or_swap (some_of (is_fetched k) (since l)) (eqb n k));
        prepared = m.prepared;
        order = m.order;
      };
    }

marks_fetched : (p : Phase) (held fetched prepared : ℕ) → p ≡ Preparing → marks_sound p held fetched prepared ≡ true → fetched ≡ held
unfolding marks_sound
marks_fetched Preparing held fetched prepared e h =
    eqb-true fetched held (and_left (eqb fetched held) (subset prepared held) (and_left (eqb fetched held && subset prepared held) (not (eqb prepared held)) h))
marks_fetched Gathering held fetched prepared e h = absurd (preparing_not (sym e))
marks_fetched Ordered held fetched prepared e h = absurd (apart Ordered Preparing e is_ordered refl refl)
marks_fetched Committed held fetched prepared e h = absurd (apart Committed Preparing e is_committed refl refl)

told_prepare : (l : List Deed) (σ : List ℕ) (x : State) (d : List ℕ) (n : ℕ) → prepared_refusal σ x d n ≡ none → Traced l x → Traced (events.PrepareDone n ∷ l) (after_prepared x n)
unfolding prepared_refusal after_prepared marked some_of since is_planned is_dropped is_fetched is_prepared done
told_prepare l σ x d n h t =
    let taken = node_given (desk_ok d) σ x d (is_preparing x.phase) n (has x.held n && not (has x.prepared n)) h in
    let phase : x.phase ≡ Preparing = preparing_is x.phase taken.entered.in-phase in
    let m = t.outside (λ e. preparing_not (sym phase ∙ e)) in
    let mine : has x.held n ≡ true = and_left (has x.held n) (not (has x.prepared n)) taken.node-ok in
    let had : some_of (is_fetched n) (since l) ≡ true =
    sym (m.fetched n) ∙ (ap (λ (k : ℕ). has k n) (marks_fetched x.phase x.held x.fetched x.prepared phase t.marks) ∙ mine) in
    record {
      marks = (sound_given σ (after_prepared x n) d (prepared_sound σ x d n h)).marks-sound;
      gathering = λ e. absurd (next_phase (eqb (with x.prepared n) x.held) Committed Preparing committed_not preparing_not e);
      outside = λ e. record {
        plan = m.plan;
        no_drop = m.no_drop;
        fetched = m.fetched;
        prepared = λ k. has_with x.prepared n k ∙ (ap (λ (b : Bool). b || eqb n k) (m.prepared k) ∙ or_swap (some_of (is_prepared k) (since l)) (eqb n k));
        order = λ k q.
            ⊎_elim
            (λ f. or_left (done k (since l)) (and_both f (subst (λ (i : ℕ). some_of (is_fetched i) (since l) ≡ true) (eqb-true n k f) had)))
            (λ f. or_right (eqb n k && some_of (is_fetched k) (since l)) (m.order k f))
            (or-holds (eqb n k) (some_of (is_prepared k) (since l)) q);
      };
    }

-- ---- every sequence

told_fresh : Traced [] fresh
unfolding fresh marks_sound some_of since
told_fresh = record { marks = refl; gathering = λ e. inl refl; outside = λ e. absurd (e refl) }

step_told : (l : List Deed) {x : State} {h : Deed} {y : State} → Happens x h y → Traced l x → Traced (h ∷ l) y
step_told l (events.unchanged x) t = told_nothing l x t
step_told l (events.report σ x d w k) t = told_report l σ x d w k t
step_told l (events.drop σ x d n k) t = told_drop l σ x d n k
step_told l (events.plan σ x d p k q) t = told_plan l σ x d p k q
step_told l (events.fetch σ x d n k) t = told_fetch l σ x d n k t
step_told l (events.prepare σ x d n k) t = told_prepare l σ x d n k t

told_all : {l : List Deed} {x : State} → LedTo l x → Traced l x
told_all events.begun = told_fresh
told_all (events.then l x h y p s) = step_told l s (told_all p)

-- ---- committed

done_prepared : (n : ℕ) (l : List Deed) → done n l ≡ true → some_of (is_prepared n) l ≡ true
unfolding done some_of
done_prepared n [] e = e
done_prepared n (h ∷ l) e =
    ⊎_elim (λ f. or_left (some_of (is_prepared n) l) (and_left (is_prepared n h) (some_of (is_fetched n) l) f)) (λ f. or_right (is_prepared n h) (done_prepared n l f))
    (or-holds (is_prepared n h && some_of (is_fetched n) l) (done n l) e)

done_fetched : (n : ℕ) (l : List Deed) → done n l ≡ true → some_of (is_fetched n) l ≡ true
unfolding done some_of
done_fetched n [] e = e
done_fetched n (h ∷ l) e =
    ⊎_elim (λ f. or_right (is_fetched n h) (and_right (is_prepared n h) (some_of (is_fetched n) l) f)) (λ f. or_right (is_fetched n h) (done_fetched n l f))
    (or-holds (is_prepared n h && some_of (is_fetched n) l) (done n l) e)

-- marks within held that every held node has are all
all_marked : (held marks : ℕ) → subset marks held ≡ true → ((n : ℕ) → has held n ≡ true → has marks n ≡ true) → marks ≡ held
all_marked held marks s h = ext_all marks held (λ n. same (has marks n) (has held n) (λ e. subset_has marks held s n e) (λ e. h n e))

module _ {l : List Deed} {x : State} where
  committed_told : (p : Phase) → p ≡ Committed → marks_sound p x.held x.fetched x.prepared ≡ true → HasMarks l x → Committing l x.held
  unfolding marks_sound
  committed_told Committed e m k =
      let all : x.prepared ≡ x.held = eqb-true x.prepared x.held (and_right (eqb x.fetched x.held) (eqb x.prepared x.held) m) in
      record {
        plan = k.plan;
        no_drop = k.no_drop;
        marked = λ n h. k.order n (sym (k.prepared n) ∙ (ap (λ (i : ℕ). has i n) all ∙ h));
      }
  committed_told Gathering e m k = absurd (committed_not (sym e))
  committed_told Ordered e m k = absurd (apart Ordered Committed e is_ordered refl refl)
  committed_told Preparing e m k = absurd (apart Preparing Committed e is_preparing refl refl)

  committing_phase : (p : Phase) → x.phase ≡ p → Traced l x → Committing l x.held → marks_sound p x.held x.fetched x.prepared ≡ true → p ≡ Committed
  unfolding marks_sound
  committing_phase Gathering e t c m = ⊎_elim (λ f. clash c.plan f) (λ f. clash f c.no_drop) (t.gathering e)
  committing_phase Ordered e t c m =
      let k = t.outside (λ f. ordered_not (sym e ∙ f)) in
      let s = and_left (subset x.fetched x.held && not (eqb x.fetched x.held)) (eqb x.prepared 0) m in
      let all = all_marked x.held x.fetched (and_left (subset x.fetched x.held) (not (eqb x.fetched x.held)) s)
      (λ n h. k.fetched n ∙ done_fetched n (since l) (c.marked n h)) in
      clash (eq-eqb x.fetched x.held all) (of_not_true (eqb x.fetched x.held) (and_right (subset x.fetched x.held) (not (eqb x.fetched x.held)) s))
  committing_phase Preparing e t c m =
      let k = t.outside (λ f. preparing_not (sym e ∙ f)) in
      let s = and_left (eqb x.fetched x.held && subset x.prepared x.held) (not (eqb x.prepared x.held)) m in
      let all = all_marked x.held x.prepared (and_right (eqb x.fetched x.held) (subset x.prepared x.held) s)
      (λ n h. k.prepared n ∙ done_prepared n (since l) (c.marked n h)) in
      clash (eq-eqb x.prepared x.held all)
      (of_not_true (eqb x.prepared x.held) (and_right (eqb x.fetched x.held && subset x.prepared x.held) (not (eqb x.prepared x.held)) m))
  committing_phase Committed e t c m = refl

-- over every sequence of events: committed is reached exactly when a plan was made and, since the last one, each held node was marked
-- fetched and then prepared, with no accepted drop
pub commits : {l : List Deed} {x : State} → LedTo l x → (x.phase ≡ Committed → Committing l x.held) × (Committing l x.held → x.phase ≡ Committed)
commits {l} {x} p =
    let t = told_all p in (
      λ e. committed_told x.phase e t.marks (t.outside (λ f. committed_not (sym e ∙ f))),
      λ c. committing_phase x.phase refl t c t.marks,
    )
