-- What is stored stays stored in a group that keeps the rule. While a view is open the disks tell two histories: with the view, where it
-- counts and the copies beside the old logs are the logs; and as before, where it is forgotten. Nothing else is to be decided.
use Rattle.std.specs.Prelude.{ℕ, Bool, cond, ◌&&◌, [], ◌∷◌, ◌++◌, ◌≡◌, refl, eqb, length}
use Rattle.std.proofs.Common.{inl, sym, ap, ◌∙◌, arith, eq-eqb, ne_eqb}
use Rattle.base_laws.specs.Bools.{and_both}
use Rattle.base_laws.specs.Definitions.{has}
use Rattle.report_views.specs.Definitions.{mask_at}
use Rattle.history_laws.specs.Definitions.{History}
use Rattle.history_course_laws.specs.Course.{GivenUp, as_ordered}
use Rattle.history_rule_laws.specs.Disks.{Attempt, plan_view, Counted}

-- the history with an attempt's view: a machine that has it has logged it, and its copies are the logs of the shards that it carries there
abbrev pub with_view : {S : ℕ} → Attempt S → History
with_view a =
    record {
      views = a.since.views ++ plan_view a ∷ [];
      logged = λ n i. cond (eqb i (length a.since.views)) (has a.have n) (a.since.logged n i);
      updated = λ n s q.
          cond (has a.have n && has (mask_at (plan_view a) s) n) (as_ordered a.plan.v a.plan.t a.plan.held a.plan.d n s q)
          (a.since.updated n s q);
    }

-- it is what the disks tell where the view counts
pub with-view : {S : ℕ} (a : Attempt S) → Counted a (with_view a)
with-view a =
    record {
      views = refl;
      remembered = λ n i l h.
          ap (λ (b : Bool). cond b (has a.have n) (a.since.logged n i)) (ne_eqb i (length a.since.views) (λ e. omega (arith, e))) ∙ h;
      logs = λ n l h. here n ∙ h;
      ordered = λ s l n k m g q.
          ap
          (λ (b : Bool). cond b (as_ordered a.plan.v a.plan.t a.plan.held a.plan.d n s q) (a.since.updated n s q))
          (and_both (sym (here n) ∙ g) m);
    }
  where
    here : (n : ℕ) → (with_view a).logged n (length a.since.views) ≡ has a.have n
    here n =
        ap (λ (b : Bool). cond b (has a.have n) (a.since.logged n (length a.since.views)))
        (eq-eqb (length a.since.views) (length a.since.views) refl)

-- a view that is decided against leaves the history that it was planned from: the restart was given up
pub decided_against : {S : ℕ} (a : Attempt S)
    → GivenUp a.plan.σ a.plan.v a.plan.t a.plan.held a.plan.d (plan_view a) a.since a.since
decided_against a = record { views = refl; logged = λ n i. refl; updated = λ s l n k. inl (λ q. refl) }
