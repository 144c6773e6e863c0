-- What the call decide answers and leaves, case by case; and that a wait's shard or subgroup fits its answer.
-- ---- the shard or subgroup of a wait
-- of the reason of a quorum
-- of what decide hands back
-- ---- the cases
-- the words that are looked at are those that were lent
use Rattle.std.specs.Prelude.{ℕ, ◌≤◌, ◌<◌, Bool, true, false, cond, not, List, ◌≡◌, refl, eqb, ltb, length}
use Rattle.std.proofs.Common.{⊎_elim, sym, ◌∙◌, subst, arith, lit≤, eqb-true, eq-eqb, ltb-true}
use Rattle.std.proofs.Math.Path.{ap, subst⁻¹}
use Rattle.base_laws.specs.Bools.{either, clash}
use Rattle.base_laws.specs.Definitions.{count}
use Rattle.base_lent.specs.Definitions.{words_in}
use Rattle.base_ids.specs.declared.Refusal.{Refusal}
use Rattle.base_ids.specs.Definitions.{accepted}
use Rattle.settings_values.specs.Definitions.{settings_ok, shards, least}
use Rattle.settings_values.specs.Laws.{settings_give}
use Rattle.report_views.specs.declared.Layout.{Layout}
use Rattle.report_views.specs.declared.Termination.{Termination}
use Rattle.report_views.specs.declared.Reason.{Reason}
use Rattle.report_views.specs.declared.Reason.TheVariants.{NoView, NoMajority, TooFew, NoHolder, NoPlacement}
use Rattle.report_views.specs.declared.Quorum.{Quorum}
use Rattle.report_views.specs.declared.Quorum.TheVariants.{Met, Short}
use Rattle.report_views.specs.Definitions.{majority, first_unheld, quorum_of, value_of}
use Rattle.state_planner.specs.declared.State.{State}
use Rattle.state_planner.specs.declared.Decision.TheVariants.{Planned, Wait, Refused}
use Rattle.state_planner.specs.declared.Decided.{Decided}
use Rattle.state_planner.specs.Definitions.{planned, decide_refusal, still, Stuck, Decides}
use Rattle.c_state.specs.declared.CallFinds.{CallFinds}
use Rattle.c_state.specs.Definitions.{by_planner}
use Rattle.c_state.specs.Calls.{entry}
use Rattle.c_state.specs.CallLaws.{desk_entry, desk_passes}
use Rattle.c_events.specs.Definitions.{decision_word, decision_leaves, decide_entry, DecideCall}
use Rattle.c_events.specs.Decisions.{decision_value}

same_reason : (r reason : Reason) → Short r ≡ Short reason → value_of r ≤ 16 → value_of reason ≤ 16
same_reason r reason e h = let z : r ≡ reason = cc in subst (λ (q : Reason). value_of q ≤ 16) z h

pub quorum_small : (σ : List ℕ) (v : Layout) (t : Termination) (held : ℕ) (d : List ℕ) (reason : Reason) → settings_ok σ ≡ true
    → quorum_of σ v t held d ≡ Short reason → value_of reason ≤ 16
unfolding quorum_of value_of
quorum_small σ v t held d reason ok h =
    go (eqb v.number.0 0) (not (majority v held)) (ltb (count held) (least σ)) (ltb (first_unheld σ v t held d) (shards σ)) h shard
  where
    shard : ltb (first_unheld σ v t held d) (shards σ) ≡ true → first_unheld σ v t held d ≤ 16
    shard e =
        let l : first_unheld σ v t held d < shards σ = ltb-true (first_unheld σ v t held d) (shards σ) e in
        let s = (settings_give σ ok).sizes in
        omega arith

    unheld : Reason
    unheld = NoHolder (record { 0 = first_unheld σ v t held d })

    go : (a b c e : Bool)
        → cond a (Short NoView) (cond b (Short NoMajority) (cond c (Short TooFew) (cond e (Short unheld) Met))) ≡ Short reason
        → (e ≡ true → first_unheld σ v t held d ≤ 16) → value_of reason ≤ 16
    go true b c e h s = same_reason NoView reason h (lit≤ tt)
    go false true c e h s = same_reason NoMajority reason h (lit≤ tt)
    go false false true e h s = same_reason TooFew reason h (lit≤ tt)
    go false false false true h s = same_reason unheld reason h (s refl)
    go false false false false h s = absurd (let z : ◌≡◌ {A = ℕ} 0 1 = cc in omega arith)

pub decision_small : (σ : List ℕ) (x : State) (d : List ℕ) (o : Decided) → settings_ok σ ≡ true → Decides σ x d o
    → decision_value o.decision ≤ 16
unfolding value_of
decision_small σ x d o ok decides = ⊎_elim accepting refusing (either (accepted (decide_refusal σ x d)))
  where
    small : (p : Decided) → o ≡ p → decision_value p.decision ≤ 16 → decision_value o.decision ≤ 16
    small p e h = subst⁻¹ (λ (q : Decided). decision_value q.decision ≤ 16) e h

    refusing : accepted (decide_refusal σ x d) ≡ false → decision_value o.decision ≤ 16
    refusing h = small (still x (Refused (decide_refusal σ x d))) (decides.refused h) (lit≤ tt)

    stuck : Stuck σ x o → decision_value o.decision ≤ 16
    stuck s = small (still x (Wait (NoPlacement s.group))) s.given (let l = s.lowest.below in omega arith)

    by : accepted (decide_refusal σ x d) ≡ true → (q : Quorum) → quorum_of σ x.kept x.termination x.held d ≡ q
        → decision_value o.decision ≤ 16
    by h (Short reason) e =
        small (still x (Wait reason)) (decides.waits h reason e) (quorum_small σ x.kept x.termination x.held d reason ok e)
    by h Met e =
        ⊎_elim (λ w. small (still (planned x w.plan) Planned) w.given (lit≤ tt)) stuck (decides.answers h e)

    accepting : accepted (decide_refusal σ x d) ≡ true → decision_value o.decision ≤ 16
    accepting h = by h (quorum_of σ x.kept x.termination x.held d) refl

module _ (role : ℕ) (settings state desk : List ℕ) (e : CallFinds) (given : e ≡ entry (by_planner role) (eqb (length desk) 65536) settings state) where
  pub refusal_is : e.refusal ≡ decide_entry role settings state desk
  unfolding entry decide_entry
  refusal_is = ap (λ (x : CallFinds). x.refusal) (desk_entry (by_planner role) settings state desk e given)

  pub decide_refused : (e.refusal.code ≡ 0 → ⊥) → DecideCall role settings state desk e.refusal.code state
  decide_refused h =
      record {
        refused = λ n. (ap (λ (r : Refusal). r.code) refusal_is, refl);
        decided = λ a. absurd (h (ap (λ (r : Refusal). r.code) refusal_is ∙ eqb-true (decide_entry role settings state desk).code 0 a));
      }

  pub decide_done : e.refusal.code ≡ 0 → (o : Decided) → Decides (words_in settings) e.state (words_in desk) o
      → (answer : ℕ) (left : List ℕ) → answer ≡ decision_word o.decision → left ≡ decision_leaves o.decision o.state state
      → DecideCall role settings state desk answer left
  decide_done h o decides answer left f g =
      record {
        refused =
            λ n. clash (eq-eqb (decide_entry role settings state desk).code 0 (sym (ap (λ (r : Refusal). r.code) refusal_is) ∙ h)) n;
        decided =
            λ a. record {
              outcome = o;
              decides =
                  subst (λ (x : State). Decides (words_in settings) x (words_in desk) o)
                  (desk_passes (by_planner role) settings state desk e given h).state_is decides;
              answers = f;
              leaves = g;
            };
      }
