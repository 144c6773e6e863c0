-- What follows from what previews promise, so of any program that meets it: a preview is what drop and then decide give, it answers a plan or a
-- wait and nothing else, the mask has a node just where its preview waits, and there is one outcome of each.
use Rattle.std.specs.Prelude.{ℕ, ◌^◌, Bool, not, List, ◌⊎◌, ◌≡◌, length}
use Rattle.std.proofs.Math.Bool.{true, false}
use Rattle.std.proofs.Math.Logic.{⊎_elim}
use Rattle.std.proofs.Math.Path.{refl, sym, ap, subst}
use Rattle.std.proofs.Common.{◌∙◌, arith}
use borrow.Author.Tests.{eqb-true, lt-ltb}
use Rattle.base_laws.specs.Bools.{either, clash, no_true}
use Rattle.base_laws.specs.Definitions.{has, without}
use Rattle.base_laws.specs.Masks.{has_zero}
use Rattle.base_laws.proofs.Masks.{minus_subset}
use Rattle.base_ids.specs.declared.Refusal.{Refusal}
use Rattle.base_ids.specs.Definitions.{none, accepted, unless, first_of}
use Rattle.base_ids.specs.Refusals.{accepted_none, first_left}
use Rattle.settings_values.specs.Definitions.{nodes, Settings}
use Rattle.settings_values.specs.Laws.{settings_give}
use Rattle.report_views.specs.declared.Plan.{Plan}
use Rattle.report_views.specs.declared.Reason.{Reason}
use Rattle.plan_losses.specs.Losses.{lost_one}
use Rattle.state_rows.specs.Definitions.{node_refusal}
use Rattle.report_views.specs.Definitions.{is_gathering, is_committed}
use Rattle.state_planner.specs.declared.State.{State}
use Rattle.state_planner.specs.declared.Decision.{Decision}
use Rattle.state_planner.specs.declared.Decision.TheVariants.{Planned, Wait, Refused}
use Rattle.state_planner.specs.declared.Decided.{Decided}
use Rattle.state_planner.specs.declared.Outcome.{Outcome}
use Rattle.state_planner.specs.Definitions.{holding, planned, desk_ok, entry_refusal, event_refusal, drop_refusal, decide_refusal, after_drop, dropped, still, Decides}
use Rattle.state_planner.specs.Entry.{NodeTaken, node_given, entry_given}
use Rattle.state_planner.specs.Events.{is_accepted}
use Rattle.state_planner.specs.EventLaws.{outcome_accepted, answer_accepts}
use Rattle.state_laws.specs.Exactly.{plans_where_possible, possible_where_planned}
use Rattle.state_laws.proofs.Once.{decides_unique}
use Rattle.state_laws.specs.Parts.{gathering_is}
use Rattle.state_preview.specs.declared.Warning.{Warning}
use Rattle.state_preview.specs.Definitions.{preview_refusal, Previews, Warns}
use Rattle.state_preview.specs.Split.{sound_fewer}
use Rattle.state_preview.specs.Steps.{decides_answers, decide_sound, preview_sound, dropped_is}

-- a decision to wait
unfoldable pub is_wait : Decision → Bool
is_wait Planned = false
is_wait (Wait reason) = true
is_wait (Refused r) = false

module _ (σ : List ℕ) (x : State) (d : List ℕ) (n : ℕ) where
  -- ---- what an accepted preview gives

  module _ (taken : accepted (preview_refusal σ x d n) ≡ true) where
    given : NodeTaken (desk_ok d) σ x d (is_gathering x.phase) n (has x.held n)
    unfolding preview_refusal
    given = node_given (desk_ok d) σ x d (is_gathering x.phase) n (has x.held n) (accepted_none (preview_refusal σ x d n) taken)

    right : Settings σ
    right = settings_give σ given.entered.settings-ok

    whole : length d ≡ 16384
    whole = eqb-true (length d) 16384 given.entered.lengths-ok

    copy_is : after_drop x n ≡ holding x (without x.held n)
    copy_is = dropped_is σ x d n given.entered.in-phase

    -- the copy is sound, so decide does not refuse it
    pub copy_taken : decide_refusal σ (holding x (without x.held n)) d ≡ none
    unfolding holding
    copy_taken =
        decide_sound σ (holding x (without x.held n)) d right whole
        (sound_fewer σ x d (gathering_is x.phase given.entered.in-phase) (without x.held n) (minus_subset x.held (2 ^ n)) given.entered.state_sound)
        given.entered.in-phase

    -- drop is accepted too
    pub drop_taken : drop_refusal σ x d n ≡ none
    unfolding drop_refusal event_refusal entry_refusal node_refusal unless first_of
    drop_taken =
        let e = given.entered in
        rw (e.lengths-ok, e.settings-ok, e.state_sound, gathering_is x.phase e.in-phase, lt-ltb n (nodes σ) given.node_below, given.node-ok)

  -- and while gathering a preview is refused just where drop is
  pub preview_taken : is_gathering x.phase ≡ true → drop_refusal σ x d n ≡ none → preview_refusal σ x d n ≡ none
  unfolding drop_refusal
  preview_taken g e =
      let t = node_given (desk_ok d) σ x d (not (is_committed x.phase)) n (has x.held n) e in
      preview_sound σ x d (settings_give σ t.entered.settings-ok) (eqb-true (length d) 16384 t.entered.lengths-ok) n t.entered.state_sound g t.node-ok

  module _ {p : Decided} (previews : Previews σ x d n p) where
    module _ (taken : accepted (preview_refusal σ x d n) ≡ true) where
      pub copied : Decides σ (holding x (without x.held n)) d p
      copied = subst (λ (y : State). Decides σ y d p) (copy_is taken) (previews.decides taken)

      -- after the rows: a plan, or a wait that leaves the copy as it is
      pub preview_answers : ((plan : Plan) × (p ≡ still (planned (after_drop x n) plan) Planned)) ⊎ ((reason : Reason) × (p ≡ still (after_drop x n) (Wait reason)))
      preview_answers =
          decides_answers σ (after_drop x n) d p (previews.decides taken)
          (ap (λ (y : State). accepted (decide_refusal σ y d)) (copy_is taken) ∙ ap accepted (copy_taken taken))

      pub never_refused : (r : Refusal) → p.decision ≡ Refused r → ⊥
      never_refused r e =
          ⊎_elim (λ h. let z : Refused r ≡ Planned = sym e ∙ ap (λ (o : Decided). o.decision) h.1 in let i : ◌≡◌ {A = ℕ} 0 1 = cc in omega arith)
          (λ h. let z : Refused r ≡ Wait h.0 = sym e ∙ ap (λ (o : Decided). o.decision) h.1 in let i : ◌≡◌ {A = ℕ} 0 1 = cc in omega arith)
          preview_answers

    -- what is kept, its termination and what is remembered are those of the state
    abbrev KeepsView : State → Type 0
    KeepsView y = (y.kept ≡ x.kept) × (y.termination ≡ x.termination) × (y.latest ≡ x.latest)

    pub preview_keeps : KeepsView p.state
    unfolding holding planned
    preview_keeps = ⊎_elim answered (λ f. kept_in (ap (λ (o : Decided). o.state) (previews.refused f)) (refl, refl, refl)) (either (accepted (preview_refusal σ x d n)))
      where
        kept_in : {y z : State} → y ≡ z → KeepsView z → KeepsView y
        kept_in e k = subst KeepsView (sym e) k

        answered : accepted (preview_refusal σ x d n) ≡ true → KeepsView p.state
        answered t =
            ⊎_elim (λ e. kept_in (ap (λ (o : Decided). o.state) e.1) (refl, refl, refl)) (λ e. kept_in (ap (λ (o : Decided). o.state) e.1) (refl, refl, refl))
            (decides_answers σ (holding x (without x.held n)) d p (copied t) (ap accepted (copy_taken t)))

  -- what the events give: drop while gathering, and then decide
  pub preview_of_events : is_gathering x.phase ≡ true → is_accepted (dropped σ x d n).answer ≡ true → {p r : Decided}
      → Decides σ (dropped σ x d n).state d r → Previews σ x d n p → p ≡ r
  unfolding dropped
  preview_of_events g a {p} {r} k w =
      let free : accepted (drop_refusal σ x d n) ≡ true = sym (answer_accepts (drop_refusal σ x d n) x (after_drop x n) refl) ∙ a in
      let taken : preview_refusal σ x d n ≡ none = preview_taken g (accepted_none (drop_refusal σ x d n) free) in
      decides_unique (w.decides (ap accepted taken))
      (subst (λ (o : Outcome). Decides σ o.state d r) (outcome_accepted (drop_refusal σ x d n) x (after_drop x n) free) k)

  -- one outcome
  pub previews_unique : {p q : Decided} → Previews σ x d n p → Previews σ x d n q → p ≡ q
  previews_unique a b =
      ⊎_elim (λ t. decides_unique (a.decides t) (b.decides t)) (λ f. a.refused f ∙ sym (b.refused f)) (either (accepted (preview_refusal σ x d n)))

module _ (σ : List ℕ) (x : State) (d : List ℕ) where
  pub warns_unique : {r q : Warning} → Warns σ x d r → Warns σ x d q → r ≡ q
  warns_unique {r} {q} a b =
      let lost : r.lost ≡ q.lost =
      ⊎_elim (λ t. lost_one σ x.held _ r.lost q.lost (a.told t) (b.told t)) (λ f. a.blank f ∙ sym (b.blank f)) (either (accepted (decide_refusal σ x d))) in
      let refusal : r.refusal ≡ q.refusal = a.answers ∙ sym b.answers in
      λ i. record { refusal = refusal i; lost = lost i }

  -- an accepted preview is of a state that decide does not refuse
  taken_of : (n : ℕ) → accepted (preview_refusal σ x d n) ≡ true → accepted (decide_refusal σ x d) ≡ true
  unfolding preview_refusal event_refusal decide_refusal
  taken_of n t = ap accepted (first_left (entry_refusal (desk_ok d) σ x d (is_gathering x.phase)) _ (accepted_none (preview_refusal σ x d n) t))

  -- and of such a state a preview of a held node is accepted
  taken_to : (n : ℕ) → accepted (decide_refusal σ x d) ≡ true → has x.held n ≡ true → preview_refusal σ x d n ≡ none
  unfolding decide_refusal
  taken_to n t h =
      let e = entry_given (desk_ok d) σ x d (is_gathering x.phase) (accepted_none (decide_refusal σ x d) t) in
      preview_sound σ x d (settings_give σ e.settings-ok) (eqb-true (length d) 16384 e.lengths-ok) n e.state_sound e.in-phase h

  -- the mask has a node just where its preview waits
  pub lost_is : {r : Warning} → Warns σ x d r → (n : ℕ) {p : Decided} → Previews σ x d n p → has r.lost n ≡ is_wait p.decision
  unfolding is_wait holding
  lost_is {r} w n {p} v = ⊎_elim previewed (λ f. unseen f ∙ sym (waits_not f)) (either (accepted (preview_refusal σ x d n)))
    where
      waits_not : accepted (preview_refusal σ x d n) ≡ false → is_wait p.decision ≡ false
      waits_not f = ap (λ (o : Decided). is_wait o.decision) (v.refused f)

      unseen : accepted (preview_refusal σ x d n) ≡ false → has r.lost n ≡ false
      unseen f = ⊎_elim asked (λ g. ap (λ (m : ℕ). has m n) (w.blank g) ∙ has_zero n) (either (accepted (decide_refusal σ x d)))
        where
          asked : accepted (decide_refusal σ x d) ≡ true → has r.lost n ≡ false
          asked t = no_true (has r.lost n) (λ h. clash (ap accepted (taken_to n t ((w.told t).waits n h).0)) f)

      previewed : accepted (preview_refusal σ x d n) ≡ true → has r.lost n ≡ is_wait p.decision
      previewed t = ⊎_elim lost kept (either (has r.lost n))
        where
          copy : Decides σ (holding x (without x.held n)) d p
          copy = subst (λ (y : State). Decides σ y d p) (copy_is σ x d n t) (v.decides t)

          free : accepted (decide_refusal σ (holding x (without x.held n)) d) ≡ true
          free = ap accepted (copy_taken σ x d n t)

          lost : has r.lost n ≡ true → has r.lost n ≡ is_wait p.decision
          lost h =
              h
              ∙ ⊎_elim
              (λ e. absurd (((w.told (taken_of n t)).waits n h).1 (possible_where_planned σ (holding x (without x.held n)) d p copy free (ap (λ (o : Decided). o.decision) e.1))))
              (λ e. sym (ap (λ (o : Decided). is_wait o.decision) e.1))
              (decides_answers σ (holding x (without x.held n)) d p copy free)

          kept : has r.lost n ≡ false → has r.lost n ≡ is_wait p.decision
          kept h =
              let q = plans_where_possible σ (holding x (without x.held n)) d p copy free ((w.told (taken_of n t)).plans n (given σ x d n t).node-ok h) in
              h ∙ sym (ap (λ (o : Decided). is_wait o.decision) q.given)
