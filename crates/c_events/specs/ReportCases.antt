-- What the call report answers and leaves, case by case: lengths, settings or state are wrong, the report is refused, the report is
-- taken. A message of more words than any right one is refused as one of no words is, so the call looks at no more.
-- ---- the words that are looked at
-- a list that ends with a row that fails refuses
-- ---- the cases
use Rattle.std.specs.Prelude.{ℕ, Bool, false, List, ◌≡◌, eqb, length}
use Rattle.std.proofs.Math.Bool.{cond}
use Rattle.std.proofs.Common.{⊎_elim, sym, ◌∙◌, subst}
use Rattle.std.proofs.Math.Path.{ap}
use Rattle.base_laws.specs.Bools.{either}
use Rattle.base_bytes.specs.Definitions.{bytes_of}
use Rattle.base_lent.specs.Definitions.{words_in, bytes_left}
use Rattle.base_lent.specs.Lent.{words_within}
use Rattle.base_lent.specs.Answers.{Told}
use Rattle.base_ids.specs.declared.Refusal.{Refusal}
use Rattle.base_ids.specs.Definitions.{refused, accepted, first_of}
use Rattle.base_ids.specs.Refusals.{unless_false, first_refused}
use Rattle.message_format.specs.declared.Form.TheVariants.{Report}
use Rattle.message_format.specs.Definitions.{row5, message_refusal, contents_of}
use Rattle.report_kept.specs.Definitions.{refusal_beside}
use Rattle.c_messages.specs.Limits.{message_within}
use Rattle.state_planner.specs.declared.State.{State}
use Rattle.state_planner.specs.declared.Outcome.{Outcome}
use Rattle.state_planner.specs.declared.Answer.{Answer}
use Rattle.report_views.specs.Definitions.{is_gathering}
use Rattle.state_planner.specs.Definitions.{desk_ok, entry_refusal, report_refusal, after_report, outcome_of, reported, desk_after, desk_left}
use Rattle.state_planner.specs.EventLaws.{outcome_accepted, outcome_refused}
use Rattle.c_state_words.specs.Definitions.{state_words}
use Rattle.c_state.specs.declared.CallFinds.{CallFinds}
use Rattle.c_state.specs.Definitions.{by_planner, state_lent, refusal_of, event_refused}
use Rattle.c_state.specs.Calls.{entry}
use Rattle.c_state.specs.CallLaws.{desk_entry, desk_passes, entry_refuses, ToldEvent, event-refused, event_done}
use Rattle.c_events.specs.Definitions.{report_taken, report_answer, report_leaves, report_desk}

list_refuses : (r : Refusal) → accepted (first_of r (refused 5)) ≡ false
unfolding first_of
list_refuses r = ⊎_elim (λ h. ap (λ (b : Bool). accepted (cond b (refused 5) r)) h) (λ h. ap (λ (b : Bool). accepted (cond b (refused 5) r)) h ∙ h) (either (accepted r))

module _ (σ : List ℕ) (x : State) (d : List ℕ) where
  -- the refusal of a message of a wrong length
  abbrev short : Refusal
  short = first_of (entry_refusal (desk_ok d) σ x d (is_gathering x.phase)) (refused 5)

  length_refused : (w : List ℕ) → row5 w ≡ false → report_refusal σ x d w ≡ short
  unfolding report_refusal refusal_beside message_refusal
  length_refused w h =
      let five : message_refusal Report σ w ≡ refused 5 = unless_false (row5 w) 5 _ h in
      let alone : refusal_beside σ x.kept x.termination x.latest w ≡ refused 5 =
      first_refused (message_refusal Report σ w) _ (ap (λ (r : Refusal). accepted r) five) ∙ five in
      ap (first_of (entry_refusal (desk_ok d) σ x d (is_gathering x.phase))) alone

  length_outcome : (w : List ℕ) → row5 w ≡ false → reported σ x d w ≡ record { state = x; answer = Answer.Refused short }
  unfolding reported
  length_outcome w h =
      ap (λ (r : Refusal). outcome_of r x (after_report σ x (contents_of w))) (length_refused w h)
      ∙ outcome_refused short x (after_report σ x (contents_of w)) (list_refuses (entry_refusal (desk_ok d) σ x d (is_gathering x.phase)))

  report_within : (m : List ℕ) → reported σ x d (words_within 512 m) ≡ reported σ x d (words_in m)
  report_within m =
      ⊎_elim (λ e. ap (reported σ x d) e)
      (λ c. length_outcome (words_within 512 m) c.0 ∙ sym (length_outcome (words_in m) c.1))
      (message_within m)

-- the message is looked at whole, or it is too long
pub report_whole : (σ : List ℕ) (x : State) (d message w : List ℕ) → w ≡ words_within 512 message → reported σ x d w ≡ reported σ x d (words_in message)
report_whole σ x d message w f = ap (reported σ x d) f ∙ report_within σ x d message

-- the desk's bytes after it
module _ (σ : List ℕ) (x : State) (b : List ℕ) where
  left_short : (w : List ℕ) → row5 w ≡ false → desk_left σ x b w ≡ b
  unfolding desk_left
  left_short w h =
      ap (λ (q : Bool). cond q (bytes_of (desk_after σ x (words_in b) w)) b)
      (ap accepted (length_refused σ x (words_in b) w h) ∙ list_refuses (entry_refusal (desk_ok (words_in b)) σ x (words_in b) (is_gathering x.phase)))

  pub left_whole : (message w : List ℕ) → w ≡ words_within 512 message → desk_left σ x b w ≡ desk_left σ x b (words_in message)
  left_whole message w f =
      ap (desk_left σ x b) f
      ∙ ⊎_elim (λ e. ap (desk_left σ x b) e)
      (λ c. left_short (words_within 512 message) c.0 ∙ sym (left_short (words_in message) c.1))
      (message_within message)

-- the refusal that an outcome holds
answer_passes : (r : Refusal) (x next : State) → accepted (refusal_of (outcome_of r x next).answer) ≡ accepted r
answer_passes r x next =
    ⊎_elim (λ h. ap (λ (o : Outcome). accepted (refusal_of o.answer)) (outcome_accepted r x next h) ∙ sym h)
    (λ h. ap (λ (o : Outcome). accepted (refusal_of o.answer)) (outcome_refused r x next h))
    (either (accepted r))

module _ (role : ℕ) (settings state desk message : List ℕ) where
  abbrev pub ToldReport : ℕ → List ℕ → List ℕ → Type 0
  ToldReport answer left placed =
      (answer ≡ report_answer role settings state desk message)
      × ((left ≡ report_leaves role settings state desk message) × (placed ≡ report_desk role settings state desk message))

  -- the desk's bytes
  made : List ℕ
  made = bytes_of (desk_after (words_in settings) (state_lent state) (words_in desk) (words_in message))

  told : {answer : ℕ} {left placed : List ℕ}
      → ToldEvent role settings state desk (report_taken settings state desk message) answer left
      → placed ≡ bytes_left (event_refused role settings state desk (report_taken settings state desk message)) made desk
      → ToldReport answer left placed
  unfolding report_answer report_leaves report_desk made
  told t p = (t.0, (t.1, p))

  module _ (e : CallFinds) (given : e ≡ entry (by_planner role) (eqb (length desk) 65536) settings state) where
    pub report_not_entered : (e.refusal.code ≡ 0 → ⊥) → ToldReport e.refusal.code state desk
    unfolding event_refused
    report_not_entered h =
        told (event-refused role settings state desk (report_taken settings state desk message) e given h)
        (entry_refuses (by_planner role) (desk_ok (words_in desk)) settings state e (desk_entry (by_planner role) settings state desk e given) h
        (refusal_of (report_taken settings state desk message).answer) 0 made desk).leaves

    module _ (h : e.refusal.code ≡ 0) (w : List ℕ) (looked : w ≡ words_within 512 message) (o : Outcome)
        (f : o ≡ reported (words_in settings) e.state (words_in desk) w) where
      outcome_is : o ≡ report_taken settings state desk message
      unfolding report_taken
      outcome_is =
          f ∙ report_whole (words_in settings) e.state (words_in desk) message w looked
          ∙ ap (λ (x : State). reported (words_in settings) x (words_in desk) (words_in message)) (desk_passes (by_planner role) settings state desk e given h).state_is

      -- the call's refusal is the event's
      refused_is : accepted (event_refused role settings state desk (report_taken settings state desk message))
          ≡ accepted (report_refusal (words_in settings) (state_lent state) (words_in desk) (words_in message))
      unfolding event_refused report_taken reported
      refused_is =
          ap accepted ((desk_passes (by_planner role) settings state desk e given h).event _)
          ∙ answer_passes (report_refusal (words_in settings) (state_lent state) (words_in desk) (words_in message)) (state_lent state) (after_report (words_in settings) (state_lent state) (contents_of (words_in message)))

      left_is : desk_left (words_in settings) (state_lent state) desk (words_in message)
          ≡ bytes_left (event_refused role settings state desk (report_taken settings state desk message)) made desk
      unfolding desk_left bytes_left made
      left_is =
          ap (λ (q : Bool). cond q (bytes_of (desk_after (words_in settings) (state_lent state) (words_in desk) (words_in message))) desk) (sym refused_is)

      pub report_done : {answer : ℕ} {left placed : List ℕ} → Told (refusal_of o.answer) 0 (bytes_of (state_words o.state)) state answer left
          → placed ≡ desk_left (words_in settings) e.state desk w → ToldReport answer left placed
      report_done {answer} {left} t p =
          told
          (event_done role settings state desk (report_taken settings state desk message) e given h
          (subst (λ (q : Outcome). Told (refusal_of q.answer) 0 (bytes_of (state_words q.state)) state answer left) outcome_is t))
          (p ∙ left_whole (words_in settings) e.state desk message w looked
          ∙ ap (λ (x : State). desk_left (words_in settings) x desk (words_in message)) (desk_passes (by_planner role) settings state desk e given h).state_is
          ∙ left_is)
