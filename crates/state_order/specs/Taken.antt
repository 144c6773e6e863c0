-- What an order that is not refused gives: a sound plan and a held node. So the writer takes the node's order, and its message and
-- length are what the event leaves and answers.
use Rattle.std.specs.Prelude.{ℕ, ◌<◌, ◌≤◌, Bool, ◌&&◌, List, ◌++◌, ◌≡◌, length, Ok, Err}
use Rattle.std.proofs.Math.Bool.{true, false}
use Rattle.std.proofs.Math.Logic.{⊎_elim}
use Rattle.std.proofs.Math.Path.{refl, sym}
use Rattle.std.proofs.Common.{ap, ap₂, ◌∙◌}
use Rattle.std.proofs.Math.Dec.{eqb}
use borrow.Author.Tests.{eqb-true, ne_eqb}
use Rattle.base_laws.specs.Bools.{either, clash, and_left, and_right, and_fails_right}
use Rattle.base_laws.specs.Definitions.{has}
use Rattle.settings_values.specs.Definitions.{shards, settings_ok, Settings}
use Rattle.settings_values.specs.Laws.{settings_give}
use Rattle.base_ids.specs.declared.Refusal.{Refusal}
use Rattle.base_ids.specs.Definitions.{refused, none, or_refusal}
use Rattle.base_ids.specs.Results.{err_is}
use Rattle.base_ids.specs.Refusals.{unless_true, unless_false, unless_ok, unless_rest, first_refused}
use Rattle.message_format.specs.declared.Form.TheVariants.{Order}
use Rattle.message_format.specs.declared.Contents.{Contents}
use Rattle.message_format.specs.Definitions.{contents_refusal, message_length, message_of}
use Rattle.message_format.specs.Messages.{write_refusal, writing_of, as_written, buffer_after}
use Rattle.message_format.specs.Passed.{contents_few, write_none}
use Rattle.report_views.specs.declared.Layout.{Layout}
use Rattle.report_views.specs.declared.Termination.{Termination}
use Rattle.report_views.specs.declared.Plan.{Plan}
use Rattle.report_views.specs.declared.Phase.{Phase}
use Rattle.report_views.specs.declared.Phase.TheVariants.{Gathering, Ordered, Preparing, Committed}
use Rattle.report_views.specs.Definitions.{holder_at, target_at, plan_sound, plan_fits, is_ordered}
use Rattle.report_views.specs.Updates.{updates_at, up_to, kept_updates, fetched_updates}
use Rattle.plan_order.specs.Definitions.{cut_of, order_contents}
use Rattle.plan_order.specs.Readable.{ReadableSlot, Holders}
use Rattle.plan_order_laws.proofs.Accepted.{planned_holders, held_readable, order_restored}
use Rattle.plan_order_laws.proofs.AcceptedAfter.{order_accepted}
use Rattle.state_planner.specs.declared.State.{State}
use Rattle.state_planner.specs.Definitions.{desk_ok, entry_refusal, event_refusal, order_refusal}
use Rattle.state_planner.specs.Refusing.{call_refusal}
use Rattle.state_planner.specs.CallLaws.{called_desk, called_settings, call_event}
use Rattle.state_planner.specs.Entry.{SoundState, sound_given, node_given}
use Rattle.state_order.specs.Definitions.{ordered, order_buffer}
use Rattle.state_order.specs.Orders.{call_refuses}

module _ (σ : List ℕ) (x : State) (d : List ℕ) (n : ℕ) (buffer : List ℕ) where
  -- row 1 for the buffer: a wrong length is refused before all else, and a right one leaves the rows of any event that names a node
  pub buffer_wrong : eqb (length buffer) 512 ≡ false → order_refusal σ x d n buffer ≡ refused 1
  unfolding order_refusal event_refusal entry_refusal
  buffer_wrong h =
      let e = unless_false (desk_ok d && eqb (length buffer) 512) 1 _ (and_fails_right (desk_ok d) h) in
      first_refused _ _ (ap (λ r. eqb r.code 0) e) ∙ e

  pub buffer_right : eqb (length buffer) 512 ≡ true
      → order_refusal σ x d n buffer ≡ event_refusal (desk_ok d) σ x d (is_ordered x.phase) n (has x.held n)
  unfolding order_refusal
  buffer_right h = rw h (ap (λ (b : Bool). event_refusal b σ x d (is_ordered x.phase) n (has x.held n)) (go (desk_ok d)))
    where
      go : (b : Bool) → (b && true) ≡ b
      go true = refl
      go false = refl

  -- the rows of an event that names a node, beside what is found of phase and node
  pub found_refusal : eqb (length buffer) 512 ≡ true → (p q : Bool) → p ≡ is_ordered x.phase → q ≡ has x.held n → (r : Refusal)
      → r ≡ event_refusal (desk_ok d) σ x d p n q → r ≡ order_refusal σ x d n buffer
  found_refusal h p q i j r e = e ∙ ap₂ (λ (a b : Bool). event_refusal (desk_ok d) σ x d a n b) i j ∙ sym (buffer_right h)

  -- rows 1 and 2 of desk and settings, beside a buffer of the right length
  pub call-refuses : eqb (length buffer) 512 ≡ true → (r : Refusal) → r ≡ call_refusal σ d → (r.code ≡ 0 → ⊥) → r ≡ order_refusal σ x d n buffer
  call-refuses h r e k = call_event σ d r e k x (is_ordered x.phase) n (has x.held n) ∙ sym (buffer_right h)

  pub called_refuses : (r : Refusal) → r ≡ call_refuses σ d buffer → (r.code ≡ 0 → ⊥) → r ≡ order_refusal σ x d n buffer
  unfolding call_refuses
  called_refuses r e k =
      ⊎_elim (λ h. call-refuses h r (e ∙ unless_true (eqb (length buffer) 512) 1 (call_refusal σ d) h) k)
      (λ h. e ∙ unless_false (eqb (length buffer) 512) 1 (call_refusal σ d) h ∙ sym (buffer_wrong h)) (either (eqb (length buffer) 512))

-- rows 1 and 2 do not refuse
module _ (σ d buffer : List ℕ) (calls : call_refuses σ d buffer ≡ none) where
  passed : call_refusal σ d ≡ none
  unfolding call_refuses
  passed = unless_rest (eqb (length buffer) 512) 0 _ calls

  pub called_buffer : length buffer ≡ 512
  unfolding call_refuses
  called_buffer = eqb-true (length buffer) 512 (unless_ok (eqb (length buffer) 512) 0 _ calls)

  pub called_words : length d ≡ 16384
  called_words = called_desk σ d (call_refusal σ d) refl (ap (λ (q : Refusal). q.code) passed)

  pub called_right : Settings σ
  called_right = called_settings σ d (call_refusal σ d) refl (ap (λ (q : Refusal). q.code) passed)

-- a state that is ordered has a sound plan
ordered_plan : (phase : Phase) (σ : List ℕ) (v : Layout) (t : Termination) (held : ℕ) (d : List ℕ) (p : Plan) → is_ordered phase ≡ true
    → plan_fits phase σ v t held d p ≡ true → plan_sound σ v t held d p ≡ true
unfolding plan_fits
ordered_plan Gathering σ v t held d p e h = clash e refl
ordered_plan Ordered σ v t held d p e h = h
ordered_plan Preparing σ v t held d p e h = clash e refl
ordered_plan Committed σ v t held d p e h = clash e refl

-- what no refusal gives
pub record OrderTaken (σ : List ℕ) (x : State) (d : List ℕ) (n : ℕ) (buffer : List ℕ) : Type 0 where
  pub desk_words : length d ≡ 16384
  pub buffer_words : eqb (length buffer) 512 ≡ true
  pub settings_right : settings_ok σ ≡ true
  pub state_sound : SoundState σ x d
  pub plan-sound : plan_sound σ x.kept x.termination x.held d x.plan ≡ true
  pub node_held : has x.held n ≡ true

module _ (σ : List ℕ) (x : State) (d : List ℕ) (n : ℕ) (buffer : List ℕ) (h : order_refusal σ x d n buffer ≡ none) where
  taken : OrderTaken σ x d n buffer
  unfolding order_refusal
  taken =
      let t = node_given (desk_ok d && eqb (length buffer) 512) σ x d (is_ordered x.phase) n (has x.held n) h in
      let e = t.entered in
      let s = sound_given σ x d e.state_sound in
      record {
        desk_words = eqb-true (length d) 16384 (and_left (desk_ok d) (eqb (length buffer) 512) e.lengths-ok);
        buffer_words = and_right (desk_ok d) (eqb (length buffer) 512) e.lengths-ok;
        settings_right = e.settings-ok;
        state_sound = s;
        plan-sound = ordered_plan x.phase σ x.kept x.termination x.held d x.plan e.in-phase s.plan-fits;
        node_held = t.node-ok;
      }

  -- for the call that makes the contents
  pub taken_settings : Settings σ
  taken_settings = settings_give σ taken.settings_right

  pub taken_node : ReadableSlot d n
  taken_node =
      held_readable σ x.kept x.termination x.held d x.plan taken_settings taken.state_sound.kept-sound taken.state_sound.slots-ok
      taken.plan-sound
      n
      taken.node_held
      taken.desk_words

  pub taken_holders : Holders (shards σ) x.plan d
  taken_holders =
      planned_holders σ x.kept x.termination x.held d x.plan taken_settings taken.state_sound.kept-sound taken.state_sound.slots-ok
      taken.plan-sound
      taken.desk_words

  -- a node that follows it has the holder's log up to the target
  pub taken_restored : (s : ℕ) → s < shards σ
      → kept_updates (cut_of x.plan d n s) (updates_at d s n)
      ++ fetched_updates (cut_of x.plan d n s) (target_at x.plan s) (updates_at d s (holder_at x.plan s))
      ≡ up_to (target_at x.plan s) (updates_at d s (holder_at x.plan s))
  taken_restored =
      order_restored σ x.kept x.termination x.held d x.plan taken_settings taken.state_sound.kept-sound taken.state_sound.slots-ok
      taken.plan-sound
      n
      taken.node_held

  -- no row refuses its contents
  pub taken_passes : contents_refusal Order σ (order_contents σ x.plan d n) ≡ none
  taken_passes =
      order_accepted σ x.kept x.termination x.held d x.plan taken_settings taken.state_sound.kept-sound taken.state_sound.slots-ok
      taken.plan-sound
      n
      taken.node_held

  -- the writer takes the node's order
  pub writer_takes : write_refusal Order σ (order_contents σ x.plan d n) buffer ≡ none
  writer_takes =
      write_none Order σ (order_contents σ x.plan d n) buffer
      (record {
        buffer_passes = taken.buffer_words;
        settings_pass = taken.settings_right;
        contents_pass = taken_passes;
      })

  -- what it answers and leaves
  pub written_answer : writing_of Order σ (order_contents σ x.plan d n) buffer ≡ ordered σ x d n buffer
  unfolding writing_of ordered
  written_answer = rw (writer_takes, h)

  pub written_leaves : buffer_after Order σ (order_contents σ x.plan d n) buffer ≡ order_buffer σ x d n buffer
  unfolding buffer_after order_buffer
  written_leaves = rw (writer_takes, h)

-- ---- what is answered and left beside a refusal

module _ (σ : List ℕ) (x : State) (d : List ℕ) (n : ℕ) (buffer : List ℕ) (r : Refusal) (e : r ≡ order_refusal σ x d n buffer) where
  pub refused_answer : (r.code ≡ 0 → ⊥) → Err r ≡ as_written (ordered σ x d n buffer)
  unfolding ordered
  refused_answer h = err_is _ r _ e (ne_eqb r.code 0 h)

  pub refused_words : (r.code ≡ 0 → ⊥) → buffer ≡ order_buffer σ x d n buffer
  unfolding order_buffer
  refused_words h = rw (sym e, ne_eqb r.code 0 h)

  pub not_refused : r.code ≡ 0 → order_refusal σ x d n buffer ≡ none
  not_refused h = sym e ∙ ap refused h

  -- and beside none, for contents that are the node's order
  module _ (h : r.code ≡ 0) (c : Contents) (made : c ≡ order_contents σ x.plan d n) where
    pub made_few : c.len ≤ 127
    made_few = contents_few Order σ c (ap (contents_refusal Order σ) made ∙ taken_passes σ x d n buffer (not_refused h))

    pub made_answer : (l : ℕ) → l ≡ message_length c → Ok l ≡ as_written (ordered σ x d n buffer)
    unfolding ordered or_refusal
    made_answer l i = rw (i, made, not_refused h)

    pub made_words : (after : List ℕ) → after ≡ message_of c 512 → after ≡ order_buffer σ x d n buffer
    unfolding order_buffer
    made_words after i = i ∙ rw (made, not_refused h)
