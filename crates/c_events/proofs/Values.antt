-- Laws over the values that definitions have, where the code gives a Result or an Option.
use Rattle.std.specs.Prelude.{ℕ, ◌≤◌, Bool, ◌&&◌, List, ◌≡◌, eqb, leb, length}
use Rattle.std.proofs.Math.Path.{sym}
use Rattle.std.proofs.Common.{ap, ◌∙◌, arith, eq-eqb, ne_eqb, leb-true}
use Rattle.base_bytes.specs.Definitions.{bytes_of}
use Rattle.base_lent.specs.Definitions.{words_in, with_length}
use Rattle.base_lent.specs.Answers.{Told, told_refused, told_accepted}
use Rattle.base_ids.specs.Definitions.{none}
use Rattle.base_ids.specs.Refusals.{accepted_none, unless_ok, unless_rest}
use Rattle.settings_values.specs.Definitions.{settings_ok}
use Rattle.message_format.specs.declared.Form.TheVariants.{Order}
use Rattle.message_format.specs.declared.Writing.{Writing}
use Rattle.message_format.specs.Definitions.{contents_refusal}
use Rattle.message_format.specs.Messages.{write_refusal}
use Rattle.plan_order.specs.Definitions.{order_contents}
use Rattle.state_planner.specs.declared.State.{State}
use Rattle.state_planner.specs.Definitions.{order_refusal}
use Rattle.state_order.specs.Definitions.{ordered, order_buffer}
use Rattle.state_order.specs.Taken.{writer_takes}
use Rattle.c_state.specs.declared.CallFinds.{CallFinds}
use Rattle.c_state.specs.Definitions.{lengths_ok, by_planner, state_lent}
use Rattle.c_state.specs.Calls.{entry}
use Rattle.c_state.specs.CallLaws.{CallEntered, buffer_passes, buffer_words}
use Rattle.c_events.specs.Definitions.{order_refused, order_answer, order_leaves}

module _ (σ : List ℕ) (x : State) (d : List ℕ) (n : ℕ) (b z : List ℕ) (same : length b ≡ length z) where
  refusal_same : order_refusal σ x d n b ≡ order_refusal σ x d n z
  unfolding order_refusal
  refusal_same = rw same

  ordered_same : ordered σ x d n b ≡ ordered σ x d n z
  unfolding ordered
  ordered_same = rw refusal_same

  buffer_same : order_refusal σ x d n z ≡ none → order_buffer σ x d n b ≡ order_buffer σ x d n z
  unfolding order_buffer
  buffer_same h = rw (refusal_same, h)

few_words : (σ : List ℕ) (x : State) (d : List ℕ) (n : ℕ) (z : List ℕ) → order_refusal σ x d n z ≡ none → (ordered σ x d n z).length ≤ 512
unfolding ordered write_refusal contents_refusal
few_words σ x d n z h =
    let c = order_contents σ x.plan d n in
    let taken : contents_refusal Order σ c ≡ none =
    unless_rest (settings_ok σ) 1 _ (unless_rest (eqb (length z) 512) 0 _ (writer_takes σ x d n z h)) in
    let few = leb-true c.len 127 (unless_ok (leb c.len 127) 4 _ taken) in
    rw h (omega arith)

module _ (role : ℕ) (settings state desk : List ℕ) (node : ℕ) (buffer : List ℕ) where
  abbrev ToldOrder : ℕ → List ℕ → Type 0
  ToldOrder answer left = (answer ≡ order_answer role settings state desk node buffer) × (left ≡ order_leaves role settings state desk node buffer)

  told : {answer : ℕ} {left : List ℕ}
      → Told (order_refused role settings state desk node buffer)
      (with_length (ordered (words_in settings) (state_lent state) (words_in desk) node (words_in buffer)).length)
      (bytes_of (order_buffer (words_in settings) (state_lent state) (words_in desk) node (words_in buffer)))
      buffer answer left
      → ToldOrder answer left
  unfolding order_answer order_leaves
  told t = (t.answers, t.leaves)

  module _ (lengths : Bool) (ok : lengths ≡ (eqb (length desk) 65536 && eqb (length buffer) 2048)) (e : CallFinds)
      (given : e ≡ entry (by_planner role) lengths settings state) where
    module _ (h : e.refusal.code ≡ 0) where
      abbrev passed_entry : CallEntered (by_planner role) (lengths_ok desk buffer) settings state e.state
      passed_entry = buffer_passes (by_planner role) settings state desk buffer lengths ok e given h

      -- the order was written into 512 words z
      module _ (z : List ℕ) (long : length z ≡ 512) (w : Writing) (f : w ≡ ordered (words_in settings) e.state (words_in desk) node z) where
        writing_is : w ≡ ordered (words_in settings) (state_lent state) (words_in desk) node z
        writing_is = f ∙ ap (λ (x : State). ordered (words_in settings) x (words_in desk) node z) passed_entry.state_is

        same_length : length (words_in buffer) ≡ length z
        same_length = buffer_words (by_planner role) settings state desk buffer lengths ok e given h ∙ sym long

        refusal_is : order_refused role settings state desk node buffer ≡ w.refusal
        unfolding order_refused ordered
        refusal_is =
            passed_entry.event _
            ∙ refusal_same (words_in settings) (state_lent state) (words_in desk) node (words_in buffer) z same_length
            ∙ sym (ap (λ (y : Writing). y.refusal) writing_is)

        pub order-refused : (w.refusal.code ≡ 0 → ⊥) → ToldOrder w.refusal.code buffer
        order-refused n = told (told_refused w.refusal _ refusal_is _ _ buffer (ne_eqb w.refusal.code 0 n))

        module _ (n : w.refusal.code ≡ 0) where
          none_is : order_refusal (words_in settings) (state_lent state) (words_in desk) node z ≡ none
          unfolding ordered
          none_is = sym (ap (λ (y : Writing). y.refusal) writing_is) ∙ accepted_none w.refusal (eq-eqb w.refusal.code 0 n)

          pub order_few : w.length ≤ 512
          order_few =
              let few = few_words (words_in settings) (state_lent state) (words_in desk) node z none_is in
              let is : w.length ≡ (ordered (words_in settings) (state_lent state) (words_in desk) node z).length =
              ap (λ (y : Writing). y.length) writing_is in
              omega arith

          pub order_written : (out : List ℕ) → out ≡ order_buffer (words_in settings) e.state (words_in desk) node z
              → ToldOrder (with_length w.length) (bytes_of out)
          order_written out g =
              let length_is : w.length ≡ (ordered (words_in settings) (state_lent state) (words_in desk) node (words_in buffer)).length =
              ap (λ (y : Writing). y.length)
              (writing_is ∙ sym (ordered_same (words_in settings) (state_lent state) (words_in desk) node (words_in buffer) z same_length)) in
              let out-is : out ≡ order_buffer (words_in settings) (state_lent state) (words_in desk) node (words_in buffer) =
              g
              ∙ ap (λ (x : State). order_buffer (words_in settings) x (words_in desk) node z) passed_entry.state_is
              ∙ sym (buffer_same (words_in settings) (state_lent state) (words_in desk) node (words_in buffer) z same_length none_is) in
              rw (length_is, out-is)
              (told (told_accepted w.refusal _ refusal_is _ _ buffer (eq-eqb w.refusal.code 0 n)))
