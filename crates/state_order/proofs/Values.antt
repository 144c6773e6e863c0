-- Laws over the values that definitions have, where the code gives a Result or an Option.
use Rattle.std.specs.Prelude.{ℕ, List, ◌≡◌, length}
use Rattle.std.proofs.Math.Path.{refl, sym}
use Rattle.std.proofs.Common.{ap, ◌∙◌}
use Rattle.std.proofs.Math.Dec.{eqb}
use borrow.Author.Tests.{eqb-true, ne_eqb}
use Rattle.settings_values.specs.Definitions.{Settings}
use Rattle.base_ids.specs.declared.Refusal.{Refusal}
use Rattle.base_ids.specs.Definitions.{refused, none}
use Rattle.base_ids.specs.Refusals.{unless_ok, unless_rest}
use Rattle.message_format.specs.declared.Contents.{Contents}
use Rattle.message_format.specs.declared.Writing.{Writing}
use Rattle.message_format.specs.Definitions.{message_length}
use Rattle.plan_order.specs.Definitions.{order_contents}
use Rattle.state_planner.specs.declared.State.{State}
use Rattle.state_planner.specs.Definitions.{order_refusal}
use Rattle.state_planner.specs.Refusing.{call_refusal}
use Rattle.state_planner.specs.CallLaws.{called_desk, called_settings}
use Rattle.state_order.specs.Definitions.{ordered}
use Rattle.state_order.specs.Orders.{call_refuses}

-- rows 1 and 2 do not refuse: r is what the code found of them
module _ (σ d buffer : List ℕ) (r : Refusal) (e : r ≡ call_refuses σ d buffer) (h : r.code ≡ 0) where
  calls : call_refuses σ d buffer ≡ none
  calls = sym e ∙ ap refused h

  passed : call_refusal σ d ≡ none
  unfolding call_refuses
  passed = unless_rest (eqb (length buffer) 512) 0 _ calls

  pub called_buffer : length buffer ≡ 512
  unfolding call_refuses
  called_buffer = eqb-true (length buffer) 512 (unless_ok (eqb (length buffer) 512) 0 _ calls)

  pub called_words : length d ≡ 16384
  called_words = called_desk σ d (call_refusal σ d) refl (ap (λ (q : Refusal). q.code) passed)

  pub called_right : Settings σ
  called_right = called_settings σ d (call_refusal σ d) refl (ap (λ (q : Refusal). q.code) passed)

-- what is answered beside the refusal r
abbrev writing_beside : Refusal → ℕ → Writing
writing_beside r n = record { refusal = r; length = n }

module _ (σ : List ℕ) (x : State) (d : List ℕ) (n : ℕ) (buffer : List ℕ) (r : Refusal) (e : r ≡ order_refusal σ x d n buffer) where
  pub refused_answer : (r.code ≡ 0 → ⊥) → writing_beside r 0 ≡ ordered σ x d n buffer
  unfolding ordered
  refused_answer h = rw (sym e, ne_eqb r.code 0 h)

  not_refused : r.code ≡ 0 → order_refusal σ x d n buffer ≡ none
  not_refused h = sym e ∙ ap refused h

  -- and beside none, for contents that are the node's order
  module _ (h : r.code ≡ 0) (c : Contents) (made : c ≡ order_contents σ x.plan d n) where
    pub made_answer : (l : ℕ) → l ≡ message_length c → writing_beside r l ≡ ordered σ x d n buffer
    unfolding ordered
    made_answer l i = rw (i, made, e, not_refused h)
