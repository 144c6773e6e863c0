-- What the order event hands back, and the lent words afterwards.
use Rattle.std.specs.Prelude.{ℕ, cond, List}
use Rattle.base_ids.specs.Definitions.{accepted}
use Rattle.message_format.specs.declared.Writing.{Writing}
use Rattle.message_format.specs.Definitions.{message_length, message_of}
use Rattle.plan_order.specs.Definitions.{order_contents}
use Rattle.state_planner.specs.declared.State.{State}
use Rattle.state_planner.specs.Definitions.{order_refusal}

-- what the call answers: the length of the message, or 0 beside a refusal
unfoldable pub ordered : List ℕ → State → List ℕ → ℕ → List ℕ → Writing
ordered σ x d n buffer =
    record {
      refusal = order_refusal σ x d n buffer;
      length =
          cond (accepted (order_refusal σ x d n buffer)) (message_length (order_contents σ x.plan d n)) 0;
    }

-- the lent words afterwards: the order, then zeros, or what they were
unfoldable pub order_buffer : List ℕ → State → List ℕ → ℕ → List ℕ → List ℕ
order_buffer σ x d n buffer =
    cond (accepted (order_refusal σ x d n buffer)) (message_of (order_contents σ x.plan d n) 512) buffer
