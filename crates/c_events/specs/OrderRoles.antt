-- Only the planner writes orders: to any other role the call answers by lengths and settings alone, and changes no lent byte.
use Rattle.std.specs.Prelude.{ℕ, false, List, ◌≡◌}
use Rattle.c_state.specs.Definitions.{lengths_ok, by_planner}
use Rattle.c_state.specs.Barred.{Bars, told_barred}
use Rattle.c_events.specs.Definitions.{order_refused, order_answer, order_leaves}

module _ (role : ℕ) (settings state desk : List ℕ) (node : ℕ) (buffer : List ℕ) (h : by_planner role ≡ false) where
  pub order_barred : Bars (lengths_ok desk buffer) settings buffer (order_answer role settings state desk node buffer)
      (order_leaves role settings state desk node buffer)
  unfolding order_answer order_leaves order_refused
  order_barred = told_barred (by_planner role) (lengths_ok desk buffer) settings state _ h _ _ buffer
