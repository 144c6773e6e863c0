-- Where the kept view and its termination come from: they are the old ones, or those of a message, and no clause speaks of the order.
use Rattle.std.specs.Prelude.{ℕ, ◌<◌, true, false, List, ◌⊎◌, ◌≡◌}
use Rattle.message_format.specs.Definitions.{contents_of}
use Rattle.report_views.specs.declared.Layout.{Layout}
use Rattle.report_views.specs.declared.Termination.{Termination}
use Rattle.report_kept.specs.Definitions.{layout_of, termination_of}
use Rattle.state_arrival_laws.specs.Arrivals.{OneOf}

-- the view that a message has
abbrev pub view_in : List ℕ → ℕ
view_in w = (contents_of w).view.0

-- v was kept before the messages ws, and u after them: u is the view of a message, above v's
pub record NewView (σ : List ℕ) (v : Layout) (ws : List (List ℕ)) (u : Layout) : Type 0 where
  pub message : List ℕ
  pub among : OneOf message ws
  pub greater : v.number.0 < view_in message
  pub given : u ≡ layout_of σ (contents_of message)

-- the termination is the old one: it was made already, or no message is of the kept view
pub record OldTermination (v : Layout) (t : Termination) (ws : List (List ℕ)) (u : Layout) (r : Termination) : Type 0 where
  pub view : u ≡ v
  pub given : r ≡ t
  pub settled : (t.made ≡ true) ⊎ ((w : List ℕ) → OneOf w ws → view_in w ≡ v.number.0 → ⊥)

-- it is that of a message of the kept view: the view is new, or none was made before
pub record NewTermination (σ : List ℕ) (v : Layout) (t : Termination) (ws : List (List ℕ)) (u : Layout) (r : Termination) : Type 0 where
  pub message : List ℕ
  pub among : OneOf message ws
  pub at_kept : view_in message ≡ u.number.0
  pub given : r ≡ termination_of σ (contents_of message)
  pub free : (v.number.0 < u.number.0) ⊎ (t.made ≡ false)

-- v with t was kept before the messages ws, and u with r after them
pub record KeptThrough (σ : List ℕ) (v : Layout) (t : Termination) (ws : List (List ℕ)) (u : Layout) (r : Termination) : Type 0 where
  pub view : (u ≡ v) ⊎ NewView σ v ws u
  pub termination : OldTermination v t ws u r ⊎ NewTermination σ v t ws u r
