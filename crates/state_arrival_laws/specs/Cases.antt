-- Orders of a few reports to the fresh state: two that the theorem speaks of, one that is refused though they are not, and what goes
-- wrong where a node reports twice or a report is left out.
use Rattle.std.specs.Prelude.{ℕ, ◌≡◌, replicate}
use mathlib.Core.List.{List, [], ◌∷◌}
use Rattle.base_ids.specs.declared.Refusal.{Refusal}
use Rattle.base_ids.specs.Definitions.{none, refused}
use Rattle.message_format.specs.Definitions.{contents_of}
use Rattle.report_kept.specs.Definitions.{refusal_beside}
use Rattle.state_planner.specs.declared.State.{State}
use Rattle.state_planner.specs.Definitions.{fresh, after_report, reported, desk_after}
use Rattle.state_arrival_laws.specs.Arrivals.{AllTaken}

-- three nodes, one shard
abbrev pub three_nodes : List ℕ
three_nodes = 3 ∷ 1 ∷ 1 ∷ 1 ∷ 0 ∷ 0 ∷ 0 ∷ 1 ∷ []

-- a report of a view in which all three are members and the shard has this mask, and what follows
abbrev report_on : ℕ → ℕ → ℕ → List ℕ → List ℕ
report_on node view mask rest = node ∷ view ∷ 7 ∷ 1 ∷ 256 ∷ mask ∷ 0 ∷ rest

-- node 0's report of view 4, that with a longer log, node 1's of a view 4 with another mask, and node 2's of view 5
abbrev pub report0 : List ℕ
report0 = report_on 0 4 1 (0 ∷ [])

abbrev pub report0_again : List ℕ
report0_again = report_on 0 4 1 (2 ∷ 768 ∷ 4 ∷ 1 ∷ 0 ∷ [])

abbrev pub report1 : List ℕ
report1 = report_on 1 4 2 (0 ∷ [])

abbrev pub report2 : List ℕ
report2 = report_on 2 5 4 (0 ∷ [])

abbrev pub bare_desk : List ℕ
bare_desk = replicate 16384 0

-- these reports, in this order, are all accepted from the fresh state and an empty desk
pub record AcceptedInTurn (ws : List (List ℕ)) : Type 0 where
  pub state : State
  pub desk : List ℕ
  pub all : AllTaken three_nodes fresh bare_desk ws state desk

-- the state after two reports, accepted or not
unfoldable pub after_two : List ℕ → List ℕ → State
after_two w u = (reported three_nodes (reported three_nodes fresh bare_desk w).state (desk_after three_nodes fresh bare_desk w) u).state

pub record ArrivalClauses : Type 0 where
  -- two views 4 with other masks do no harm where view 5 is reported between them, whichever of them comes first
  pub one_order : AcceptedInTurn (report0 ∷ report2 ∷ report1 ∷ [])
  pub other_order : AcceptedInTurn (report1 ∷ report2 ∷ report0 ∷ [])
  pub same_end : (one_order.state ≡ other_order.state) × (one_order.desk ≡ other_order.desk)
  -- but where one follows the other it is refused: an exchange of neighbours is not always accepted
  pub refused_order : {y : State} {e : List ℕ} → AllTaken three_nodes fresh bare_desk (report0 ∷ report1 ∷ report2 ∷ []) y e → ⊥
  -- and then the order matters
  pub refused_differs : after_two report0 report1 ≡ after_two report1 report0 → ⊥
  -- a node that reports twice: the last report stands on the desk
  pub twice : AcceptedInTurn (report0 ∷ report0_again ∷ [])
  pub twice_turned : AcceptedInTurn (report0_again ∷ report0 ∷ [])
  pub twice_differs : twice.desk ≡ twice_turned.desk → ⊥
  -- a report that is left out is missed
  pub fewer : AcceptedInTurn (report0 ∷ report2 ∷ [])
  pub fewer_differs : one_order.state ≡ fewer.state → ⊥

-- the states and desks after one, two and three reports
abbrev pub state_with : List ℕ → State → State
state_with w x = after_report three_nodes x (contents_of w)

-- what the reports are refused beside
abbrev pub refusal_after : State → List ℕ → Refusal
refusal_after x w = refusal_beside three_nodes x.kept x.termination x.latest w

pub record BesideClauses : Type 0 where
  pub first0 : refusal_after fresh report0 ≡ none
  pub first1 : refusal_after fresh report1 ≡ none
  pub first-again : refusal_after fresh report0_again ≡ none
  pub after0 : refusal_after (state_with report0 fresh) report2 ≡ none
  pub after1 : refusal_after (state_with report1 fresh) report2 ≡ none
  pub last1 : refusal_after (state_with report2 (state_with report0 fresh)) report1 ≡ none
  pub last0 : refusal_after (state_with report2 (state_with report1 fresh)) report0 ≡ none
  pub masks_differ : refusal_after (state_with report0 fresh) report1 ≡ refused 12
  pub masks_differ_turned : refusal_after (state_with report1 fresh) report0 ≡ refused 12
  pub again : refusal_after (state_with report0 fresh) report0_again ≡ none
  pub back-again : refusal_after (state_with report0_again fresh) report0 ≡ none
