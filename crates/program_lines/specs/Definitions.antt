-- What contracts cite, each definition after those that it builds on. Laws stand in the files beside this one.
use Rattle.std.specs.Prelude.{ℕ, zero, suc, cond, List, [], ◌∷◌, ◌++◌, get_or}
use Rattle.base_laws.specs.Definitions.{has}
use Rattle.settings_values.specs.Definitions.{shards}
use Rattle.report_views.specs.declared.Plan.{Plan}
use Rattle.report_views.specs.declared.Reason.{Reason}
use Rattle.report_views.specs.declared.Reason.TheVariants.{NoView, NoMajority, TooFew, NoHolder, NoPlacement}
use Rattle.report_views.specs.Definitions.{holder_at, target_at, number_of, value_of}
use Rattle.state_planner.specs.declared.Decision.{Decision}
use Rattle.state_planner.specs.declared.Decision.TheVariants.{Planned, Wait, Refused}
use Rattle.program_text.specs.Definitions.{field, line, space, number_line}

-- ---- The members of a mask as text.

-- node n after a space, if it is in the mask m
unfoldable pub member : ℕ → ℕ → List ℕ
member m n = cond (has m n) (field (32 ∷ []) n) []

-- the nodes below n that are in the mask m, ascending
unfoldable pub members_below : ℕ → ℕ → List ℕ
members_below zero m = []
members_below (suc n) m = members_below n m ++ member m n

-- ---- What a run prints: a plan, a wait, or a refusal's number, each line ended by a newline (byte 10).

abbrev pub newline : List ℕ
newline = 10 ∷ []

-- "wait "
abbrev pub wait_label : List ℕ
wait_label = 119 ∷ 97 ∷ 105 ∷ 116 ∷ 32 ∷ []

-- "view "
abbrev pub view_label : List ℕ
view_label = 118 ∷ 105 ∷ 101 ∷ 119 ∷ 32 ∷ []

-- "moves "
abbrev pub moves_label : List ℕ
moves_label = 109 ∷ 111 ∷ 118 ∷ 101 ∷ 115 ∷ 32 ∷ []

-- "shard "
abbrev pub shard_label : List ℕ
shard_label = 115 ∷ 104 ∷ 97 ∷ 114 ∷ 100 ∷ 32 ∷ []

-- " holder "
abbrev pub holder_label : List ℕ
holder_label = 32 ∷ 104 ∷ 111 ∷ 108 ∷ 100 ∷ 101 ∷ 114 ∷ 32 ∷ []

-- " target "
abbrev pub target_label : List ℕ
target_label = 32 ∷ 116 ∷ 97 ∷ 114 ∷ 103 ∷ 101 ∷ 116 ∷ 32 ∷ []

-- " members"
abbrev pub members_label : List ℕ
members_label = 32 ∷ 109 ∷ 101 ∷ 109 ∷ 98 ∷ 101 ∷ 114 ∷ 115 ∷ []

-- wait r v
unfoldable pub wait_for : ℕ → ℕ → List ℕ
wait_for reason value = field wait_label reason ++ line space value

-- the reason's number, then its shard or subgroup if there is one
unfoldable pub wait_line : Reason → List ℕ
wait_line NoView = line wait_label (number_of NoView)
wait_line NoMajority = line wait_label (number_of NoMajority)
wait_line TooFew = line wait_label (number_of TooFew)
wait_line (NoHolder s) = wait_for (number_of (NoHolder s)) (value_of (NoHolder s))
wait_line (NoPlacement g) = wait_for (number_of (NoPlacement g)) (value_of (NoPlacement g))

-- shard s holder h target v k members n ..
unfoldable pub shard_line : Plan → ℕ → List ℕ
shard_line p s =
    field shard_label s
    ++ (field holder_label (holder_at p s)
    ++ (field target_label (target_at p s).view.0
    ++ (field space (target_at p s).k
    ++ (members_label
    ++ (members_below 32 (get_or p.layout.masks s 0)
    ++ newline)))))

-- the lines of the shards below n
unfoldable pub shard_lines : Plan → ℕ → List ℕ
shard_lines p zero = []
shard_lines p (suc n) = shard_lines p n ++ shard_line p n

-- the plan of n shards: the new view, the moves, and a line for each shard
unfoldable pub plan_lines : Plan → ℕ → List ℕ
plan_lines p n = line view_label p.layout.number.0 ++ (line moves_label p.total ++ shard_lines p n)

-- ---- The text of a decision.

-- the text of a decision, whose plan stands beside it
unfoldable pub decision_text : List ℕ → Decision → Plan → List ℕ
decision_text σ Planned p = plan_lines p (shards σ)
decision_text σ (Wait reason) p = wait_line reason
decision_text σ (Refused r) p = number_line r
