-- What contracts cite, each definition after those that it builds on. Laws stand in the files beside this one.
use Rattle.std.specs.Prelude.{ℕ, ◌+◌, ◌*◌, ◌-◌, Bool, cond, ◌&&◌, List, eqb, leb, ltb, length, get_or}
use Rattle.base_laws.specs.Definitions.{all_below, tabulate}
use Rattle.base_ids.specs.declared.Node.{Node}
use Rattle.base_ids.specs.declared.Position.{Position}
use Rattle.base_ids.specs.declared.View.{View}
use Rattle.report_views.specs.declared.Layout.{Layout}
use Rattle.report_views.specs.declared.Plan.{Plan}
use Rattle.report_views.specs.declared.Phase.{Phase}
use Rattle.report_views.specs.declared.Phase.TheVariants.{Gathering, Ordered, Preparing, Committed}
use Rattle.report_views.specs.Definitions.{pos, position_at, holder_at, target_at, position_word, start, node_at}
use Rattle.report_rows.specs.declared.latest.Latest.{Latest}
use Rattle.report_rows.specs.Definitions.{latest_at}
use Rattle.plan_page.specs.declared.Page.{Page}
use Rattle.state_planner.specs.declared.State.{State}

-- ---- A state as 160 words. What means nothing is zero in a sound state, and words 154 to 159 carry nothing, so each state has one
-- representation.
--
--   0         phase                            55, 56, 57  plan: number, members, total moves
--   1, 2      kept view: number, members       58 to 73    plan: shard masks
--   3         whether a termination is kept    74 to 89    plan: holders
--   4 to 19   kept view: shard masks           90 to 121   plan: targets, (view, k) for each shard
--   20 to 51  termination, (view, k)           122 to 153  each node's greatest reported view
--   52 to 54  held, fetched, prepared          154 to 159  zero

abbrev pub phase_number : Phase → ℕ
phase_number Gathering = 0
phase_number Ordered = 1
phase_number Preparing = 2
phase_number Committed = 3

abbrev pub flag : Bool → ℕ
flag b = cond b 1 0

-- words 0 to 51
unfoldable pub kept_word : State → ℕ → ℕ
kept_word x k =
    cond (ltb k 1) (phase_number x.phase)
    (cond (ltb k 2) x.kept.number.0
    (cond (ltb k 3) x.kept.members
    (cond (ltb k 4) (flag x.termination.made)
    (cond (ltb k 20) (get_or x.kept.masks (k - 4) 0) (position_word (position_at x.termination) (k - 20))))))

-- words 55 to 121
unfoldable pub plan_word : Plan → ℕ → ℕ
plan_word p k =
    cond (ltb k 56) p.layout.number.0
    (cond (ltb k 57) p.layout.members
    (cond (ltb k 58) p.total
    (cond (ltb k 74) (get_or p.layout.masks (k - 58) 0)
    (cond (ltb k 90) (holder_at p (k - 74)) (position_word (target_at p) (k - 90))))))

-- words 122 to 153
unfoldable pub latest_word : Latest → ℕ → ℕ
latest_word m k = latest_at m (k - 122)

-- word k
unfoldable pub state_word : State → ℕ → ℕ
state_word x k =
    cond (ltb k 52) (kept_word x k)
    (cond (ltb k 53) x.held
    (cond (ltb k 54) x.fetched
    (cond (ltb k 55) x.prepared
    (cond (ltb k 122) (plan_word x.plan k) (cond (ltb k 154) (latest_word x.latest k) 0)))))

unfoldable pub state_words : State → List ℕ
state_words x = tabulate 160 (state_word x)

unfoldable pub phase_of : ℕ → Phase
phase_of n = cond (eqb n 0) Gathering (cond (eqb n 1) Ordered (cond (eqb n 2) Preparing Committed))

-- n words from a place on
unfoldable pub span : List ℕ → ℕ → ℕ → List ℕ
span w at n = tabulate n (λ k. get_or w (at + k) 0)

-- 16 nodes from a place on
unfoldable pub nodes_at : List ℕ → ℕ → List Node
nodes_at w at = tabulate 16 (λ s. record { 0 = get_or w (at + s) 0 })

-- 32 views from a place on
unfoldable pub views_at : List ℕ → ℕ → List View
views_at w at = tabulate 32 (λ n. record { 0 = get_or w (at + n) 0 })

-- 16 positions from a place on, two words each
unfoldable pub positions_at : List ℕ → ℕ → List Position
positions_at w at = tabulate 16 (λ s. pos (get_or w (at + 2 * s) 0) (get_or w (at + 2 * s + 1) 0))

-- a view's number and members, and its masks after another word
unfoldable pub layout_at : List ℕ → ℕ → Layout
layout_at w at =
    record { number = record { 0 = get_or w at 0 }; members = get_or w (at + 1) 0; masks = span w (at + 3) 16 }

unfoldable pub state_in : List ℕ → State
state_in w =
    record {
      phase = phase_of (get_or w 0 0);
      kept = layout_at w 1;
      termination = record { made = eqb (get_or w 3 0) 1; positions = positions_at w 20 };
      held = get_or w 52 0;
      fetched = get_or w 53 0;
      prepared = get_or w 54 0;
      plan =
          record {
            layout = layout_at w 55;
            total = get_or w 57 0;
            holders = nodes_at w 74;
            targets = positions_at w 90;
          };
      latest = record { views = views_at w 122 };
    }

-- words 154 to 159 are zero
unfoldable pub rest_zero : List ℕ → Bool
rest_zero w = all_below 6 (λ k. eqb (get_or w (154 + k) 0) 0)

-- words that are a state
unfoldable pub is_state : List ℕ → Bool
is_state w = eqb (length w) 160 && leb (get_or w 0 0) 3 && leb (get_or w 3 0) 1 && rest_zero w

-- ---- A page as 512 words, of which 72 say something and the others are zero.
--
--   0  phase                    4     whether a placement exists    24 to 55  targets, (view, k) for each shard
--   1  kept view's number       5     its moves                     56 to 71  the placement's masks
--   2  mask of shards           6, 7  zero
--   3  of those with a holder   8 to 23  holders

-- words 0 to 7
unfoldable pub page_head : Page → ℕ → ℕ
page_head p k =
    cond (ltb k 1) (phase_number p.phase)
    (cond (ltb k 2) p.view.0
    (cond (ltb k 3) p.shards
    (cond (ltb k 4) p.known
    (cond (ltb k 5) (flag p.found) (cond (ltb k 6) p.moves 0)))))

-- word k
unfoldable pub page_word : Page → ℕ → ℕ
page_word p k =
    cond (ltb k 8) (page_head p k)
    (cond (ltb k 24) (node_at p.holders (k - 8))
    (cond (ltb k 56) (position_word (λ s. get_or p.targets s start) (k - 24)) (cond (ltb k 72) (get_or p.masks (k - 56) 0) 0)))

unfoldable pub page_words : Page → List ℕ
page_words p = tabulate 512 (page_word p)
