-- What contracts cite, each definition after those that it builds on. Laws stand in the files beside this one.
use Rattle.std.specs.Prelude.{ℕ, zero, suc, ◌+◌, ◌*◌, ◌/◌, ◌%◌, min, Bool, cond, ◌&&◌, ◌||◌, false, not, true, List, [], ◌∷◌, eqb, leb, ltb, replicate, get_or}
use Rattle.std.specs.Int.Bits.{bit_and}
use Rattle.base_laws.specs.Definitions.{any_below, part, all_below, has, lowest, count, tabulate, within, subset}
use Rattle.base_ids.specs.declared.Position.{Position}
use Rattle.base_ids.specs.declared.Node.{Node}
use Rattle.base_ids.specs.Definitions.{accepted, not_after}
use Rattle.settings_values.specs.Definitions.{shards, least, nodes}
use Rattle.message_format.specs.Definitions.{tag, word1, word2, kind, contents_of, members_of, message_refusal, view_ok, row10, is_position}
use Rattle.message_format.specs.declared.Contents.{Contents}
use Rattle.message_format.specs.declared.Form.TheVariants.{Report}
use Rattle.place_groups.specs.Definitions.{group_valid, plan_moves}
use Rattle.report_views.specs.declared.Layout.{Layout}
use Rattle.report_views.specs.declared.Termination.{Termination}
use Rattle.report_views.specs.declared.Plan.{Plan}
use Rattle.report_views.specs.declared.Reason.{Reason}
use Rattle.report_views.specs.declared.Reason.TheVariants.{NoView, NoMajority, TooFew, NoHolder, NoPlacement}
use Rattle.report_views.specs.declared.Quorum.{Quorum}
use Rattle.report_views.specs.declared.Quorum.TheVariants.{Met, Short}
use Rattle.report_views.specs.declared.Phase.{Phase}
use Rattle.report_views.specs.declared.Phase.TheVariants.{Gathering, Ordered, Preparing, Committed}

-- ---- A shard's log in a report: its runs are the records of kind 3. Here b is the body of the report's contents, len how many
-- records it has.

-- update k of view v
abbrev pub pos : ℕ → ℕ → Position
pos v k = record { view = record { 0 = v }; k = k }

-- the end of an empty log, before all other positions
abbrev pub start : Position
start = pos 0 0

-- record j is a run of shard s
abbrev pub is_run : List ℕ → ℕ → ℕ → Bool
is_run b s j = eqb (tag b j) (768 + s)

-- the end of the log of shard s by the first n records: its last run, or (0, 0)
unfoldable pub end_of : List ℕ → ℕ → ℕ → Position
end_of b s zero = start
end_of b s (suc n) = cond (is_run b s n) (pos (word1 b n) (word2 b n)) (end_of b s n)

-- the runs of shard s among k records from record i on, in their order, each by its last update
unfoldable pub runs_from : List ℕ → ℕ → ℕ → ℕ → List Position
runs_from b s i zero = []
runs_from b s i (suc k) = cond (is_run b s i) (pos (word1 b i) (word2 b i) ∷ runs_from b s (suc i) k) (runs_from b s (suc i) k)

-- the log of shard s, run by run
unfoldable pub runs_of : List ℕ → ℕ → ℕ → List Position
runs_of b s len = runs_from b s 0 len

-- run j is of the position's view and reaches it
unfoldable pub reaches : List ℕ → ℕ → Position → ℕ → Bool
reaches b s p j = is_run b s j && eqb (word1 b j) p.view.0 && leb p.k (word2 b j)

-- the log of shard s holds the update p
unfoldable pub holds : List ℕ → ℕ → ℕ → Position → Bool
holds b len s p = leb 1 p.k && any_below len (reaches b s p)

-- p is (0, 0)
abbrev pub is_start : Position → Bool
is_start p = eqb p.view.0 0 && eqb p.k 0

-- the log of shard s has p: any log has (0, 0)
unfoldable pub has_update : List ℕ → ℕ → ℕ → Position → Bool
has_update b len s p = is_start p || holds b len s p

-- ---- The tests of the phase.

-- the test of a phase, by its answer in each
abbrev by_phase : Bool → Bool → Bool → Bool → Phase → Bool
by_phase g o p c Gathering = g
by_phase g o p c Ordered = o
by_phase g o p c Preparing = p
by_phase g o p c Committed = c

abbrev pub is_gathering : Phase → Bool
is_gathering = by_phase true false false false

abbrev pub is_ordered : Phase → Bool
is_ordered = by_phase false true false false

abbrev pub is_preparing : Phase → Bool
is_preparing = by_phase false false true false

abbrev pub is_committed : Phase → Bool
is_committed = by_phase false false false true

-- ---- What means nothing is zero: no view, no termination, no plan.

abbrev pub no_view : Layout
no_view = record { number = record { 0 = 0 }; members = 0; masks = replicate 16 0 }

abbrev pub no_termination : Termination
no_termination = record { made = false; positions = replicate 16 start }

abbrev pub no_plan : Plan
no_plan = record { layout = no_view; total = 0; holders = replicate 16 (record { 0 = 0 }); targets = replicate 16 start }

-- ---- The desk: 512 words for each node. A slot is read as a message of 512 words. And the entries of a view, a termination and a
-- plan by shard.

-- the words of node n's slot
unfoldable pub slot : List ℕ → ℕ → List ℕ
slot d n = part (512 * n) (512 * n + 512) d

-- node n's report
unfoldable pub report_of : List ℕ → ℕ → Contents
report_of d n = contents_of (slot d n)

-- the end of node n's log of shard s
abbrev pub end_at : List ℕ → ℕ → ℕ → Position
end_at d s n = end_of (report_of d n).body s (report_of d n).len

-- node n's log of shard s holds the update p
abbrev pub holds_at : List ℕ → ℕ → Position → ℕ → Bool
holds_at d s p n = holds (report_of d n).body (report_of d n).len s p

-- a report has a termination: in one that passes rows 9, 16 and 17 the record after those of kind 1 is then of kind 2
abbrev pub terminated : List ℕ → Contents → Bool
terminated σ c = ltb (shards σ) c.len && eqb (kind c.body (shards σ)) 2

-- the position of shard s in a report's termination
abbrev pub terminated_at : List ℕ → Contents → ℕ → Position
terminated_at σ c s = pos (word1 c.body (shards σ + s)) (word2 c.body (shards σ + s))

-- the members of shard s in a view
abbrev pub mask_at : Layout → ℕ → ℕ
mask_at v s = get_or v.masks s 0

-- the position of shard s in a termination
abbrev pub position_at : Termination → ℕ → Position
position_at t s = get_or t.positions s start

-- the node at place s of a list
abbrev pub node_at : List Node → ℕ → ℕ
node_at l s = (get_or l s (record { 0 = 0 })).0

-- the holder of shard s in a plan
abbrev pub holder_at : Plan → ℕ → ℕ
holder_at p s = node_at p.holders s

-- the target of shard s in a plan
abbrev pub target_at : Plan → ℕ → Position
target_at p s = get_or p.targets s start

-- ---- When a report fits what is kept: rows 12 and 13, and the soundness of a held node's slot.

-- the report is of the kept view
abbrev pub of_kept : Layout → Contents → Bool
of_kept v c = eqb c.view.0 v.number.0

-- the report has the members and the shard masks of the view
unfoldable pub same_view : List ℕ → Layout → Contents → Bool
same_view σ v c =
    eqb c.members v.members && all_below (shards σ) (λ s. eqb (members_of c.body s) (mask_at v s))

-- row 12: a report with the kept number has its masks
unfoldable pub row12 : List ℕ → Layout → Contents → Bool
row12 σ v c = not (of_kept v c) || same_view σ v c

-- p and q are one position
abbrev pub same_position : Position → Position → Bool
same_position p q = eqb p.view.0 q.view.0 && eqb p.k q.k

-- the report's termination is the kept one
unfoldable pub same_termination : List ℕ → Termination → Contents → Bool
same_termination σ t c = all_below (shards σ) (λ s. same_position (terminated_at σ c s) (position_at t s))

-- row 13: a termination of the kept view does not differ from the kept one
unfoldable pub row13 : List ℕ → Layout → Termination → Contents → Bool
row13 σ v t c = not (of_kept v c && terminated σ c && t.made) || same_termination σ t c

-- a termination of the kept view is kept
unfoldable pub term_kept : List ℕ → Layout → Termination → Contents → Bool
term_kept σ v t c = not (of_kept v c && terminated σ c) || t.made

-- node n's slot is its valid report under rows 5 to 13, with no view above the kept one, and a termination in one of the
-- kept view is kept. Whether n is held plays no part.
unfoldable pub slot_ok : List ℕ → Layout → Termination → List ℕ → ℕ → Bool
slot_ok σ v t d n =
    accepted (message_refusal Report σ (slot d n)) && eqb (report_of d n).node.0 n
    && leb (report_of d n).view.0 v.number.0
    && row12 σ v (report_of d n)
    && row13 σ v t (report_of d n)
    && term_kept σ v t (report_of d n)

-- every held node's slot is sound
unfoldable pub slots_ok : List ℕ → Layout → Termination → ℕ → List ℕ → Bool
slots_ok σ v t held d = all_below 32 (λ n. not (has held n) || slot_ok σ v t d n)

-- ---- The quorum conditions, and each shard's target and holder, from the settings σ, the kept view v with its termination t,
-- the mask of held nodes and the desk d.

-- a candidate of shard s: a held node that reported the kept view and is a member of s in it
unfoldable pub candidate : Layout → ℕ → List ℕ → ℕ → ℕ → Bool
candidate v held d s n = has held n && has (mask_at v s) n && eqb (report_of d n).view.0 v.number.0

-- of the n lowest nodes that f picks, a is one with the greatest end
unfoldable pub greatest : (ℕ → Bool) → (ℕ → Position) → ℕ → ℕ → Bool
greatest f end n a = f a && all_below n (λ m. not (f m) || not_after (end m) (end a))

-- of the n lowest nodes that f picks, the lowest with the greatest end, or n where there is none
unfoldable pub best : (ℕ → Bool) → (ℕ → Position) → ℕ → ℕ
best f end n = lowest n (greatest f end n)

-- where the log of shard s ends: the kept termination's position, or else the greatest end among candidates
unfoldable pub target : Layout → Termination → ℕ → List ℕ → ℕ → Position
target v t held d s =
    cond t.made (position_at t s) (end_at d s (best (candidate v held d s) (end_at d s) 32))

-- a candidate whose log has the target
unfoldable pub able : Layout → Termination → ℕ → List ℕ → ℕ → ℕ → Bool
able v t held d s n = candidate v held d s n && has_update (report_of d n).body (report_of d n).len s (target v t held d s)

-- the holder of shard s: of the candidates that have the target the lowest with the greatest end, or 32 where there is none
unfoldable pub holder : Layout → Termination → ℕ → List ℕ → ℕ → ℕ
holder v t held d s = best (able v t held d s) (end_at d s) 32

-- more than half of the kept view's members are held
unfoldable pub majority : Layout → ℕ → Bool
majority v held = ltb (count v.members) (2 * count (bit_and held v.members))

-- the lowest shard without a holder, or S
unfoldable pub first_unheld : List ℕ → Layout → Termination → ℕ → List ℕ → ℕ
first_unheld σ v t held d = lowest (shards σ) (λ s. eqb (holder v t held d s) 32)

-- waits 1 to 4: the first that applies
unfoldable pub quorum_of : List ℕ → Layout → Termination → ℕ → List ℕ → Quorum
quorum_of σ v t held d =
    cond (eqb v.number.0 0) (Short NoView)
    (cond (not (majority v held)) (Short NoMajority)
    (cond (ltb (count held) (least σ)) (Short TooFew)
    (cond (ltb (first_unheld σ v t held d) (shards σ)) (Short (NoHolder (record { 0 = first_unheld σ v t held d }))) Met)))

-- document 01's number of a reason
unfoldable pub number_of : Reason → ℕ
number_of NoView = 1
number_of NoMajority = 2
number_of TooFew = 3
number_of (NoHolder s) = 4
number_of (NoPlacement g) = 5

-- the shard or subgroup that a reason names, or 0
unfoldable pub value_of : Reason → ℕ
value_of NoView = 0
value_of NoMajority = 0
value_of TooFew = 0
value_of (NoHolder s) = s.0
value_of (NoPlacement g) = g

-- ---- Each shard's holder and target, from the held reports.

-- each shard's holder, and 0 from S up
unfoldable pub holders_of : List ℕ → Layout → Termination → ℕ → List ℕ → List Node
holders_of σ v t held d = tabulate 16 (λ s. record { 0 = cond (ltb s (shards σ)) (holder v t held d s) 0 })

-- each shard's target, and (0, 0) from S up
unfoldable pub targets_of : List ℕ → Layout → Termination → ℕ → List ℕ → List Position
targets_of σ v t held d = tabulate 16 (λ s. cond (ltb s (shards σ)) (target v t held d s) start)

-- ---- Positions as words, two for each: the view, then k.

-- word i of a list of positions
abbrev pub position_word : (ℕ → Position) → ℕ → ℕ
position_word p i = cond (eqb (i % 2) 0) (p (i / 2)).view.0 (p (i / 2)).k

-- ---- When the planner's state is sound, part by part. What means nothing is zero, so that a state has one representation:
-- entries from S up, a view that is not kept, a termination that is not made, a plan while gathering.

-- a view with no entry from S up
unfoldable pub layout_tidy : List ℕ → Layout → Bool
layout_tidy σ v = all_below 16 (λ s. ltb s (shards σ) || eqb (mask_at v s) 0)

-- no view: number 0, and nothing else
unfoldable pub layout_blank : Layout → Bool
layout_blank v = eqb v.number.0 0 && eqb v.members 0 && all_below 16 (λ i. eqb (mask_at v i) 0)

-- a kept view obeys rows 7 and 10 as in a report, its reporter aside
unfoldable pub view_sound : List ℕ → Layout → Bool
view_sound σ v =
    view_ok Report v.number.0 && within (nodes σ) v.members && row10 σ v.members (mask_at v)
    && layout_tidy σ v

-- a position of a termination obeys row 11 as in a report of the view
unfoldable pub position_sound : ℕ → Position → Bool
position_sound number p = is_position p.view.0 p.k && leb p.view.0 number

-- the position of shard s in a termination; where there is none it is zero
unfoldable pub term_sound_at : List ℕ → Layout → Termination → ℕ → Bool
term_sound_at σ v t s =
    cond (t.made && ltb s (shards σ)) (position_sound v.number.0 (position_at t s)) (is_start (position_at t s))

unfoldable pub term_sound : List ℕ → Layout → Termination → Bool
term_sound σ v t = all_below 16 (term_sound_at σ v t)

-- no view is kept, nothing is held and no termination is made
unfoldable pub nothing_kept : Layout → Termination → ℕ → Bool
nothing_kept v t held = layout_blank v && eqb held 0 && not t.made

-- while no view is kept nothing is held and no termination kept
unfoldable pub kept_sound : List ℕ → Layout → Termination → ℕ → Bool
kept_sound σ v t held = (nothing_kept v t held || view_sound σ v) && term_sound σ v t && within (nodes σ) held

-- marks lie within held, and are as the phase says
unfoldable pub marks_sound : Phase → ℕ → ℕ → ℕ → Bool
marks_sound Gathering held fetched prepared = eqb fetched 0 && eqb prepared 0
marks_sound Ordered held fetched prepared = subset fetched held && not (eqb fetched held) && eqb prepared 0
marks_sound Preparing held fetched prepared = eqb fetched held && subset prepared held && not (eqb prepared held)
marks_sound Committed held fetched prepared = eqb fetched held && eqb prepared held

-- no plan
unfoldable pub plan_blank : Plan → Bool
plan_blank p =
    layout_blank p.layout && eqb p.total 0 && all_below 16 (λ s. eqb (holder_at p s) 0 && is_start (target_at p s))

-- waits 1 to 4 do not apply
unfoldable pub is_met : Quorum → Bool
is_met Met = true
is_met (Short r) = false

-- the plan's holder and target of shard s are those of the held reports; from S up they are zero
unfoldable pub shard_planned : List ℕ → Layout → Termination → ℕ → List ℕ → Plan → ℕ → Bool
shard_planned σ v t held d p s =
    cond (ltb s (shards σ))
    (eqb (holder_at p s) (holder v t held d s) && same_position (target_at p s) (target v t held d s))
    (eqb (holder_at p s) 0 && is_start (target_at p s))

-- the moves of all four subgroups
unfoldable pub all_moves : List ℕ → Layout → Layout → ℕ
all_moves σ old new = plan_moves σ (mask_at old) (mask_at new)

-- a plan: no wait applies (its own placements show that wait 5 does not); number, members, holders, targets and total are
-- document 01's, and every subgroup's placement is valid. Least moves, stays and order are not asked again.
unfoldable pub plan_sound : List ℕ → Layout → Termination → ℕ → List ℕ → Plan → Bool
plan_sound σ v t held d p =
    is_met (quorum_of σ v t held d) && eqb p.layout.number.0 (v.number.0 + 1) && eqb p.layout.members held
    && layout_tidy σ p.layout
    && all_below 16 (shard_planned σ v t held d p)
    && all_below 4 (group_valid σ held (mask_at p.layout))
    && eqb p.total (all_moves σ v p.layout)

-- the plan as the phase says
unfoldable pub plan_fits : Phase → List ℕ → Layout → Termination → ℕ → List ℕ → Plan → Bool
plan_fits Gathering σ v t held d p = plan_blank p
plan_fits Ordered σ v t held d p = plan_sound σ v t held d p
plan_fits Preparing σ v t held d p = plan_sound σ v t held d p
plan_fits Committed σ v t held d p = plan_sound σ v t held d p

-- ---- The cut of a placed node: the end of the longest stretch of updates that its log and the holder's log, up to the target, share from their
-- beginning. Here logs are lists of runs, as they stand in reports.

-- a log up to the target t: the runs of earlier views than its, and of the run of its view what is not past it
unfoldable pub runs_to : Position → List Position → List Position
runs_to t [] = []
runs_to t (q ∷ qs) =
    cond (ltb q.view.0 t.view.0) (q ∷ runs_to t qs)
    (cond (eqb q.view.0 t.view.0 && leb 1 t.k) (pos q.view.0 (min q.k t.k) ∷ []) [])

-- where two logs that are the same up to a stop being the same: a run of the same view and count is shared whole and the next ones
-- are looked at; of one view and two counts the lesser is shared, and nothing after it; of two views nothing is
unfoldable pub shared_after : Position → List Position → List Position → Position
shared_after a [] qs = a
shared_after a (r ∷ rs) [] = a
shared_after a (r ∷ rs) (q ∷ qs) =
    cond (eqb r.view.0 q.view.0) (cond (eqb r.k q.k) (shared_after r rs qs) (pos r.view.0 (min r.k q.k))) a

-- the cut for shard s of a node whose report has the body b of len records, from the holder's body hb of hlen and the target t
unfoldable pub cut_from : List ℕ → ℕ → List ℕ → ℕ → ℕ → Position → Position
cut_from b len hb hlen s t = shared_after start (runs_of b s len) (runs_to t (runs_of hb s hlen))
