-- The order of a held node: the plan's view, masks and targets, and the holder and cut of each shard that the node carries.
use Rattle.std.specs.Prelude.{ℕ, ◌+◌, ◌*◌, ◌-◌, ◌/◌, ◌%◌, Bool, cond, List, eqb, ltb}
use Rattle.base_laws.specs.Definitions.{count_below, has, tabulate}
use Rattle.base_sum_laws.specs.Definitions.{nth}
use Rattle.base_ids.specs.declared.Position.{Position}
use Rattle.settings_values.specs.Definitions.{shards}
use Rattle.message_format.specs.declared.Contents.{Contents}
use Rattle.report_views.specs.declared.Layout.{Layout}
use Rattle.report_views.specs.declared.Plan.{Plan}
use Rattle.report_views.specs.Definitions.{report_of, mask_at, holder_at, target_at, cut_from}

-- node n is a member of shard s in a view
abbrev pub is_member : Layout → ℕ → ℕ → Bool
is_member v n s = has (mask_at v s) n

-- the plan gives node n shard s
abbrev pub carries : Plan → ℕ → ℕ → Bool
carries p n s = is_member p.layout n s

-- how many of the first s shards node n carries
abbrev pub carried_below : Plan → ℕ → ℕ → ℕ
carried_below p n s = count_below s (carries p n)

-- the i-th shard that node n carries, from 0
abbrev pub carried : List ℕ → Plan → ℕ → ℕ → ℕ
carried σ p n i = nth (shards σ) (carries p n) i

-- the cut for shard s of a node whose report has the body b of len records, against the report of node h and the target t
abbrev pub cut_beside : List ℕ → List ℕ → ℕ → ℕ → ℕ → Position → Position
cut_beside d b len s h t = cut_from b len (report_of d h).body (report_of d h).len s t

-- the cut of node n for shard s
abbrev pub cut_of : Plan → List ℕ → ℕ → ℕ → Position
cut_of p d n s = cut_beside d (report_of d n).body (report_of d n).len s (holder_at p s) (target_at p s)

-- three words of a record
abbrev pub triple : ℕ → ℕ → ℕ → ℕ → ℕ
triple a b c part = cond (eqb part 0) a (cond (eqb part 1) b c)

-- a record of a position
abbrev pub position_record : ℕ → Position → ℕ → ℕ
position_record tag p part = triple tag p.view.0 p.k part

-- the record of the holder of shard s, and that of the cut
abbrev pub holder_record : Plan → ℕ → ℕ → ℕ
holder_record p s part = triple (1024 + s) (holder_at p s) 0 part

abbrev pub cut_record : Plan → List ℕ → ℕ → ℕ → ℕ → ℕ
cut_record p d n s part = position_record (1280 + s) (cut_of p d n s) part

-- how many shards node n carries
abbrev pub own : List ℕ → Plan → ℕ → ℕ
own σ p n = carried_below p n (shards σ)

-- word `part` of record j: masks, targets, holders, cuts
unfoldable pub order_record : List ℕ → Plan → List ℕ → ℕ → ℕ → ℕ → ℕ
order_record σ p d n j part =
    cond (ltb j (shards σ)) (triple (256 + j) (mask_at p.layout j) 0 part)
    (cond (ltb j (2 * shards σ)) (position_record (512 + (j - shards σ)) (target_at p (j - shards σ)) part)
    (cond (ltb j (2 * shards σ + own σ p n)) (holder_record p (carried σ p n (j - 2 * shards σ)) part)
    (cut_record p d n (carried σ p n (j - 2 * shards σ - own σ p n)) part)))

-- how many records the order has after the head
abbrev pub order_len : List ℕ → Plan → ℕ → ℕ
order_len σ p n = 2 * shards σ + 2 * own σ p n

-- word k of the records
abbrev pub order_word : List ℕ → Plan → List ℕ → ℕ → ℕ → ℕ
order_word σ p d n k = order_record σ p d n (k / 3) (k % 3)

-- the records, with zeros after them
unfoldable pub order_body : List ℕ → Plan → List ℕ → ℕ → List ℕ
order_body σ p d n = tabulate 381 (λ k. cond (ltb k (3 * order_len σ p n)) (order_word σ p d n k) 0)

-- the contents of node n's order
unfoldable pub order_contents : List ℕ → Plan → List ℕ → ℕ → Contents
order_contents σ p d n =
    record {
      node = record { 0 = n };
      view = p.layout.number;
      members = p.layout.members;
      len = order_len σ p n;
      body = order_body σ p d n;
    }
