-- What is asked of the desk for a node's order: the slots of the node and of every shard's holder can be read.
use Rattle.std.specs.Prelude.{ℕ, ◌<◌, ◌≤◌, Bool, true, false, cond, List, ◌≡◌, length}
use Rattle.std.proofs.Common.{ap, ◌∙◌}
use Rattle.std.proofs.Math.Path.{subst⁻¹}
use Rattle.base_laws.proofs.Below.{lowest_le}
use Rattle.message_format.specs.Definitions.{place, ends, following, row8, contents_of}
use Rattle.base_ids.specs.declared.Position.{Position}
use Rattle.message_format.specs.declared.Contents.{Contents}
use Rattle.report_views.specs.declared.Plan.{Plan}
use Rattle.report_views.specs.Definitions.{cut_from, start, slot, report_of, holder_at}
use Rattle.plan_order.specs.Definitions.{cut_beside}

-- node n's slot can be read: its chain is that of a message
pub record ReadableSlot (d : List ℕ) (n : ℕ) : Type 0 where
  pub words : length d ≡ 16384
  pub below : n < 32
  pub chained : row8 (slot d n) ≡ true

-- so can the slot of each shard's holder, of the given number of shards
pub record Holders (count : ℕ) (p : Plan) (d : List ℕ) : Type 0 where
  pub holder : (s : ℕ) → s < count → ReadableSlot d (holder_at p s)

-- a report has at most 127 records
pub report_few : (d : List ℕ) (n : ℕ) → (report_of d n).len ≤ 127
unfolding report_of contents_of following
report_few d n = lowest_le 127 (λ j. ends (slot d n) (place (slot d n) j))

-- what is read is such a report
pub read_few : (d : List ℕ) (n : ℕ) (h : Contents) → h ≡ report_of d n → h.len ≤ 127
read_few d n h e = subst⁻¹ (λ (c : Contents). c.len ≤ 127) e (report_few d n)

-- the cut against a report that has been read
pub cut_read : (d b : List ℕ) (len s n : ℕ) (h : Contents) (t r : Position) → h ≡ report_of d n
    → r ≡ cut_from b len h.body h.len s t → r ≡ cut_beside d b len s n t
cut_read d b len s n h t r e k = k ∙ ap (λ (c : Contents). cut_from b len c.body c.len s t) e

-- the cut where the node carries the shard, and where it does not
pub cut_taken : {b : Bool} {r x : Position} → b ≡ true → r ≡ x → r ≡ cond b x start
cut_taken {b} h e = rw h e

pub cut_left : {b : Bool} (x : Position) → b ≡ false → start ≡ cond b x start
cut_left {b} x h = rw h
