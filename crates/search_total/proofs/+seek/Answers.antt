-- Each return is a step of the search: the end, nothing to hope for, a pair that is barred, a pair taken with a placement found, and a
-- pair left after none was found with it. Assumes nothing.
use Prim.Native.Nat.{ℕ, ◌<◌, ◌≤◌}
use mathlib.Core.Path.{◌≡◌}
use native.Mathlib.Numerals.{add-one-le}
use native.Mathlib.Omega.{arith}
use Rattle.search_judge.specs.Post.{unbarred_free}
use Rattle.search_total.specs.Steps.{sought_end, sought_hopeless, sought_leave, sought_last, sought_found, sought_else, barred_none}
use Rattle.search_total.specs.Steps.{ready_restored, none_last, restored_none, restored_last}
use Rattle.search_total.proofs.+seek.Goals as goal

below : {t : ℕ} → (t ≡ 512 → ⊥) → t ≤ 512 → t < 512
below e l = omega arith

pub returns-then-t-eq512 : goal.returns-then-t-eq512
returns-then-t-eq512 t c = sought_end c.if-t-eq512.true c.requires.ready_from c.within.ensures

pub returns-then-hopeless : goal.returns-then-hopeless
returns-then-hopeless t c = sought_hopeless c.requires.t_bound c.requires.ready_from c.if-hopeless.true c.hopeless.ensures

pub returns-then-not-same_shard : goal.returns-then-not-same_shard
returns-then-not-same_shard t c =
    let l = below c.if-t-eq512.false c.requires.t_bound in
    let n = c.requires.has_none c.if-not-tried.false in
    sought_leave l c.requires.ready_from (barred_none l c.requires.ready_from.begun c.if-barred.true c.barred.ensures)
    (sought_last c.requires.ready_from (none_last c.args.owner.now c.args.t c.same_shard.ensures c.if-not-same_shard.true n))

pub returns-then-barred : goal.returns-then-barred
returns-then-barred t c =
    let l = below c.if-t-eq512.false c.requires.t_bound in
    sought_leave l c.requires.ready_from (barred_none l c.requires.ready_from.begun c.if-barred.true c.barred.ensures)
    c.seek-then-barred.ensures

pub returns-then-seek-2 : goal.returns-then-seek-2
returns-then-seek-2 t c =
    let l = below c.if-t-eq512.false c.requires.t_bound in
    let n = c.requires.has_none c.if-not-tried.false in
    let f = unbarred_free _ _ _ c.barred.ensures c.if-barred.false in
    sought_found l c.requires.ready_from c.shard.ensures f n c.if-seek-2.true c.seek-2.ensures

pub returns-then-not-same_shard-2 : goal.returns-then-not-same_shard-2
returns-then-not-same_shard-2 t c =
    let l = below c.if-t-eq512.false c.requires.t_bound in
    let n = c.requires.has_none c.if-not-tried.false in
    let f = unbarred_free _ _ _ c.barred.ensures c.if-barred.false in
    restored_last l c.requires.ready_from c.shard.ensures f c.if-seek-2.false c.seek-2.ensures
    (none_last c.args.owner.now c.args.t c.same_shard-2.ensures c.if-not-same_shard-2.true n)

pub seek-requires-3 : goal.seek-requires-3
seek-requires-3 t c =
    let l = below c.if-t-eq512.false c.requires.t_bound in
    let n = c.requires.has_none c.if-not-tried.false in
    let f = unbarred_free _ _ _ c.barred.ensures c.if-barred.false in
    let e = c.shard.ensures in
    let g = c.if-seek-2.false in
    let v = c.seek-2.ensures in (
      omega (arith, c.decreases),
      (add-one-le l, (ready_restored l c.requires.ready_from e f g v, λ d. restored_none l c.requires.ready_from e f g v n c.same_shard-2.ensures c.if-not-same_shard-2.false)),
    )

pub returns : goal.returns
returns t c =
    let l = below c.if-t-eq512.false c.requires.t_bound in
    let f = unbarred_free _ _ _ c.barred.ensures c.if-barred.false in
    sought_else l c.requires.ready_from c.shard.ensures f c.if-seek-2.false c.seek-2.ensures c.seek-3.ensures
