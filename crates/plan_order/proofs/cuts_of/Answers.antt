-- `plan_order::cuts_of` meets its contract. The invariant: the cuts of the shards below s are stored.
use Prim.Native.Nat.{◌<◌}
use native.Mathlib.Omega.{arith}
use mathlib.Core.Path.{◌≡◌}
use Rattle.base_lent.specs.Definitions.{words_in}
use Rattle.settings_values.specs.Definitions.{shards}
use Rattle.report_desk.specs.Bytes.{desk_bytes}
use Rattle.plan_order.specs.CutTables.{cuts_none, cuts_turn, cuts_all, cut-carried}
use Rattle.plan_order.specs.Readable.{read_few}
use Rattle.plan_order.proofs.cuts_of.Goals as goal

pub report_at-report-requires : goal.report_at-report-requires
report_at-report-requires c =
    let s = c in
    let r = s.requires.readable_slot in
    record { desk_len = (desk_bytes s.args.desk.now r.words, r.below); node_value = r.chained }

pub loop-s-init : goal.loop-s-init
loop-s-init c =
    let a = c.args in
    let e = c.wide-count.ensures in (e, omega (arith, e, c.requires.sizes.shards_to), cuts_none a.plan (words_in a.desk.now) a.node.0)

pub cut_for-t-requires : goal.cut_for-t-requires
cut_for-t-requires c =
    let start = c in
    let i = c.loop-s in
    let r = c.report_at-report in
    let l = c.loop-s-test.true in
    let below : i.s < shards start.args.settings.now = omega (arith, i.invariant.0) in
    record { len_bound = read_few _ _ r.result r.ensures; readable_slot = start.requires.holders.holder i.s below }

pub loop-s-preserved : goal.loop-s-preserved
loop-s-preserved c =
    let start = c in
    let a = start.args in
    let i = c.loop-s in
    let r = c.report_at-report in
    let l = c.loop-s-test.true in
    let t = c.cut_for-t in (
      i.invariant.0,
      i.invariant.1,
      cuts_turn a.plan (words_in a.desk.now) a.node.0 i.s i.cuts t.result (omega (arith, i.invariant.1)) i.invariant.2
          (cut-carried a.plan (words_in a.desk.now) a.node.0 i.s r.result t.result r.ensures t.ensures),
    )

pub returns : goal.returns
returns c =
    let start = c in
    let a = start.args in
    let i = c.loop-s in
    let e : i.s ≡ shards a.settings.now = omega (arith, i.invariant.0, i.auto.s-end, c.loop-s-test.false) in
    cuts_all a.plan (words_in a.desk.now) a.node.0 a.settings.now i.s i.cuts start.requires.sizes.shards_to e i.invariant.2
