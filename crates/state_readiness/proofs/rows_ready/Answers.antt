-- `state_readiness::rows_ready` meets its contract: no view, a slot that is not sound, or the rows by the masks that were counted. Assumes
-- nothing.
use Prim.Native.Nat.{◌-◌, ◌^◌}
use mathlib.Core.Path.{refl}
use Rattle.std.specs.Prelude.{Some, None}
use native.Mathlib.Omega.{arith}
use Rattle.base_lent.specs.Definitions.{words_in}
use Rattle.settings_values.specs.Definitions.{nodes}
use Rattle.report_desk.specs.Bytes.{desk_length}
use Rattle.plan_masks.specs.Counted.{counted_from, uncounted}
use Rattle.state_readiness.specs.Definitions.{desk_says}
use Rattle.state_readiness.specs.Steps.{all_counted, view_refused, slot_refused, readies_refused, readies_told}
use Rattle.state_readiness.proofs.rows_ready.Goals as goal

pub returns-then-number-eq0 : goal.returns-then-number-eq0
returns-then-number-eq0 c =
    let a = c.args in
    let d = words_in a.desk.now in
    readies_refused a.settings.now (desk_says a.settings.now a.x d) _ (view_refused a.settings.now a.x d c.if-number-eq0.true)
    (λ z. omega arith) c.refuse.ensures

pub all_nodes-all-requires : goal.all_nodes-all-requires
all_nodes-all-requires c = omega (arith, c.nodes.ensures, c.requires.settings.1)

pub returns-in_default : goal.returns-in_default
returns-in_default c =
    let s = c in
    let a = s.args in
    let d = words_in a.desk.now in
    let e = all_counted a.settings.now a.x d (counted_from None) c.in_default.ensures c.all_nodes-all.ensures c.nodes.ensures in
    readies_refused a.settings.now (desk_says a.settings.now a.x d) _
    (slot_refused a.settings.now a.x d c.if-number-eq0.false
    (uncounted a.settings.now a.x.kept a.x.termination (2 ^ nodes a.settings.now - 1) d e))
    (λ z. omega arith) c.refuse-in_default.ensures

pub rows_of-requires : goal.rows_of-requires
rows_of-requires c =
    let p = c.requires in
    record { settings = p.settings.0; settings_bound = p.settings.1 }

pub returns : goal.returns
returns c =
    let s = c in
    let a = s.args in
    let d = words_in a.desk.now in
    let k = counted_from (Some c.in-Some.masks) in
    let e = all_counted a.settings.now a.x d k c.in-Some.ensures c.all_nodes-all.ensures c.nodes.ensures in
    readies_told a.settings.now a.x d k c.rows_of.result s.requires.settings.0 (desk_length a.desk.now s.requires.desk_len)
    c.if-number-eq0.false e refl
    c.rows_of.ensures
