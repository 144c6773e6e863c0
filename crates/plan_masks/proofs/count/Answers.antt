-- `plan_masks::count` meets its contract. The invariant: the slots of the nodes below n are sound, and the masks have those of them that count.
use Prim.Native.Nat.{ℕ, ◌+◌}
use mathlib.Core.Bool.{false}
use mathlib.Core.Path.{◌≡◌, sym, ap, ◌∙◌, subst, subst⁻¹}
use native.Mathlib.Omega.{arith}
use Rattle.base_laws.specs.Bools.{of_not_true, of_not_false}
use Rattle.base_laws.proofs.Below.{all_fails}
use Rattle.base_laws.specs.Tables.{filled}
use Rattle.base_lent.specs.Definitions.{words_in}
use Rattle.report_desk.specs.Bytes.{desk_length}
use Rattle.report_views.specs.Definitions.{slots_ok}
use Rattle.report_desk.specs.SlotsOf.{node_ok, held_ok}
use Rattle.plan_seen.specs.Sight.{seen_of}
use Rattle.plan_masks.specs.Counting.{counted_at, alone}
use Rattle.plan_masks.specs.Turns.{CountedTo, counted_none, counted_unheld, counted_held, counted_sound, counted_failed, seen_own}
use Rattle.plan_masks.proofs.count.Goals as goal
use Rattle.plan_masks.proofs.count.Goals.{then-has+else-not-seen, else-has}

pub loop-n-init : goal.loop-n-init
loop-n-init c = let s = c in
    counted_none s.args.settings.now s.args.v s.args.t s.args.all (words_in s.args.desk.now) s.requires.settings

pub see-seen-requires : goal.see-seen-requires
see-seen-requires c = let s = c in record { settings = s.requires.settings; tables_of = c.tables_of-tables.ensures; desk_len = s.requires.desk_len }

pub returns-then-not-seen : goal.returns-then-not-seen
unfolding slots_ok
returns-then-not-seen c = let s = c in
    let a = s.args in
    let d = words_in a.desk.now in
    let l = c.loop-n in
    let m = c.loop-n-test.true in
    let h = sym c.has.ensures ∙ c.if-has.true in
    let x = c.see-seen in
    let given = x.ensures ∙ ap (λ (k : ℕ). seen_of a.settings.now a.v a.t k d) (c.with.ensures ∙ alone l.n) in
    let own = seen_own a.settings.now a.v a.t a.all d s.requires.settings (desk_length a.desk.now s.requires.desk_len) l.n m h x.result given in
    counted_failed a.settings.now a.v a.t a.all d s.requires.settings
    (all_fails 32 (node_ok a.settings.now a.v a.t a.all d) l.n m
    (held_ok a.settings.now a.v a.t a.all d l.n false h (sym own ∙ of_not_true _ c.if-not-seen.true)))

pub count_node-requires : goal.count_node-requires
count_node-requires c = let s = c in
    record { masks_len = (c.loop-n.invariant.sized, c.loop-n-test.true); count_bound = omega (arith, c.wide-shards.ensures, c.shards.ensures, s.requires.settings.sizes.shards_to) }

pub loop-n-preserved : goal.loop-n-preserved
loop-n-preserved c = let s = c in
    let a = s.args in
    let d = words_in a.desk.now in
    let l = c.loop-n in
    let m = c.loop-n-test.true in
    let many = c.wide-shards.ensures ∙ c.shards.ensures in
    elim c.if-has.branch [
      | then-has+else-not-seen w ↦
          let h = sym c.has.ensures ∙ w.if-has.true in
          let given = w.see-seen.ensures ∙ ap (λ (k : ℕ). seen_of a.settings.now a.v a.t k d) (w.with.ensures ∙ alone l.n) in
          subst⁻¹ (CountedTo a.settings.now a.v a.t a.all d (l.n + 1))
          (w.masks-is ∙ w.count_node.ensures ∙ ap (λ (k : ℕ). filled k (counted_at w.see-seen.result.holders l.n l.masks) l.masks) many)
          (counted_held a.settings.now a.v a.t a.all d s.requires.settings (desk_length a.desk.now s.requires.desk_len) l.n m h w.see-seen.result given l.masks
          (of_not_false w.see-seen.result.ok w.if-not-seen.false) l.invariant)
      | else-has w ↦
          subst⁻¹ (CountedTo a.settings.now a.v a.t a.all d (l.n + 1)) w.masks-is
          (counted_unheld a.settings.now a.v a.t a.all d s.requires.settings l.n l.masks m (sym c.has.ensures ∙ w.if-has.false) l.invariant)
    ]

pub returns : goal.returns
returns c = let s = c in
    let a = s.args in
    let l = c.loop-n in
    let z : l.n ≡ 32 = omega (arith, l.invariant.upto, c.loop-n-test.false) in
    counted_sound a.settings.now a.v a.t a.all (words_in a.desk.now) s.requires.settings l.masks
    (subst (λ (k : ℕ). CountedTo a.settings.now a.v a.t a.all (words_in a.desk.now) k l.masks) z l.invariant)
