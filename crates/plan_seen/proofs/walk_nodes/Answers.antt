-- `plan_seen::walk_nodes` meets its contract. The invariant: the slots of the held nodes below n are sound, and the lists are their bests.
use Prim.Native.Nat.{ℕ, ◌+◌, ◌*◌}
use mathlib.Core.Path.{◌≡◌, refl, sym, ◌∙◌, subst}
use native.Mathlib.Omega.{arith}
use mathlib.Core.Bool.{false}
use mathlib.Core.List.{List}
use lib.ListN.{length-replicate}
use Rattle.base_laws.proofs.Below.{all_fails}
use Rattle.base_laws.specs.Bools.{clash}
use Rattle.settings_values.specs.Definitions.{Settings, shards}
use Rattle.report_views.specs.declared.Layout.{Layout}
use Rattle.report_views.specs.declared.Termination.{Termination}
use Rattle.report_views.specs.Definitions.{slots_ok}
use Rattle.report_desk.specs.SlotsOf.{node_ok, held_ok}
use Rattle.report_walk.specs.Pairs.{FitWords}
use Rattle.report_walk.specs.Kept.{TablesOf}
use Rattle.report_walk.specs.declared.Tables.{Tables}
use Rattle.plan_seen.specs.Nodes.{SlotIs}
use Rattle.plan_seen.specs.Fold.{SoFar}
use Rattle.plan_seen.specs.Quick.{KeptAs, stepped_both}
use Rattle.plan_seen.specs.Turns.{pairs_long, walked_none, walked_unheld, walked_held, walked_as}
use Rattle.base_laws.specs.Tables.{length_part}
use Rattle.base_lent.specs.Definitions.{words_in}
use Rattle.report_desk.specs.Bytes.{desk_length}
use Rattle.plan_seen.specs.Bytes.{desk_words, slot_pairs}
use Rattle.plan_seen.proofs.walk_nodes.Goals as goal
use Rattle.plan_seen.proofs.walk_nodes.Goals.{then-has+else-not-read_step, else-has}

-- the tables, part by part
kept-by : (σ : List ℕ) (v : Layout) (t : Termination) (x : Tables) → Settings σ → TablesOf σ v t x
    → KeptAs σ v t x.frame v.masks x.masks x.positions
kept-by σ v t x right e =
    record {
      right = right;
      tables = record { ready = e.ready; number = e.number; members = e.members; made = e.made; count = e.count; masks = e.masks; positions = e.positions };
      masks_are = refl;
    }

pub loop-n-init : goal.loop-n-init
loop-n-init c = let s = c in
    let a = s.args in
    walked_none a.settings.now a.v a.t a.held (words_in a.desk.now) s.requires.settings (desk_length a.desk.now s.requires.desk_len) _ a.holders.now a.tops.now (length-replicate {A = ℕ} 256 0) s.requires.holders_value.0 s.requires.holders_value.1

pub pairs-requires : goal.pairs-requires
pairs-requires c = let s = c in
    let l = c.loop-n in
    record { bytes_len = length_part (2048 * l.n) (2048 * l.n + 2048) s.args.desk.now (omega (arith, s.requires.desk_len, c.loop-n-test.true)) ∙ omega arith; out_len = l.invariant.pairs }

pub overflow_cast-node : goal.overflow_cast-node
overflow_cast-node c = omega (arith, c.loop-n-test.true)

pub quick_step-told-requires : goal.quick_step-told-requires
quick_step-told-requires c = let s = c in
    let count = s.requires.tables_of.count in
    record { holders_len = c.loop-n.invariant.lists; le_count = (omega (arith, count, s.requires.settings.sizes.shards_from), omega (arith, count, s.requires.settings.sizes.shards_to)) }

pub read_step-requires : goal.read_step-requires
read_step-requires c = let s = c in
    record { settings = s.requires.settings; holders_len = c.quick_step-told.ensures.holders_len_2; node_bound = c.loop-n-test.true; position_records = s.requires.tables_of.positions }

pub returns-then-not-read_step : goal.returns-then-not-read_step
unfolding slots_ok
returns-then-not-read_step c = let s = c in
    let a = s.args in
    let l = c.loop-n in
    let m = c.loop-n-test.true in
    let h = c.has in
    let q = c.quick_step-told in
    let k = c.read_step in
    let words : FitWords (words_in a.desk.now) = desk_words a.desk.now s.requires.desk_len (λ i. omega (arith, c.type_inv.desk i)) in
    let is : SlotIs (words_in a.desk.now) l.n _ = record { whole = desk_length a.desk.now s.requires.desk_len; words = words; pairs = slot_pairs a.desk.now s.requires.desk_len l.n m _ c.pairs.ensures } in
    let kept = kept-by a.settings.now a.v a.t a.tables s.requires.settings s.requires.tables_of in
    let step = stepped_both a.settings.now a.v a.t (words_in a.desk.now) l.n q.result k.result (λ e. q.ensures.quick_step.done e a.settings.now a.v a.t (words_in a.desk.now) kept is m) q.ensures.quick_step.same k.ensures.value (λ e. k.ensures.stepped e (words_in a.desk.now) is) in (record {
      value = sym (all_fails 32 (node_ok a.settings.now a.v a.t a.held (words_in a.desk.now)) l.n m
          (held_ok a.settings.now a.v a.t a.held (words_in a.desk.now) l.n false (sym h.ensures ∙ c.if-has.true) (sym step.sound ∙ c.if-not-read_step.true)));
      so_far = λ e. clash e refl;
    })

pub loop-n-preserved : goal.loop-n-preserved
loop-n-preserved c = let s = c in
    let a = s.args in
    let l = c.loop-n in
    let h = c.has in
    let m = c.loop-n-test.true in
    let words : FitWords (words_in a.desk.now) = desk_words a.desk.now s.requires.desk_len (λ i. omega (arith, c.type_inv.desk i)) in
    let kept = kept-by a.settings.now a.v a.t a.tables s.requires.settings s.requires.tables_of in
    elim c.if-has.branch [
      | then-has+else-not-read_step w ↦
          let pairs = slot_pairs a.desk.now s.requires.desk_len l.n m _ w.pairs.ensures in
          let is : SlotIs (words_in a.desk.now) l.n _ = record { whole = desk_length a.desk.now s.requires.desk_len; words = words; pairs = pairs } in
          walked_as a.settings.now a.v a.t a.held (words_in a.desk.now) (l.n + 1) w.holders-is w.tops-is w.b-is
          (walked_held a.settings.now a.v a.t a.held (words_in a.desk.now) (desk_length a.desk.now s.requires.desk_len) words l.n l.b l.holders l.tops m (sym h.ensures ∙ w.if-has.true) l.invariant
          w.read_step.result w.if-not-read_step.false _ _ _ (pairs_long _ _ pairs) w.read_step.ensures.holders_len_2
          (stepped_both a.settings.now a.v a.t (words_in a.desk.now) l.n w.quick_step-told.result w.read_step.result (λ e. w.quick_step-told.ensures.quick_step.done e a.settings.now a.v a.t (words_in a.desk.now) kept is m)
          w.quick_step-told.ensures.quick_step.same w.read_step.ensures.value (λ e. w.read_step.ensures.stepped e (words_in a.desk.now) is)))
      | else-has w ↦
          walked_as a.settings.now a.v a.t a.held (words_in a.desk.now) (l.n + 1) w.holders-is w.tops-is w.b-is
          (walked_unheld a.settings.now a.v a.t a.held (words_in a.desk.now) (desk_length a.desk.now s.requires.desk_len) l.n l.b l.holders l.tops m (sym h.ensures ∙ w.if-has.false) l.invariant)
    ]

pub returns : goal.returns
unfolding slots_ok
returns c = let a = c.args in
    let l = c.loop-n in
    let z : l.n ≡ 32 = omega (arith, l.invariant.upto, c.loop-n-test.false) in
    (record { value = sym (rw z at l.invariant.sound); so_far = λ e. subst (λ (x : ℕ). SoFar a.v a.t a.held (words_in a.desk.now) (shards a.settings.now) x l.holders l.tops) z l.invariant.far })
