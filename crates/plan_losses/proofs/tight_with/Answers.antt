-- `plan_losses::tight_with` meets its contract: more nodes serve than are needed, fewer, or just as many. Assumes nothing.
use Prim.Native.Nat.{◌<◌}
use mathlib.Core.Path.{◌≡◌, sym, ap, ◌∙◌}
use native.Mathlib.Omega.{arith}
use Rattle.plan_losses.specs.Needs.{held_in, needy_shards, served_by, tight_all, tight_more, served_counted, low_counted}
use Rattle.plan_losses.proofs.tight_with.Goals as goal

pub returns-then-all-wanted : goal.returns-then-all-wanted
returns-then-all-wanted c =
    let s = c in
    let a = s.args in
    let g = c.subgroup-g in
    let k = c.need-k in
    let j = c.needy-j in
    let v = c.served-all in
    let w = c.group_needs-wanted in
    let group : g.result < 4 = omega (arith, g.ensures, s.requires.settings.subgroup_to a.s.0 s.requires.held_bound.1) in
    let all : served_by (held_in a.settings.now a.held) (needy_shards a.settings.now g.result k.result) ≡ v.result =
    ap (served_by (held_in a.settings.now a.held)) (sym j.ensures.0) ∙ sym (served_counted (held_in a.settings.now a.held) a.counts.now j.result s.requires.counts_value) ∙ sym v.ensures in
    tight_all a.settings.now a.held g.result k.result s.requires.settings s.requires.held_bound.0 group 65535 (omega (arith, all, w.ensures, c.if-all-wanted.true))

pub returns : goal.returns
returns c =
    let s = c in
    let a = s.args in
    let g = c.subgroup-g in
    let k = c.need-k in
    let j = c.needy-j in
    let v = c.served-all in
    let w = c.group_needs-wanted in
    let group : g.result < 4 = omega (arith, g.ensures, s.requires.settings.subgroup_to a.s.0 s.requires.held_bound.1) in
    let all : served_by (held_in a.settings.now a.held) (needy_shards a.settings.now g.result k.result) ≡ v.result =
    ap (served_by (held_in a.settings.now a.held)) (sym j.ensures.0) ∙ sym (served_counted (held_in a.settings.now a.held) a.counts.now j.result s.requires.counts_value) ∙ sym v.ensures in
    tight_more a.settings.now a.held g.result k.result s.requires.settings s.requires.held_bound.0 group a.tight c.low_sets.result
    (omega (arith, all, w.ensures, c.if-wanted-all.false))
    (λ f h. let z = low_counted (held_in a.settings.now a.held) a.counts.now j.result c.low_sets.result s.requires.counts_value c.low_sets.ensures f h in
    omega (arith, z, j.ensures.0)) s.requires.tight
