-- `plan_losses::need_of` meets its contract: by whether the shard is one of them. Assumes nothing.
use mathlib.Core.Path.{sym, ◌∙◌}
use native.Mathlib.Omega.{arith}
use Rattle.plan_losses.specs.Needs.{need_other, need_own}
use borrow.Author.Rules.{rules}
use Rattle.plan_losses.proofs.need_of.Goals as goal

pub returns-then-not-needs_at : goal.returns-then-not-needs_at
returns-then-not-needs_at c = let a = c.args in
    let h = c.needs_at in
    (record { value = need_other a.settings.now a.g a.k a.s.0 (sym h.ensures ∙ c.if-not-needs_at.true); upper_bound = search rules })

pub returns : goal.returns
returns c = let s = c in
    let a = s.args in
    let h = c.needs_at in (record {
      value = need_own a.settings.now a.g a.k a.s.0 c.need.result (sym h.ensures ∙ c.if-not-needs_at.false) c.need.ensures;
      upper_bound = omega (arith, c.need.ensures, s.requires.settings.need_to a.s.0 s.requires.s_bound, s.requires.settings.sizes.sets_to);
    })
