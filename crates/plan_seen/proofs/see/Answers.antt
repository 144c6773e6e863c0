-- `plan_seen::see` meets its contract: sound slots, then what the walk gives.
use mathlib.Core.Path.{refl, sym, ap, ◌∙◌}
use native.Mathlib.Omega.{arith}
use Rattle.report_walk.specs.Pairs.{FitWords}
use Rattle.plan_seen.specs.Fold.{holders_from, targets_from, holders_last, targets_last}
use Rattle.plan_seen.specs.Sight.{seen_none, seen_all}
use Rattle.base_lent.specs.Definitions.{words_in}
use Rattle.report_desk.specs.Bytes.{desk_length}
use Rattle.plan_seen.specs.Bytes.{desk_words}
use Rattle.plan_seen.proofs.see.Goals as goal

pub walk_nodes-requires : goal.walk_nodes-requires
walk_nodes-requires c = let s = c in
    record { settings = s.requires.settings; tables_of = s.requires.tables_of; desk_len = s.requires.desk_len; holders_value = (refl, refl) }

pub returns-then-not-walk_nodes : goal.returns-then-not-walk_nodes
returns-then-not-walk_nodes c = let a = c.args in
    let k = c.walk_nodes in
    c.none_seen.ensures ∙ seen_none a.settings.now a.v a.t a.held (words_in a.desk.now) (sym k.ensures.value ∙ c.if-not-walk_nodes.true)

pub holders_seen-holders-requires : goal.holders_seen-holders-requires
holders_seen-holders-requires c = let s = c in
    omega (arith, s.requires.tables_of.count, s.requires.settings.sizes.shards_to)

pub targets_seen-targets-requires : goal.targets_seen-targets-requires
targets_seen-targets-requires c = let s = c in
    omega (arith, s.requires.tables_of.count, s.requires.settings.sizes.shards_to)

pub returns : goal.returns
returns c = let s = c in
    let a = s.args in
    let k = c.walk_nodes in
    let good = c.if-not-walk_nodes.false in
    let ok = sym k.ensures.value ∙ good in
    let far = k.ensures.so_far good in
    let n = s.requires.tables_of.count in
    let words : FitWords (words_in a.desk.now) = desk_words a.desk.now s.requires.desk_len (λ i. omega (arith, c.type_inv.desk i)) in
    seen_all a.settings.now a.v a.t a.held (words_in a.desk.now) ok _ refl c.views_seen-views.ensures
    (c.holders_seen-holders.ensures ∙ ap (holders_from _) n ∙ holders_last a.settings.now a.v a.t a.held (words_in a.desk.now) s.requires.settings (desk_length a.desk.now s.requires.desk_len) ok _ _ far)
    (c.targets_seen-targets.ensures ∙ ap (targets_from a.t _) n ∙ targets_last a.settings.now a.v a.t a.held (words_in a.desk.now) s.requires.settings (desk_length a.desk.now s.requires.desk_len) ok _ _ far words)
