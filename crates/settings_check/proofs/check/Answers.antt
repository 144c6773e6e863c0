-- `settings_check::check` meets its contract. Right sizes are what the other two checks require.
use mathlib.Core.Path.{sym, ◌∙◌}
use Rattle.settings_values.specs.Laws.{sizes_give}
use Rattle.settings_values.specs.Definitions.{settings_ok}
use Rattle.settings_check.proofs.check.Goals as goal

pub returns-then-not-sizes_ok : goal.returns-then-not-sizes_ok
unfolding settings_ok
returns-then-not-sizes_ok c = simp (sym c.sizes_ok.ensures, c.if-not-sizes_ok.true)

pub nodes_ok-requires : goal.nodes_ok-requires
nodes_ok-requires c = sizes_give _ (sym c.sizes_ok.ensures ∙ c.if-not-sizes_ok.false)

pub returns-then-not-nodes_ok : goal.returns-then-not-nodes_ok
unfolding settings_ok
returns-then-not-nodes_ok c = simp (sym c.sizes_ok.ensures, c.if-not-sizes_ok.false, sym c.nodes_ok.ensures, c.if-not-nodes_ok.true)

pub shards_ok-requires : goal.shards_ok-requires
shards_ok-requires c = sizes_give _ (sym c.sizes_ok.ensures ∙ c.if-not-sizes_ok.false)

pub returns : goal.returns
unfolding settings_ok
returns c = simp (sym c.sizes_ok.ensures, c.if-not-sizes_ok.false, sym c.nodes_ok.ensures, c.if-not-nodes_ok.false, sym c.shards_ok.ensures)
