use mathlib.Core.Path.{◌≡◌}
use mathlib.Core.Bool.{true}
use mathlib.Core.List.{[]}
use Rattle.base_laws.specs.Definitions.{all_below}
use Rattle.search_laws.specs.Tables.{case_of, owners_of}
use Rattle.search_bounds.specs.Post.{steady, weights_of}
use Rattle.search_bounds.proofs.all_steady.Given as goal

abbrev pub invariant-loop-n : goal.invariant-loop-n
invariant-loop-n l = all_below l.n (steady (case_of l.sets [] [] l.costs l.idle) (weights_of l.wants l.rooms l.nodes l.pairs) (owners_of l.owner)) ≡ true
