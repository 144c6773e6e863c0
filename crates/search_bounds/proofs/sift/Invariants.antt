use Prim.Native.Nat.{ℕ, ◌+◌, ◌*◌, min}
use mathlib.Core.List.{List}
use lib.ListN.{get_or}
use Rattle.base_laws.specs.Definitions.{count}
use Rattle.search_bounds.specs.Rows.{Sifting}
use Rattle.search_bounds.proofs.sift.Given as goal

-- what node n asks of shard i
abbrev ask : List ℕ → List ℕ → ℕ → List ℕ → List ℕ → ℕ → ℕ → ℕ
ask sets costs want nodes pairs i n = get_or costs (i * 32 + n) 0 + min want (get_or pairs (i * 16 + get_or sets n 0) 0) + get_or nodes n 0

abbrev pub invariant-loop-m : goal.invariant-loop-m
invariant-loop-m l = Sifting (ask l.sets l.costs l.want l.nodes l.pairs l.i) l.row l.from l.least l.most l.m l.kept

abbrev pub decreases-loop-m : goal.decreases-loop-m
decreases-loop-m l = count l.m
