-- A case and owners as a program's tables have them.
use Rattle.std.specs.Prelude.{List, ℕ, ◌+◌, ◌*◌, get_or}
use Rattle.search_laws.specs.Case.{Case}

-- sets by node, needs and caps by shard, costs of shard i and node n at i * 32 + n, and the cost of a node placed nowhere
abbrev pub case_of : List ℕ → List ℕ → List ℕ → List ℕ → ℕ → Case
case_of sets needs caps costs idle =
    record {
      set_of = λ n. get_or sets n 0;
      need = λ i. get_or needs i 0;
      cap = λ i. get_or caps i 0;
      cost = λ i n. get_or costs (i * 32 + n) 0;
      idle = idle;
    }

-- the owner of each node
abbrev pub owners_of : List ℕ → ℕ → ℕ
owners_of o n = get_or o n 0
