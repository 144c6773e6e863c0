-- `place_rounds::start` meets its contract: the search's answer on the table where nothing costs anything. Assumes nothing.
use mathlib.Core.List.{List}
use mathlib.Core.Path.{subst}
use Prim.Native.Nat.{ℕ}
use Rattle.search_laws.specs.Tables.{case_of}
use Rattle.search_total.specs.Post.{WithinAnswer, as_solution}
use Rattle.place_rounds.proofs.start.Goals as goal

pub returns : goal.returns
returns c =
    let a = c.args in
    subst (λ (t : List ℕ). WithinAnswer (case_of a.sets.now a.needs.now a.caps.now t 0) 0 (as_solution c.first_within.result))
    c.repriced_table-free.ensures c.first_within.ensures
