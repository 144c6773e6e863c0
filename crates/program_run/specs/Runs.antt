-- The desk in what a run has come to.
use Rattle.std.specs.Prelude.{ℕ, List}
use Rattle.program_run.specs.Definitions.{Progress, Started, Underway, Ended}

-- the desk
unfoldable pub desk_in : Progress → List ℕ
desk_in (Started d) = d
desk_in (Underway σ x d) = d
desk_in (Ended r d) = d
