-- Shorthands of what is defined, for laws and proofs.
use Rattle.std.specs.Prelude.{ℕ, ◌/◌, List, length}

-- how many records a message has
abbrev pub records : List ℕ → ℕ
records w = length w / 4
