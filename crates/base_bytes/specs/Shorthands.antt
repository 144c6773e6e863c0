-- Shorthands of what is defined, for laws and proofs.
use Rattle.std.specs.Prelude.{ℕ, ◌+◌, ◌*◌}

-- the word that four bytes make
abbrev pub word_from : ℕ → ℕ → ℕ → ℕ → ℕ
word_from a b c d = a + 256 * b + 65536 * c + 16777216 * d
