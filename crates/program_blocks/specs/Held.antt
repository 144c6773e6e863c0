-- The words of a block in a table of 513 words: the words, then zeros.
use Rattle.std.specs.Prelude.{ℕ, ◌-◌, ◌/◌, ◌≤◌, ◌≡◌, take}
use mathlib.Core.List.{List, ◌++◌}
use Rattle.std.proofs.Common.{sym, ◌∙◌}
use Rattle.std.proofs.Math.Path.{ap, ap₂}
use native.Mathlib.Omega.{arith}
use Rattle.std.proofs.Math.ListN.{length, drop, length-take, length-replicate}
use Rattle.base_laws.specs.Definitions.{padded}
use Rattle.base_laws.specs.Tables.{zeros, zeros_left}
use Rattle.base_laws.proofs.Tables.{padded_append}
use Rattle.base_bytes.specs.Definitions.{words_of}
use Rattle.program_blocks.specs.declared.Block.{Block}
use Rattle.program_blocks.specs.Definitions.{whole_words}
use Rattle.program_blocks.specs.Blocks.{length_whole}

-- the words of a block's bytes
abbrev pub held : List ℕ → Block
held bytes = record { len = length (whole_words bytes); table = padded 513 (whole_words bytes) }

-- the part of a table into which the words of the bytes are stored
module _ (bytes : List ℕ) (h : length bytes ≤ 2052) where
  pub part-holds : (front : List ℕ) → front ≡ words_of bytes (length (take (length bytes / 4 - 0) (zeros 513)))
      → ◌≡◌ {A = Block} (record { len = length bytes / 4; table = front ++ drop (length bytes / 4 - 0) (zeros 513) }) (held bytes)
  unfolding whole_words
  part-holds front f =
      let n : length (take (length bytes / 4 - 0) (zeros 513)) ≡ length bytes / 4 =
      omega (arith, length-take (length bytes / 4 - 0) (zeros 513), length-replicate {A = ℕ} 513 0) in
      let words : front ≡ whole_words bytes = f ∙ ap (words_of bytes) n in
      let size : length (whole_words bytes) ≡ length bytes / 4 = length_whole bytes in
      let left : 513 - (length bytes / 4 - 0) ≡ 513 - length (whole_words bytes) = omega arith in
      let table : front ++ drop (length bytes / 4 - 0) (zeros 513) ≡ padded 513 (whole_words bytes) =
      ap₂ ◌++◌ words (zeros_left 513 (length bytes / 4 - 0) (omega arith) ∙ ap zeros left)
      ∙ padded_append 513 (whole_words bytes) (omega arith) in
      ap₂ (λ (k : ℕ) (l : List ℕ). record { len = k; table = l }) (sym size) table
