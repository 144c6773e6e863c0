-- What contracts cite, each definition after those that it builds on. Laws stand in the files beside this one.
use Rattle.std.specs.Prelude.{ℕ, zero, suc, ◌+◌, ◌*◌, ◌/◌, cond, List, [], ◌∷◌, ltb, length, take, drop}
use Rattle.base_laws.specs.Definitions.{replaced}
use Rattle.base_bytes.specs.Definitions.{word_at, words_of}

-- ---- An input is blocks of words, each preceded by its word count.

-- the word that an input starts with, the word count of its first block
abbrev pub block_count : List ℕ → ℕ
block_count b = word_at b 0

-- the bytes of the first block: as many as its count says, or what is there
unfoldable pub block_bytes : List ℕ → List ℕ
block_bytes b = take (4 * block_count b) (drop 4 b)

-- what follows the first block
unfoldable pub others : List ℕ → List ℕ
others b = drop (4 * block_count b) (drop 4 b)

-- the whole words of some bytes; up to three bytes after them carry nothing
unfoldable pub whole_words : List ℕ → List ℕ
whole_words b = words_of b (length b / 4)

-- the first k blocks. A cut count ends the input.
unfoldable pub blocks_by : ℕ → List ℕ → List (List ℕ)
blocks_by zero b = []
blocks_by (suc k) b = cond (ltb (length b) 4) [] (whole_words (block_bytes b) ∷ blocks_by k (others b))

-- all blocks of an input: no more than it has bytes
unfoldable pub blocks : List ℕ → List (List ℕ)
blocks b = blocks_by (length b) b

-- the bytes that the first block takes with its count, as far as they are looked at: 513 words are more than any right block has
unfoldable pub needed : List ℕ → ℕ
needed b = cond (ltb (length b) 4) 4 (cond (ltb (block_count b) 513) (4 + 4 * block_count b) 2056)

-- ---- The bytes of a block that is coming in.

-- the place of the next byte, where those of a block below `at` are there: `at`, or 0 where the block is whole
unfoldable pub next_place : List ℕ → ℕ → ℕ
next_place bytes at = cond (ltb at (needed (take at bytes))) at 0

-- the memory for blocks after bytes are fed, the first of them at place `at`: each stands at its place in its block, all other bytes are as they were
unfoldable pub bytes_laid : ℕ → List ℕ → List ℕ → List ℕ
bytes_laid at bytes [] = bytes
bytes_laid at bytes (b ∷ fed) = bytes_laid (next_place (replaced at (b ∷ []) bytes) (at + 1)) (replaced at (b ∷ []) bytes) fed
