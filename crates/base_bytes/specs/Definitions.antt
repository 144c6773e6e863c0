-- Words as bytes: a word is four bytes, the lowest first.
use Rattle.std.specs.Prelude.{List, ℕ, ◌+◌, ◌*◌, ◌/◌, ◌%◌, ◌^◌, length, get_or}
use Rattle.base_laws.specs.Definitions.{tabulate}

-- word i of the bytes: bytes 4 i to 4 i + 3
unfoldable pub word_at : List ℕ → ℕ → ℕ
word_at bytes i =
    get_or bytes (4 * i) 0 + 256 * get_or bytes (4 * i + 1) 0 + 65536 * get_or bytes (4 * i + 2) 0 + 16777216 * get_or bytes (4 * i + 3) 0

-- the first n words of the bytes
unfoldable pub words_of : List ℕ → ℕ → List ℕ
words_of bytes n = tabulate n (word_at bytes)

-- byte k of the words: byte k % 4 of word k / 4
unfoldable pub byte_at : List ℕ → ℕ → ℕ
byte_at words k = get_or words (k / 4) 0 / 256 ^ (k % 4) % 256

-- the bytes of the words
unfoldable pub bytes_of : List ℕ → List ℕ
bytes_of words = tabulate (4 * length words) (byte_at words)
