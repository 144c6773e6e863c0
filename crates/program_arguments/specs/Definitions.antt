-- What contracts cite, each definition after those that it builds on. Laws stand in the files beside this one.
use Rattle.std.specs.Prelude.{ℕ, Bool, cond, ◌&&◌, ◌||◌, List, [], ◌∷◌, ◌++◌, eqb, length, get_or}
use Rattle.base_laws.specs.Definitions.{all_below}

-- ---- What answers an argument, as text. A text is the list of its bytes.

-- "--version", "--help"
abbrev pub version_word : List ℕ
version_word = 45 ∷ 45 ∷ 118 ∷ 101 ∷ 114 ∷ 115 ∷ 105 ∷ 111 ∷ 110 ∷ []

abbrev pub help_word : List ℕ
help_word = 45 ∷ 45 ∷ 104 ∷ 101 ∷ 108 ∷ 112 ∷ []

-- ": unknown argument, see --help: "
abbrev pub unknown_label : List ℕ
unknown_label =
    58 ∷ 32 ∷ 117 ∷ 110 ∷ 107 ∷ 110 ∷ 111 ∷ 119 ∷ 110 ∷ 32 ∷ 97 ∷ 114 ∷ 103 ∷ 117 ∷ 109 ∷ 101 ∷ 110 ∷ 116 ∷ 44 ∷ 32 ∷ 115 ∷ 101 ∷ 101 ∷ 32 ∷ 45 ∷ 45 ∷ 104
    ∷ 101 ∷ 108 ∷ 112 ∷ 58 ∷ 32 ∷ []

-- two texts have the same byte at a place
abbrev pub alike_at : List ℕ → List ℕ → ℕ → Bool
alike_at a b i = eqb (get_or a i 0) (get_or b i 0)

-- .. at every place, and one length
unfoldable pub same_text : List ℕ → List ℕ → Bool
same_text a b = eqb (length a) (length b) && all_below (length a) (alike_at a b)

-- a line: the program's name, a label and a text
unfoldable pub told_line : List ℕ → List ℕ → List ℕ → List ℕ
told_line name label text = ((name ++ label) ++ text) ++ (10 ∷ [])

-- the two words that a program knows
unfoldable pub is_known : List ℕ → Bool
is_known word = same_text word version_word || same_text word help_word

-- the answer to a word
unfoldable pub answer_text : List ℕ → List ℕ → List ℕ → List ℕ → List ℕ
answer_text word name version help = cond (same_text word version_word) (told_line name (32 ∷ []) version) (cond (same_text word help_word) help (told_line name unknown_label word))
