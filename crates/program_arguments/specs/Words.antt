-- Words and their answers: a program of the name "r", the version "1" and the help "h".
use Rattle.std.specs.Prelude.{ℕ, false, List, [], ◌∷◌, ◌≡◌, refl}
use Rattle.base_laws.specs.Definitions.{all_below}
use Rattle.program_arguments.specs.Definitions.{version_word, help_word, unknown_label, same_text, told_line, is_known, answer_text}

abbrev answer_of_r : List ℕ → List ℕ
answer_of_r word = answer_text word (114 ∷ []) (49 ∷ []) (104 ∷ [])

pub record WordRows : Type 0 where
  -- "r 1"
  pub version : answer_of_r version_word ≡ 114 ∷ 32 ∷ 49 ∷ 10 ∷ []
  pub help : answer_of_r help_word ≡ 104 ∷ []
  -- "--halp": one byte is another
  pub other : answer_of_r (45 ∷ 45 ∷ 104 ∷ 97 ∷ 108 ∷ 112 ∷ []) ≡ told_line (114 ∷ []) unknown_label (45 ∷ 45 ∷ 104 ∷ 97 ∷ 108 ∷ 112 ∷ [])
  -- "--hel" and "--help?": a byte is missing, and there is one more
  pub shorter : is_known (45 ∷ 45 ∷ 104 ∷ 101 ∷ 108 ∷ []) ≡ false
  pub longer : is_known (45 ∷ 45 ∷ 104 ∷ 101 ∷ 108 ∷ 112 ∷ 63 ∷ []) ≡ false
  pub empty : is_known [] ≡ false

pub word_rows : WordRows
unfolding all_below same_text told_line is_known answer_text
word_rows = record { version = refl; help = refl; other = refl; shorter = refl; longer = refl; empty = refl }
