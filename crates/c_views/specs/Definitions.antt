-- What C is answered of an open view: class 4, and which of the four findings it is.
use Rattle.std.specs.Prelude.{ℕ, ◌+◌}
use Rattle.history_open.specs.declared.Finding.{Finding}
use Rattle.history_open.specs.declared.Finding.TheVariants.{Sure, Never, Undecided, Contradicted}
use Rattle.history_open.specs.Definitions.{judged}

-- the word given for a finding by its number
abbrev pub view_word : ℕ → ℕ
view_word finding = 67108864 + finding

abbrev pub finding_word : Finding → ℕ
finding_word Sure = view_word 1
finding_word Never = view_word 2
finding_word Undecided = view_word 3
finding_word Contradicted = view_word 4

-- the answer, by the masks of those who sent something of the view
unfoldable pub open_view_answer : ℕ → ℕ → ℕ → ℕ → ℕ → ℕ
open_view_answer members known have lack passed = finding_word (judged members known have lack passed)
