-- What contracts cite, each definition after those that it builds on. Laws stand in the files beside this one.
use Rattle.std.specs.Prelude.{ℕ, zero, suc, ◌+◌, ◌/◌, ◌%◌, ◌≤◌, min, cond, List, [], ◌∷◌, ◌++◌, ◌≡◌, ltb, length, take, drop}
use Rattle.base_ids.specs.declared.Refusal.{Refusal}
use Rattle.base_ids.specs.Definitions.{number_in, index_in, located}

-- ---- Numbers as text: decimal digits, a label with a number, and the line of a refusal. A text is the list of its bytes.

-- the decimal digits of n, which has at most k + 1 of them
unfoldable pub digits_by : ℕ → ℕ → List ℕ
digits_by zero n = (48 + n % 10) ∷ []
digits_by (suc k) n = cond (ltb n 10) ((48 + n) ∷ []) (digits_by k (n / 10) ++ ((48 + n % 10) ∷ []))

-- a word in decimal: a word has at most ten digits
unfoldable pub decimal : ℕ → List ℕ
decimal n = digits_by 9 n

-- a label and a number
unfoldable pub field : List ℕ → ℕ → List ℕ
field label n = label ++ decimal n

-- the same as a line, ended by a newline
unfoldable pub line : List ℕ → ℕ → List ℕ
line label n = field label n ++ (10 ∷ [])

-- "number "
abbrev pub number_label : List ℕ
number_label = 110 ∷ 117 ∷ 109 ∷ 98 ∷ 101 ∷ 114 ∷ 32 ∷ []

abbrev pub space : List ℕ
space = 32 ∷ []

-- number n, and after it the index of the record that number n tells, if it tells one
unfoldable pub number_line : Refusal → List ℕ
number_line r = cond (located (number_in r)) (field number_label (number_in r) ++ line space (index_in r)) (line number_label (number_in r))

-- ---- Text put into lent bytes from a place on: the bytes afterwards and the place after the text. What would lie past the end is left out.

-- the bytes with the text t from place `at` on
unfoldable pub with_text : List ℕ → ℕ → List ℕ → List ℕ
with_text out at t = take (length out) (take at out ++ (t ++ drop (at + length t) out))

-- the place after the text
unfoldable pub place_after : List ℕ → ℕ → List ℕ → ℕ
place_after out at t = min (length out) (at + length t)

-- the text t is put into the bytes `out` from place `at` on
pub record Puts (out : List ℕ) (at : ℕ) (t : List ℕ) (after : List ℕ) (r : ℕ) : Type 0 where
  pub bytes : after ≡ with_text out at t
  pub place : r ≡ place_after out at t
  -- these two follow, and spare callers a proof
  pub size : length after ≡ length out
  pub within : r ≤ length after
