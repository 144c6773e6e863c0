-- The readiness sheet as text. l: the number of each mask of held nodes.
use Rattle.std.specs.Prelude.{ℕ, zero, suc, ◌+◌, ◌^◌, eqb, get_or}
use mathlib.Core.List.{List, [], ◌∷◌, ◌++◌, flatten}
use Rattle.base_laws.specs.Definitions.{count_below}
use Rattle.program_text.specs.Definitions.{decimal, field, line, space}

-- for k undecided nodes, with the nodes of `up` up: with the last of them down, then with it up
unfoldable pub sheet {ℓ} : {A : Type ℓ} → (ℕ → A) → ℕ → ℕ → List A
sheet f zero up = f up ∷ []
sheet f (suc k) up = sheet f k up ++ sheet f k (up + 2 ^ k)

-- a mask and its number
unfoldable pub mask_line : ℕ → ℕ → List ℕ
mask_line h k = decimal h ++ line space k

-- the line of mask h
abbrev pub row_line : List ℕ → ℕ → List ℕ
row_line l h = mask_line h (get_or l h 0)

-- how many of the first m rows have number k
unfoldable pub rows_with : List ℕ → ℕ → ℕ → ℕ
rows_with l m k = count_below m (λ h. eqb (get_or l h 0) k)

-- how many have a plan, and how many each of waits 2 to 5
unfoldable pub counts_line : List ℕ → ℕ → List ℕ
counts_line l m =
    decimal (rows_with l m 0) ++ field space (rows_with l m 2) ++ field space (rows_with l m 3) ++ field space (rows_with l m 4)
    ++ field space (rows_with l m 5)
    ++ (10 ∷ [])

-- the sheet of n nodes: the line of every mask, and the counts
unfoldable pub sheet_text : List ℕ → ℕ → List ℕ
sheet_text l n = flatten (sheet (row_line l) n 0) ++ counts_line l (2 ^ n)
