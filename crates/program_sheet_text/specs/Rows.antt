-- A row for each clause of the sheet's text: with the clause left out or turned round the row would be false. A text is the list of its
-- bytes.
use Rattle.std.specs.Prelude.{ℕ, ◌≡◌, refl}
use mathlib.Core.List.{List, [], ◌∷◌, ◌++◌, flatten}
use Rattle.base_laws.specs.Definitions.{count_below}
use Rattle.program_text.specs.Definitions.{digits_by, decimal, field, line}
use Rattle.program_sheet_text.specs.Definitions.{sheet, mask_line, rows_with, counts_line, sheet_text}

-- sixteen rows, with another count of each number
abbrev sixteen : List ℕ
sixteen = 0 ∷ 2 ∷ 3 ∷ 0 ∷ 4 ∷ 0 ∷ 5 ∷ 2 ∷ 0 ∷ 3 ∷ 2 ∷ 0 ∷ 4 ∷ 3 ∷ 2 ∷ 0 ∷ []

pub record SheetRows : Type 0 where
  -- with the last node down, then with it up; the nodes that are up already stay
  pub masks : sheet (λ h. h) 2 0 ≡ 0 ∷ 1 ∷ 2 ∷ 3 ∷ []
  pub masks_up : sheet (λ h. h) 1 4 ≡ 4 ∷ 5 ∷ []
  pub mask_alone : sheet (λ h. h) 0 3 ≡ 3 ∷ []
  -- "5 2": the mask and its number
  pub one_line : mask_line 5 2 ≡ 53 ∷ 32 ∷ 50 ∷ 10 ∷ []
  -- rows below the bound are counted
  pub counted : rows_with (2 ∷ 0 ∷ 2 ∷ []) 2 2 ≡ 1
  -- the lines of all masks, then the counts: plans, waits 2, 3, 4 and 5
  pub one_node : sheet_text (2 ∷ 0 ∷ []) 1 ≡ 48 ∷ 32 ∷ 50 ∷ 10 ∷ 49 ∷ 32 ∷ 48 ∷ 10 ∷ 49 ∷ 32 ∷ 49 ∷ 32 ∷ 48 ∷ 32 ∷ 48 ∷ 32 ∷ 48 ∷ 10 ∷ []
  pub four-nodes :
      sheet_text sixteen 4
      ≡ (48 ∷ 32 ∷ 48 ∷ 10 ∷ [])
      ++ (49 ∷ 32 ∷ 50 ∷ 10 ∷ [])
      ++ (50 ∷ 32 ∷ 51 ∷ 10 ∷ [])
      ++ (51 ∷ 32 ∷ 48 ∷ 10 ∷ [])
      ++ (52 ∷ 32 ∷ 52 ∷ 10 ∷ [])
      ++ (53 ∷ 32 ∷ 48 ∷ 10 ∷ [])
      ++ (54 ∷ 32 ∷ 53 ∷ 10 ∷ [])
      ++ (55 ∷ 32 ∷ 50 ∷ 10 ∷ [])
      ++ (56 ∷ 32 ∷ 48 ∷ 10 ∷ [])
      ++ (57 ∷ 32 ∷ 51 ∷ 10 ∷ [])
      ++ (49 ∷ 48 ∷ 32 ∷ 50 ∷ 10 ∷ [])
      ++ (49 ∷ 49 ∷ 32 ∷ 48 ∷ 10 ∷ [])
      ++ (49 ∷ 50 ∷ 32 ∷ 52 ∷ 10 ∷ [])
      ++ (49 ∷ 51 ∷ 32 ∷ 51 ∷ 10 ∷ [])
      ++ (49 ∷ 52 ∷ 32 ∷ 50 ∷ 10 ∷ [])
      ++ (49 ∷ 53 ∷ 32 ∷ 48 ∷ 10 ∷ [])
      ++ (54 ∷ 32 ∷ 52 ∷ 32 ∷ 51 ∷ 32 ∷ 50 ∷ 32 ∷ 49 ∷ 10 ∷ [])

pub sheet_rows_hold : SheetRows
unfolding sheet mask_line rows_with counts_line sheet_text flatten count_below digits_by decimal field line
sheet_rows_hold =
    record {
      masks = refl;
      masks_up = refl;
      mask_alone = refl;
      one_line = refl;
      counted = refl;
      one_node = refl;
      four-nodes = refl;
    }
