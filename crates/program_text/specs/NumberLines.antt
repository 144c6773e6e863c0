-- Lines of refusals as they are printed: the record after 8, 9, 16 and 17, the head too, and none after any other number.
use Rattle.std.specs.Prelude.{[], ◌∷◌, ◌≡◌, refl}
use Rattle.base_ids.specs.Definitions.{refused, refused_at, located}
use Rattle.program_text.specs.Definitions.{digits_by, decimal, field, line, number_line}

pub record NumberLines : Type 0 where
  -- "number 8 2"
  pub with_record : number_line (refused_at 8 2) ≡ 110 ∷ 117 ∷ 109 ∷ 98 ∷ 101 ∷ 114 ∷ 32 ∷ 56 ∷ 32 ∷ 50 ∷ 10 ∷ []
  -- "number 9 127"
  pub with_last : number_line (refused_at 9 127) ≡ 110 ∷ 117 ∷ 109 ∷ 98 ∷ 101 ∷ 114 ∷ 32 ∷ 57 ∷ 32 ∷ 49 ∷ 50 ∷ 55 ∷ 10 ∷ []
  -- "number 17 0"
  pub with_head : number_line (refused_at 17 0) ≡ 110 ∷ 117 ∷ 109 ∷ 98 ∷ 101 ∷ 114 ∷ 32 ∷ 49 ∷ 55 ∷ 32 ∷ 48 ∷ 10 ∷ []
  -- "number 16 4"
  pub with-shard : number_line (refused_at 16 4) ≡ 110 ∷ 117 ∷ 109 ∷ 98 ∷ 101 ∷ 114 ∷ 32 ∷ 49 ∷ 54 ∷ 32 ∷ 52 ∷ 10 ∷ []
  -- "number 5"
  pub alone : number_line (refused 5) ≡ 110 ∷ 117 ∷ 109 ∷ 98 ∷ 101 ∷ 114 ∷ 32 ∷ 53 ∷ 10 ∷ []
  -- "number 10"
  pub ten_alone : number_line (refused 10) ≡ 110 ∷ 117 ∷ 109 ∷ 98 ∷ 101 ∷ 114 ∷ 32 ∷ 49 ∷ 48 ∷ 10 ∷ []
  -- "number 24"
  pub file_alone : number_line (refused 24) ≡ 110 ∷ 117 ∷ 109 ∷ 98 ∷ 101 ∷ 114 ∷ 32 ∷ 50 ∷ 52 ∷ 10 ∷ []

pub number_lines : NumberLines
unfolding located digits_by decimal field line number_line
number_lines =
    record {
      with_record = refl;
      with_last = refl;
      with_head = refl;
      with-shard = refl;
      alone = refl;
      ten_alone = refl;
      file_alone = refl;
    }
