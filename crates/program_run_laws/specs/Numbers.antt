-- The numbers that a report can be refused by beside what is kept and remembered: 5 to 7, 10 to 13 and 18 alone, and 8, 9, 16 and 17
-- with a record.
use Rattle.std.specs.Prelude.{◌≤◌, true, ◌⊎◌, ◌≡◌}
use Rattle.base_ids.specs.declared.Refusal.{Refusal}
use Rattle.base_ids.specs.Definitions.{number_in, located}

-- a number that tells a record, with its index, or one from 5 to 13 or 18 alone
abbrev pub OfReport : Refusal → Type 0
OfReport r = (located (number_in r) ≡ true) ⊎ (((5 ≤ r.code) × (r.code ≤ 13)) ⊎ (r.code ≡ 18))
