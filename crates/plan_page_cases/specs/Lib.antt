-- Worked pages. Rows: case A and worlds beside it, a row for each clause of the definition. Pair: two worlds that differ in all that the
-- page of subgroup 0 may not depend on, and have one.
pub mod Rows
pub mod Pair
