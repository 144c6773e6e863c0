-- Rows 9, 16 and 17 as one list, and the refusal by its first list.
pub mod Structure
pub mod Whole
pub mod Gathered
pub mod Laws
pub mod Sequence
pub mod Passes
pub mod Ways
