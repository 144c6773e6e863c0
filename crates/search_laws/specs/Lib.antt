-- Placements of one subgroup: what is valid, what it costs, which comes first, and the bounds by weights and by the sheet.
pub mod Case
pub mod Tables
pub mod Order
pub mod Tests
pub mod Shards
pub mod Duality
pub mod Least
pub mod Dictionary
pub mod Cut
pub mod Ranks
pub mod Lesser
pub mod Floor
