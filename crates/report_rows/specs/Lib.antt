-- A report against what is kept.
pub mod Definitions
pub mod Comparisons
pub mod Laws
