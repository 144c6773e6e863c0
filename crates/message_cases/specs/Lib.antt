-- The worked examples.
pub mod Examples
pub mod Clauses
pub mod Rows
