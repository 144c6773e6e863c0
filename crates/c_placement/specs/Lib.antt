-- The definitions that the contracts of the C functions cite.
pub mod Number
pub mod Rows
pub mod Copies
