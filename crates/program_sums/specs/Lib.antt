-- The sum of bytes, and its laws.
pub mod Definitions
pub mod Sums
