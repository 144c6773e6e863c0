-- Little-endian words in bytes.
pub mod Definitions
pub mod Shorthands
pub mod Words
