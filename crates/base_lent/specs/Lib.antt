-- Bytes that a C caller lends, as words; and what a call answers and leaves in them.
pub mod Definitions
pub mod Lent
pub mod Answers
