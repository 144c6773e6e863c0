-- Windows of 64 consecutive moves, and what is printed of them.
pub mod Definitions
pub mod Sliding
