-- The moves file: its lines, what is printed for it, and how blocks of it are taken.
pub mod Definitions
pub mod Tallies
pub mod Walking
