-- Worked rounds: a world where each round is told, and gaps.
pub mod Rows
