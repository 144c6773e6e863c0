-- Theorems of the moves file: its windows by their places, and blocks of it one after another.
pub mod Definitions
pub mod Pieces
