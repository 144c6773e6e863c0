-- Theorems that rest on what a wrong program may refuse.
pub mod Dictionary
pub mod Duality
pub mod Floor
pub mod Least
pub mod Lesser
pub mod Ranks
pub mod Tests
