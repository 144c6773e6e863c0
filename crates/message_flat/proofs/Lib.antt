-- Theorems that rest on what a wrong program may refuse.
pub mod Counted
pub mod Returns
pub mod Turns
pub mod Whole
