-- Theorems that rest on what a wrong program may refuse.
pub mod Agreed
pub mod Cases
pub mod Cells
pub mod Harmless
pub mod Kept
