-- Theorems that rest on what a wrong program may refuse.
pub mod Found
pub mod Lost
pub mod Ruled
pub mod Stored
