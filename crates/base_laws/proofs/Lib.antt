-- Theorems that rest on what a wrong program may refuse.
pub mod Below
pub mod Loops
pub mod Masks
pub mod Positions
pub mod Tables
