-- Theorems that rest on what a wrong program may refuse.
pub mod Decided
pub mod Game
pub mod Once
