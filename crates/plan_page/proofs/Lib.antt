-- Theorems that rest on what a wrong program may refuse.
pub mod Choices
pub mod Holders
pub mod Same
