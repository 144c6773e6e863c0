-- Theorems that rest on what a wrong program may refuse.
pub mod Calls
pub mod Commits
