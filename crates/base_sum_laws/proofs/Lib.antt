-- Theorems that rest on what a wrong program may refuse.
pub mod Lists
pub mod Ranks
pub mod Sums
