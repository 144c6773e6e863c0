-- Theorems that rest on what a wrong program may refuse.
pub mod Caps
pub mod Cases
pub mod Needed
