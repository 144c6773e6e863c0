-- Theorems that rest on what a wrong program may refuse.
pub mod Adding
pub mod Cases
pub mod Choice
pub mod Exactly
pub mod Floor
pub mod Owners
pub mod Tables
pub mod Uncapped
pub mod Whole
