-- Theorems that rest on what a wrong program may refuse.
pub mod Accepted
pub mod Numbers
pub mod Once
pub mod Reaches
