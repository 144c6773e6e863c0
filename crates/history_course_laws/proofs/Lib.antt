-- Theorems that rest on what a wrong program may refuse.
pub mod Counting
pub mod Ever
pub mod Lasting
