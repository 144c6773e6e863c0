-- Theorems that rest on what a wrong program may refuse.
pub mod Laws
pub mod Values
