-- Theorems that rest on what a wrong program may refuse.
pub mod Accepted
pub mod AcceptedAfter
pub mod Fits
pub mod Passing
