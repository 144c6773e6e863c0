-- The writer never refuses the order of a held node under a sound plan.
pub mod Parts
pub mod Passing
pub mod Says
pub mod Sound
pub mod Fits
