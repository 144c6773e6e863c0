-- Lemmas of this crate.
mod Written
pub mod Values
