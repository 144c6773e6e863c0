-- The chain itself is defined with the format; here is what a reader finds on it.
pub mod Steps
