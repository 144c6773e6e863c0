-- Finite sums over natural numbers and their laws; ascending lists of numbers and their order.
pub mod Definitions
pub mod Ranks
pub mod Picked
pub mod Sums
pub mod Lists
