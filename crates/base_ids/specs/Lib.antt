-- The order of positions, and refusals.
pub mod Definitions
pub mod Order
pub mod Refusals
pub mod Results
