-- The held nodes whose loss means waiting.
pub mod Definitions
pub mod Losses
pub mod Needs
