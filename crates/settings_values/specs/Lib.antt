-- Settings: what their words mean, and when they are right.
pub mod Definitions
pub mod Laws
