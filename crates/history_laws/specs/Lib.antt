-- Histories, and the two claims on them.
pub mod Definitions
