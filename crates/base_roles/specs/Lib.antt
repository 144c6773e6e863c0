-- Roles, as words and what they allow.
pub mod Definitions
pub mod Roles
pub mod Words
