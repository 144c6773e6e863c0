-- What a run prints.
pub mod Definitions
pub mod Members
pub mod Lines
pub mod Decisions
