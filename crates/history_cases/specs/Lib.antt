-- Document 01's runs.
pub mod Runs
pub mod Placed
pub mod Caps
pub mod Cases
pub mod Clauses
pub mod Ties
pub mod Told
pub mod Supposing
pub mod Needed
