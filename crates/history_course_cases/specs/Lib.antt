-- Worked courses of a group over several restarts.
pub mod Steps
pub mod Worked
pub mod Duties
pub mod Stories
pub mod Clauses
pub mod Ruling
pub mod Long
