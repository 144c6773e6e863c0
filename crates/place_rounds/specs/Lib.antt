-- Improving rounds over the four subgroups.
pub mod Definitions
pub mod Laws
pub mod Owners
pub mod Tables
pub mod Parts
pub mod Turns
pub mod Post
pub mod Unique
pub mod Ends
