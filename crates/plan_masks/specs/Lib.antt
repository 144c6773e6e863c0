-- What any set of held nodes would allow.
pub mod Definitions
pub mod Masks
pub mod Counting
pub mod Counted
pub mod Turns
pub mod Numbered
pub mod More
pub mod Rows
