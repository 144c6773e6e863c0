-- What the placement of all four subgroups promises, that one value meets it, and that caps change no wait and no total.
pub mod Definitions
pub mod Post
pub mod Steps
pub mod Unique
pub mod Uncapped
