-- What a desk tells of the held nodes, and how one walk over their slots comes to it.
pub mod Sight
pub mod Nodes
pub mod Fold
pub mod Steps
pub mod Quick
pub mod Turns
pub mod Bytes
