-- The rule by which a view on disk counts or is forgotten, and what follows for a group that keeps it.
pub mod Disks
pub mod Sent
pub mod Ruled
pub mod Stored
pub mod Lost
