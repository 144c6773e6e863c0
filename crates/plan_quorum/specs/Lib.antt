-- Waits 1 to 4 from the holders.
pub mod Answer
pub mod Quorum
