-- What is known of a view that machines have on disk and none is known to have committed.
pub mod Definitions
pub mod Rows
