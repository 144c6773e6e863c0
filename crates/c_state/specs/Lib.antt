-- What the C calls over the planner's state have in common.
pub mod Definitions
pub mod Calls
pub mod CallLaws
pub mod Barred
pub mod Stored
