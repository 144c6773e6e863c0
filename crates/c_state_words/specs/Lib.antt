-- The planner's state as words: definitions, and that the two ways are inverse.
pub mod Definitions
pub mod StateWords
pub mod Laws
pub mod Inverse
pub mod Stores
pub mod PageStored
pub mod PageRows
