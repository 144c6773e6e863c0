-- The message format: the chain of records, the contents, the rows of document 01's table, the words of a
-- message, what no refusal means, where a refusal is told, and where the records stand.
pub mod Definitions
pub mod Shorthands
pub mod Chain
pub mod Rising
pub mod Messages
pub mod Passed
pub mod Straight
pub mod Placing
pub mod Alike
pub mod Laws
