-- What an order says, how its records are stored one after another, and the table of its cuts.
pub mod Definitions
pub mod Orders
pub mod CutTables
pub mod Recorded
pub mod Stores
pub mod Readable
