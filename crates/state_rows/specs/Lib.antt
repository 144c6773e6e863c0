-- What the events ask of a state's parts: its phase, and the rows of document 01's table that concern every event.
pub mod Definitions
pub mod Rows
pub mod Laws
pub mod Ready
pub mod Matches
