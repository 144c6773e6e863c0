-- The desk with a message in a node's slot, and the desk as bytes.
pub mod Definitions
pub mod Desk
pub mod Bytes
pub mod SlotsOf
pub mod Ends
