-- The C entry points for settings and messages: what they answer, and what they leave in the lent bytes.
pub mod Definitions
pub mod Limits
pub mod Layout
pub mod ReadCalls
pub mod WriteCalls
pub mod Turning
