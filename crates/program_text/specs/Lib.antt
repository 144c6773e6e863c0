-- Numbers as text, and text put into lent bytes.
pub mod Definitions
pub mod Text
pub mod Puts
pub mod NumberLines
