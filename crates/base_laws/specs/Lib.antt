-- General definitions and laws, cited by every crate above.
pub mod Definitions
pub mod Bools
pub mod Below
pub mod Loops
pub mod Masks
pub mod Tables
pub mod Positions
pub mod Options
