-- What C is answered of an open view.
pub mod Definitions
