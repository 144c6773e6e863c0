-- Contents by their parts.
pub mod Parts
