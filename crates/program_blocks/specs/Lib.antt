-- Blocks of words in a stream of bytes: what they are, a block in a table, and the input that carries given blocks.
pub mod Definitions
pub mod Blocks
pub mod Held
pub mod Inputs
pub mod Intake
