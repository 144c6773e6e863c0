-- Standard input as far as it was read, what a read adds, and blocks that reads fill.
pub mod Definitions
pub mod Inputs
pub mod Filling
