-- What an argument asks for, and the text that answers it.
pub mod Definitions
pub mod Arguments
pub mod Words
