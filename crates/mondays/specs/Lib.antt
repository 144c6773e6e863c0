-- What the program promises of the bytes that it reads and prints.
pub mod Definitions
pub mod Program
