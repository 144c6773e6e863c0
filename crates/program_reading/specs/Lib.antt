-- What reading promises of the bytes that come, and what a program that answers them promises.
pub mod Definitions
pub mod Reading
pub mod Laws
