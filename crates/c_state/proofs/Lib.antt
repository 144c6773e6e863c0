-- Laws over the values that definitions have.
pub mod Values
