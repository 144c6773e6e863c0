-- What a report leads to: when it is refused, what is kept after it, and the desk with it.
pub mod Definitions
pub mod Reports
pub mod Words
pub mod Laws
pub mod AtOnce
