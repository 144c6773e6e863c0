-- What the quick acceptance looks at, and that it accepts sound slots only.
pub mod Told
pub mod Accepts
