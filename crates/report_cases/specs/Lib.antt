-- Worked examples of reports, of what is kept, and of sound states.
pub mod Samples
pub mod Kept
pub mod Sound
pub mod Remembers
