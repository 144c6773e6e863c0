-- A slot as pairs of words, what the walk finds in them, and that a slot that it tells is sound.
pub mod Pairs
pub mod Seen
pub mod Sound
pub mod Updates
pub mod Ends
pub mod Kept
pub mod Told
