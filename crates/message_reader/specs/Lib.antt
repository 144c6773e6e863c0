-- Laws of the chain, the walks along it that a reader makes, messages followed by zeros, and where a told record lies.
pub mod Walks
pub mod Bodies
pub mod Padding
pub mod Readings
pub mod Told
