-- What if this machine goes too. Previews: when a preview is refused and what it hands back. Split: while gathering, soundness is asked of each
-- held node by itself. Steps: row by row, for the code. Laws: what follows from the promises alone.
pub mod Definitions
pub mod Split
pub mod Steps
pub mod Laws
