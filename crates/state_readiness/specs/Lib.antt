-- Readiness. Readying: when it is refused and what it hands back. Steps: row by row, for the code. Answers: each row is what decide answers
-- with that mask held, and there is one outcome.
pub mod Definitions
pub mod Readying
pub mod Steps
pub mod Answers
