-- When a restart is committed. Events: what happened, event by event. Commits: the theorem. Calls: every call of the planner is such an
-- event, by its own promise, and every state that is reached is one of these. Rows: the definitions on short sequences.
pub mod Events
pub mod Calls
pub mod Rows
