-- The page call. Paging: when it is refused and what it hands back. Steps: row by row, for the code. Watchers: two states that agree on a
-- subgroup show its watcher one page, and a role that is not allowed learns nothing of state and desk.
pub mod Definitions
pub mod Paging
pub mod Steps
pub mod Watchers
