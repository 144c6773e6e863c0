-- The planner's state, its soundness, and each event: when it is refused and what it leads to.
pub mod Definitions
pub mod Refusing
pub mod Entry
pub mod Events
pub mod Decide
pub mod CallLaws
pub mod EventLaws
pub mod ReportLaws
pub mod DecideLaws
pub mod DecideWithin
