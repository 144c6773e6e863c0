-- The readiness sheet as text (Sheets), its laws: what the code puts, and that every mask stands in it one time (Laws), and a row for each
-- clause (Rows).
pub mod Definitions
pub mod Sheets
pub mod Laws
pub mod Rows
