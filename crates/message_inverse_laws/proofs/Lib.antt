-- Theorems that rest on what a wrong program may refuse.
pub mod Calls
pub mod RoundTrip
pub mod Stands
pub mod StandsAfter
