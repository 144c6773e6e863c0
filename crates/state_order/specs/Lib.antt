-- The order event. Orders: what it answers and leaves. Reads: the theorems that the reader takes every order that it writes, and that
-- a node that follows it has the holder's log up to the target. Taken: what no refusal gives, and that the writer then refuses
-- nothing.
pub mod Definitions
pub mod Orders
pub mod Taken
pub mod Reads
