-- Reader and writer are inverse. Written: the message that the writer makes. RoundTrip: the theorems. Calls: the same in terms
-- of what the two calls answer. Stands: the writer refuses as the reader would refuse the message, were it written.
pub mod Written
pub mod RoundTrip
pub mod Calls
pub mod Stands
