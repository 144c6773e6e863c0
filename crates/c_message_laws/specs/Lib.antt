-- Reader and writer are inverse on lent bytes. Lents: contents as bytes and back. RoundTrips: the theorems.
pub mod Lents
pub mod RoundTrips
pub mod Trips
