-- One turn of the walk over two logs.
pub mod Walks
