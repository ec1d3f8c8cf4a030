-- What serves the crate's private parts alone.
pub mod Rooms
