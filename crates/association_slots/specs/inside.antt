-- What serves the crate's private parts alone.
pub mod Plays
pub mod Kept
