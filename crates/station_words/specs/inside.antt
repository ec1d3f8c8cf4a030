-- What serves the crate's private parts alone.
pub mod Kept
pub mod Cards
