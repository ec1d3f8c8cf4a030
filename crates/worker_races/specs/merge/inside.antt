-- What serves the crate's private parts alone.
pub mod Moments
pub mod Ordered
