-- What serves private functions alone.
pub mod Passing
pub mod Putting
