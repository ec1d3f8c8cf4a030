-- What serves private functions alone.
pub mod Putting
pub mod Hearing
pub mod Fewness
