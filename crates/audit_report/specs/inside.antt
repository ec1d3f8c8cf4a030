-- What serves private functions alone.
pub mod Naming
