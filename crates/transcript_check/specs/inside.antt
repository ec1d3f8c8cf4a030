-- What serves private functions alone.
pub mod Denying
pub mod Steps
